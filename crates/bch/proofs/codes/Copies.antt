-- A list copied into another one, entry by entry, as a loop does it: after i entries it is `paste` of the first i. Assumes nothing.
use Prim.Native.Nat.{ℕ, ◌+◌, ◌≤◌, ◌<◌}
use native.Mathlib.Omega.{arith}
use native.Mathlib.Numerals.{add-one}
use mathlib.Core.Path.{◌≡◌, ap, sym, ◌∙◌}
use mathlib.Core.List.{List, ◌++◌, append-nil}
use lib.ListN.{length, get_or, set, take, drop, drop_of_length-le}
use lib.Seq.{paste, paste-suc, take_all}

module _ (d : List ℕ) (at : ℕ) (s : List ℕ) (i j : ℕ) (place : j ≡ at + i) (xs : List ℕ) (so_far : xs ≡ paste d at s i) where
  -- one entry more, at j
  pub copied_more : (v : ℕ) → j < length d → i < length s → v ≡ get_or s i 0 → set xs j v ≡ paste d at s (i + 1)
  copied_more v hd hs e = rw (place, so_far, e) (paste-suc d at s i 0 (omega arith) hs ∙ ap (paste d at s) (sym (add-one i)))

  -- all entries, ..
  pub copied_all : length s ≤ i → xs ≡ take at d ++ s ++ drop j d
  copied_all h = rw place (so_far ∙ ap (λ (l : List ℕ). take at d ++ l ++ drop (at + i) d) (take_all i s h))

  -- .. up to the end
  pub copied_end : length s ≤ i → length d ≤ j → xs ≡ take at d ++ s
  copied_end h k = copied_all h ∙ ap (λ (l : List ℕ). take at d ++ s ++ l) (drop_of_length-le d k) ∙ append-nil (take at d ++ s)
