-- A word's bits from a position on, flipped: what stands behind the parity bits is had without the rest. Assumes nothing.
use Prim.Native.Nat.{ℕ, ◌+◌, ◌-◌, ◌≤◌, ◌<◌}
use native.Mathlib.Omega.{arith}
use mathlib.Core.Path.{◌≡◌, refl, ap, sym, ◌∙◌}
use mathlib.Core.Logic.{⊎_elim}
use mathlib.Core.Bool.{Bool, true, false, cond}
use mathlib.Core.List.{List, [], ◌∷◌}
use borrow.Author.Tests.{lt-ltb, le-ltb}
use lib.Dec.{ltb}
use lib.ListN.{length, get_or, drop, set}
use lib.Seq.{drop-set-lt, drop-set-add, get_or-drop}
use Rattle.galois.proofs.Tests.{lt_or_le}
use Rattle.bch.specs.Words.{Bits, flip, flipped_at}
use Rattle.bch.proofs.codes.Counting.{bits_flip, length_flip}

-- the bits of a word from `from` on, with the one at position x flipped, where it is among them
unfoldable pub flip_from : ℕ → ℕ → List ℕ → List ℕ
unfolding flip
flip_from from x ys = cond (ltb x from) ys (flip ys (x - from))

-- and with those at a list of positions flipped, one after the other
unfoldable pub flipped_from : ℕ → List ℕ → List ℕ → List ℕ
unfolding flip_from
flipped_from from [] ys = ys
flipped_from from (p ∷ P) ys = flipped_from from P (flip_from from p ys)

-- ---- one position

module _ (from x : ℕ) (ys : List ℕ) where
  -- it is not among them, ..
  pub flip_before : x < from → ys ≡ flip_from from x ys
  unfolding flip_from
  flip_before h = rw (lt-ltb x from h) refl

  -- .. or it is
  pub flip_behind : from ≤ x → set ys (x - from) (1 - get_or ys (x - from) 0) ≡ flip_from from x ys
  unfolding flip_from flip
  flip_behind h = rw (le-ltb x from h) refl

  pub length_from : length (flip_from from x ys) ≡ length ys
  unfolding flip_from
  length_from = go (ltb x from)
    where
      go : (b : Bool) → length (cond b ys (flip ys (x - from))) ≡ length ys
      go true = refl
      go false = length_flip ys (x - from)

  pub bits_from : Bits ys → Bits (flip_from from x ys)
  unfolding flip_from
  bits_from h = go (ltb x from)
    where
      go : (b : Bool) → Bits (cond b ys (flip ys (x - from)))
      go true = h
      go false = bits_flip ys (x - from) h

-- the last bits of a word that is flipped are these
drop_flip : (from x : ℕ) (xs : List ℕ) → drop from (flip xs x) ≡ flip_from from x (drop from xs)
unfolding flip
drop_flip from x xs = ⊎_elim before behind (lt_or_le x from)
  where
    before : x < from → drop from (set xs x (1 - get_or xs x 0)) ≡ flip_from from x (drop from xs)
    before h = drop-set-lt from xs x (1 - get_or xs x 0) h ∙ flip_before from x (drop from xs) h

    behind : from ≤ x → drop from (set xs x (1 - get_or xs x 0)) ≡ flip_from from x (drop from xs)
    behind h =
        let e : x ≡ from + (x - from) = omega arith in
        ap (λ (k : ℕ). drop from (set xs k (1 - get_or xs k 0))) e
        ∙ drop-set-add from xs (x - from) (1 - get_or xs (from + (x - from)) 0)
        ∙ ap (λ (v : ℕ). set (drop from xs) (x - from) (1 - v)) (sym (get_or-drop from xs (x - from) 0))
        ∙ flip_behind from x (drop from xs) h

-- ---- a list of positions

pub drop_flipped : (from : ℕ) (P xs : List ℕ) → drop from (flipped_at P xs) ≡ flipped_from from P (drop from xs)
unfolding flipped_at flipped_from
drop_flipped from [] xs = refl
drop_flipped from (p ∷ P) xs = drop_flipped from P (flip xs p) ∙ ap (flipped_from from P) (drop_flip from p xs)

-- from position 0 on, that is the word
pub flipped_whole : (P xs : List ℕ) → flipped_from 0 P xs ≡ flipped_at P xs
flipped_whole P xs = sym (drop_flipped 0 P xs)

pub length_flipped_from : (from : ℕ) (P ys : List ℕ) → length (flipped_from from P ys) ≡ length ys
unfolding flipped_from
length_flipped_from from [] ys = refl
length_flipped_from from (p ∷ P) ys = length_flipped_from from P (flip_from from p ys) ∙ length_from from p ys

pub bits_flipped_from : (from : ℕ) (P ys : List ℕ) → Bits ys → Bits (flipped_from from P ys)
unfolding flipped_from
bits_flipped_from from [] ys h = h
bits_flipped_from from (p ∷ P) ys h = bits_flipped_from from P (flip_from from p ys) (bits_from from p ys h)
