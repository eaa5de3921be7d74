-- The edges of a ladder, and samples, gone through one after the other, as a loop does it: what one more adds, and the end. And
-- what a ladder and samples are refused for, by what each check finds. Assumes nothing.
use Prim.Native.Nat.{ℕ, zero, suc, ◌+◌, ◌<◌}
use native.Mathlib.Omega.{arith}
use native.Mathlib.Numerals.{add-one}
use mathlib.Core.Path.{◌≡◌, refl, ap, sym, subst, ◌∙◌}
use mathlib.Core.Bool.{Bool, true, false, cond}
use mathlib.Core.List.{List, [], ◌∷◌}
use mathlib.Core.Option.{none}
use borrow.Author.Tests.{eq-eqb, ne_eqb}
use lib.Dec.{T}
use lib.Ieee.{Float, nan, inf, fin, lt, le, ne, is_nan}
use lib.Ieee.Compare.{differs_from_itself, nan_differs}
use lib.ListN.{length, get_or, drop, drop_of_length-le}
use lib.Seq.{drop-cons, drop-length}
use Rattle.take_format.specs.Refusal.{refused}
use Rattle.take_format.specs.Samples.{zero_level, rising, ladder_check, Sample, heard, sample_of, magnitude, edges_at_most, symbol, quantised}
use Rattle.take_format.specs.Samples.{samples_check, samples_refusal}
use Rattle.take_format.proofs.checks.RefusalLaws.{first_last}

-- ---- the edges

module _ (es : List Float) (i : ℕ) where
  -- an edge above the one before is passed over, one that is not ends it, and at the end all rise
  pub rising_more : (below : Float) → i < length es → lt below (get_or es i nan) ≡ true
      → rising below (drop i es) ≡ rising (get_or es i nan) (drop (i + 1) es)
  unfolding rising
  rising_more below h t = rw (add-one, drop-cons es i nan h, rising, t)

  pub rising_not : (below : Float) → i < length es → lt below (get_or es i nan) ≡ false → rising below (drop i es) ≡ false
  unfolding rising
  rising_not below h t = rw (drop-cons es i nan h, rising, t)

  pub rising_end : (below : Float) → i ≡ length es → rising below (drop i es) ≡ true
  unfolding rising
  rising_end below e = rw (e, drop-length)

  -- an edge more is counted or not, and at the end there are none
  pub count_more : (x : Float) → i < length es
      → edges_at_most x (drop i es) ≡ cond (le (get_or es i nan) x) 1 0 + edges_at_most x (drop (i + 1) es)
  unfolding edges_at_most
  count_more x h = rw (add-one, drop-cons es i nan h)

  pub count_end : (x : Float) → i ≡ length es → edges_at_most x (drop i es) ≡ 0
  unfolding edges_at_most
  count_end x e = rw (e, drop-length)

-- ---- the check of samples

-- what differs from itself is not a number
pub differs_nan : (b : Bool) (x : Float) → ne x x ≡ b → is_nan x ≡ b
unfolding is_nan
differs_nan true x e = ap is_nan (differs_from_itself x (subst T (sym e) tt))
differs_nan false nan e = sym nan_differs ∙ e
differs_nan false (inf s) e = refl
differs_nan false (fin s m d) e = refl

-- a kind above 1
kind_above : (at k : ℕ) (ks : List ℕ) (x : Float) (xs : List Float) → 1 < k → refused 10 at ≡ samples_check at (k ∷ ks) (x ∷ xs)
unfolding samples_check
kind_above at zero ks x xs h = absurd (omega arith)
kind_above at (suc zero) ks x xs h = absurd (omega arith)
kind_above at (suc (suc k)) ks x xs h = refl

module _ (ks : List ℕ) (xs : List Float) (i : ℕ) (long : length xs ≡ length ks) where
  -- a kind above 1 and a heard level that is not a number are refused, ..
  pub check_kind : i < length ks → 1 < get_or ks i 0 → refused 10 i ≡ samples_check i (drop i ks) (drop i xs)
  check_kind h k = rw (drop-cons ks i 0 h, drop-cons xs i nan (omega arith)) (kind_above i _ _ _ _ k)

  pub check_nan : i < length ks → get_or ks i 0 ≡ 1 → is_nan (get_or xs i nan) ≡ true → refused 11 i ≡ samples_check i (drop i ks) (drop i xs)
  unfolding samples_check
  check_nan h k n = rw (drop-cons ks i 0 h, drop-cons xs i nan (omega arith), k, samples_check, n)

  -- .. a blank and a level that is one are passed over, ..
  pub check_blank : i < length ks → get_or ks i 0 ≡ 0
      → samples_check i (drop i ks) (drop i xs) ≡ samples_check (i + 1) (drop (i + 1) ks) (drop (i + 1) xs)
  unfolding samples_check
  check_blank h k = rw (add-one, drop-cons ks i 0 h, drop-cons xs i nan (omega arith), k)

  pub check_heard : i < length ks → get_or ks i 0 ≡ 1 → is_nan (get_or xs i nan) ≡ false
      → samples_check i (drop i ks) (drop i xs) ≡ samples_check (i + 1) (drop (i + 1) ks) (drop (i + 1) xs)
  unfolding samples_check
  check_heard h k n = rw (add-one, drop-cons ks i 0 h, drop-cons xs i nan (omega arith), k, samples_check, n)

  -- .. and at the end none is refused
  pub check_end : i ≡ length ks → none ≡ samples_check i (drop i ks) (drop i xs)
  unfolding samples_check
  check_end e = rw (e, drop-length)

-- ---- symbols

-- a heard level's bit, and the count of its magnitude
pub symbol_heard : (es : List Float) (s : Sample) (x m : Float) (b n : ℕ) → s ≡ heard x → b ≡ cond (lt x zero_level) 16 0 → m ≡ magnitude x
    → n ≡ edges_at_most m es → b + n ≡ symbol es s
unfolding symbol
symbol_heard es s x m b n e eb em en = rw (e, eb, en, em)

-- the symbol at i is that of the sample at i
pub quantised_at : (es : List Float) (ks : List ℕ) (xs : List Float) (i : ℕ) → length xs ≡ length ks → i < length ks
    → get_or (quantised es ks xs) i 0 ≡ symbol es (sample_of (get_or ks i 0) (get_or xs i nan))
unfolding quantised
quantised_at es [] xs i l h = absurd (omega arith)
quantised_at es (k ∷ ks) [] i l h = absurd (omega arith)
quantised_at es (k ∷ ks) (x ∷ xs) zero l h = refl
quantised_at es (k ∷ ks) (x ∷ xs) (suc i) l h = quantised_at es ks xs i (omega arith) (omega arith)

-- ---- refusals

-- a ladder is refused where there are not fifteen edges, ..
pub ladder_length : (es : List Float) → (length es ≡ 15 → ⊥) → ladder_check es ≡ refused 5 0
unfolding ladder_check
ladder_length es h = simp (ne_eqb (length es) 15 h)

-- .. and fifteen where they do not rise
module _ (es : List Float) (long : length es ≡ 15) where
  pub ladder_falls : rising zero_level es ≡ false → ladder_check es ≡ refused 5 0
  unfolding ladder_check
  ladder_falls f = simp (eq-eqb (length es) 15 long, f)

  pub ladder_rises : rising zero_level es ≡ true → ladder_check es ≡ none
  unfolding ladder_check
  ladder_rises r = simp (eq-eqb (length es) 15 long, r)

-- samples are refused where the levels are not as many as the kinds, where the symbols are not, ..
module _ (ks : List ℕ) (xs : List Float) (ss : List ℕ) where
  pub samples_levels : (length xs ≡ length ks → ⊥) → samples_refusal ks xs ss ≡ refused 6 0
  unfolding samples_refusal
  samples_levels h = simp (ne_eqb (length xs) (length ks) h)

  pub samples_room : length xs ≡ length ks → (length ss ≡ length ks → ⊥) → samples_refusal ks xs ss ≡ refused 7 0
  unfolding samples_refusal
  samples_room l h = simp (eq-eqb (length xs) (length ks) l, ne_eqb (length ss) (length ks) h)

  -- .. and otherwise for what one of them is
  pub samples_each : length xs ≡ length ks → length ss ≡ length ks → samples_refusal ks xs ss ≡ samples_check 0 ks xs
  unfolding samples_refusal
  samples_each l m = simp (eq-eqb (length xs) (length ks) l, eq-eqb (length ss) (length ks) m) (first_last (samples_check 0 ks xs))

-- ---- a list by its entries

-- n entries from i on, ..
unfoldable pub entries : ℕ → ℕ → List Float → List Float
entries zero i es = []
entries (suc n) i es = get_or es i nan ∷ entries n (suc i) es

-- .. up to the end
pub entries_all : (n i : ℕ) (es : List Float) → length es ≡ i + n → entries n i es ≡ drop i es
unfolding entries
entries_all zero i es l = sym (drop_of_length-le es {i = i} (omega arith))
entries_all (suc n) i es l =
    ap (λ (xs : List Float). get_or es i nan ∷ xs) (entries_all n (suc i) es (omega arith)) ∙ sym (drop-cons es i nan (omega arith))
