-- What is known of a sample that is refused, and of one that is not. Assumes nothing.
use Prim.Native.Nat.{ℕ, zero, suc, ◌+◌, ◌≤◌, ◌<◌}
use native.Mathlib.Omega.{arith}
use native.Mathlib.Numerals.{add-one}
use mathlib.Core.Path.{◌≡◌, refl, sym}
use mathlib.Core.Logic.{◌⊎◌, inl, inr}
use mathlib.Core.Bool.{true, false, ◌&&◌, ◌||◌}
use mathlib.Core.List.{List, [], ◌∷◌}
use mathlib.Core.Option.{none}
use borrow.Author.Tests.{lt-ltb}
use lib.Dec.{ltb, eqb}
use lib.Ieee.{Float, is_nan}
use lib.ListN.{length}
use Rattle.take_format.specs.Refusal.{refused}
use Rattle.take_format.specs.Samples.{samples_check}
use Rattle.quantiser.specs.Told.{is_bad}

-- it is asked without a branch
pub bad_is : (k : ℕ) (x : Float) → (ltb 1 k || (eqb k 1 && is_nan x)) ≡ is_bad k x
unfolding is_bad
bad_is zero x = refl
bad_is (suc zero) x = refl
bad_is (suc (suc k)) x = rw (lt-ltb 1 (suc (suc k)) (omega arith)) refl

-- of samples one after the other, one that is refused is refused for its kind, or for its level; ..
module _ (at : ℕ) (ks : List ℕ) (xs : List Float) where
  pub kind_refused : (k : ℕ) (x : Float) → 1 < k → refused 10 at ≡ samples_check at (k ∷ ks) (x ∷ xs)
  unfolding samples_check
  kind_refused zero x h = absurd (omega arith)
  kind_refused (suc zero) x h = absurd (omega arith)
  kind_refused (suc (suc k)) x h = refl

  pub level_refused : (k : ℕ) (x : Float) → true ≡ is_bad k x → k ≤ 1 → refused 11 at ≡ samples_check at (k ∷ ks) (x ∷ xs)
  unfolding is_bad samples_check
  level_refused zero x e h = let z : ◌≡◌ {A = ℕ} 0 1 = cc in absurd (omega arith)
  level_refused (suc zero) x e h = rw (samples_check, sym e) refl
  level_refused (suc (suc k)) x e h = absurd (omega arith)

  -- .. one that is not is passed over, ..
  pub passed : (k : ℕ) (x : Float) → false ≡ is_bad k x → samples_check at (k ∷ ks) (x ∷ xs) ≡ samples_check (at + 1) ks xs
  unfolding is_bad samples_check
  passed zero x e = rw add-one refl
  passed (suc zero) x e = rw (add-one, samples_check, sym e) refl
  passed (suc (suc k)) x e = let z : ◌≡◌ {A = ℕ} 0 1 = cc in absurd (omega arith)

-- .. and at the end of the kinds or the levels none is refused
pub none_left : (at : ℕ) (ks : List ℕ) (xs : List Float) → (length ks ≡ 0) ⊎ (length xs ≡ 0) → none ≡ samples_check at ks xs
unfolding samples_check
none_left at [] xs e = refl
none_left at (k ∷ ks) [] e = refl
none_left at (k ∷ ks) (x ∷ xs) (inl e) = absurd (omega arith)
none_left at (k ∷ ks) (x ∷ xs) (inr e) = absurd (omega arith)
