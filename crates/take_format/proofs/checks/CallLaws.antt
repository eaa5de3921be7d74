-- Laws of the calls on one word: what they answer and leave in the buffer, by what their checks say. Assumes nothing.
use Prim.Native.Nat.{ℕ}
use native.Mathlib.Omega.{arith}
use mathlib.Core.Path.{◌≡◌, refl, ap, ap₂, sym, ◌∙◌}
use mathlib.Core.Logic.{inl, inr}
use mathlib.Core.List.{List, [], ◌∷◌, ◌++◌}
use mathlib.Core.Option.{Option, none, some}
use Rattle.bch.specs.Code.{Code}
use Rattle.take_format.specs.Refusal.{Refusal, first_of, settings}
use Rattle.take_format.specs.Calls.{answered, unless_refused}

-- two lists of checks, the second where the first refuses nothing
pub first_joined : (os ps : List (Option Refusal)) → first_of (os ++ ps) ≡ first_of (first_of os ∷ ps)
unfolding first_of
first_joined [] ps = refl
first_joined (none ∷ os) ps = first_joined os ps
first_joined (some r ∷ os) ps = refl

-- a call refuses what its settings are refused for, ..
module _ (c : Code) (later : Option Refusal) where
  joined : first_of (settings c ++ later ∷ []) ≡ first_of (first_of (settings c) ∷ later ∷ [])
  joined = first_joined (settings c) (later ∷ [])

  pub settings_refused : (r : Refusal) → some r ≡ first_of (settings c) → first_of (settings c ++ later ∷ []) ≡ some r
  unfolding first_of
  settings_refused r e = joined ∙ ap (λ (o : Option Refusal). first_of (o ∷ later ∷ [])) (sym e)

  -- .. and otherwise what its other checks refuse it for
  pub later_refused : (o : Option Refusal) → none ≡ first_of (settings c) → o ≡ later → first_of (settings c ++ later ∷ []) ≡ o
  unfolding first_of
  later_refused none e h = joined ∙ ap₂ (λ (o p : Option Refusal). first_of (o ∷ p ∷ [])) (sym e) (sym h)
  later_refused (some r) e h = joined ∙ ap₂ (λ (o p : Option Refusal). first_of (o ∷ p ∷ [])) (sym e) (sym h)

-- a refusal is the answer, and keeps the buffer
pub answered_some : {A : Type 0} (o : Option Refusal) (r : Refusal) (a : A) → o ≡ some r → inl r ≡ answered o a
unfolding answered
answered_some o r a e = rw e refl

pub buffer_some : (o : Option Refusal) (r : Refusal) (old new : List ℕ) → o ≡ some r → old ≡ unless_refused o old new
unfolding unless_refused
buffer_some o r old new e = rw e refl

-- where there is none, the call gives its own
pub answered_none : {A : Type 0} (o : Option Refusal) (a : A) → o ≡ none → inr a ≡ answered o a
unfolding answered
answered_none o a e = rw e refl

pub buffer_none : (o : Option Refusal) (old new : List ℕ) → o ≡ none → new ≡ unless_refused o old new
unfolding unless_refused
buffer_none o old new e = rw e refl

-- ---- what an answer tells of the checks

pub answered_inl : {A : Type 0} (o : Option Refusal) (a : A) (r : Refusal) → inl r ≡ answered o a → some r ≡ o
unfolding answered
answered_inl none a r e = let z : ◌≡◌ {A = ℕ} 0 1 = cc in absurd (omega arith)
answered_inl (some s) a r e = cc

pub answered_inr : {A : Type 0} (o : Option Refusal) (a b : A) → inr b ≡ answered o a → (none ≡ o) × (b ≡ a)
unfolding answered
answered_inr none a b e = (refl, cc)
answered_inr (some s) a b e = let z : ◌≡◌ {A = ℕ} 0 1 = cc in absurd (omega arith)
