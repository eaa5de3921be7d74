-- Going on through syndromes, each the first t in one number, to the next for which positions are located, and how many were tried.
-- Assumes nothing.
use Prim.Native.Nat.{ℕ, ◌+◌, ◌-◌, ◌≤◌, ◌<◌}
use native.Mathlib.Omega.{arith}
use mathlib.Core.Path.{◌≡◌, refl, ap, sym, ◌∙◌, subst}
use mathlib.Core.Bool.{Bool, true, false}
use mathlib.Core.List.{List}
use mathlib.Core.Option.{Option, none}
use borrow.Author.Count.{below_more}
use Rattle.bch.proofs.tables.Placing.{positions}

-- from a place on and below another, nothing is located
abbrev pub Missed : (ℕ → Option (List ℕ)) → ℕ → ℕ → Type 0
Missed by from to = (j : ℕ) → from ≤ j → j < to → by j ≡ none

-- tries from one place on, each counted: the last of them is the first where something is located, or none is and all are made
pub record Next (by : ℕ → Option (List ℕ)) (from all tries : ℕ) (found : Bool) (count : ℕ) (ps : List ℕ) : Type 0 where
  pub least : from ≤ tries
  pub most : tries ≤ all
  pub there : found ≡ true → (from < tries) × (Missed by from (tries - 1)) × (positions found count ps ≡ by (tries - 1))
  pub ended : found ≡ false → (tries ≡ all) × Missed by from all

no_bool : {A : Type 0} → true ≡ false → A
no_bool e = absurd (let z : ◌≡◌ {A = ℕ} 0 1 = cc in omega arith)

module _ (by : ℕ → Option (List ℕ)) (from all : ℕ) (found : Bool) (count : ℕ) (ps : List ℕ) where
  -- one more place without
  pub missed_more : (j : ℕ) → Missed by from j → positions found count ps ≡ by j → found ≡ false → Missed by from (j + 1)
  unfolding positions
  missed_more j h e z i l u =
      below_more (λ (k : ℕ). from ≤ k → by k ≡ none) j (λ k w v. h k v w) (λ v. sym e ∙ ap (λ (b : Bool). positions b count ps) z) i u l

  -- a place with
  pub next_there : (j : ℕ) → from ≤ j → j < all → Missed by from j → positions found count ps ≡ by j → found ≡ true
      → Next by from all (j + 1) found count ps
  next_there j l u h e z =
      let q : j ≡ j + 1 - 1 = omega arith in
      record {
        least = omega arith;
        most = omega arith;
        there = λ _. (omega arith, subst (Missed by from) q h, e ∙ ap by q);
        ended = λ w. no_bool (sym z ∙ w);
      }

  -- none is left
  pub next_none : (j : ℕ) → from ≤ j → j ≤ all → all ≤ j → Missed by from j → found ≡ false → Next by from all j found count ps
  next_none j l u v h z =
      record { least = l; most = u; there = λ w. no_bool (sym w ∙ z); ended = λ w. (omega arith, λ i a b. h i a (omega arith)) }

-- of one place, what is located there
pub next_one : (by : ℕ → Option (List ℕ)) (tries : ℕ) (found : Bool) (count : ℕ) (ps : List ℕ) → Next by 0 1 tries found count ps
    → positions found count ps ≡ by 0
unfolding positions
next_one by tries true count ps h =
    let e : tries - 1 ≡ 0 = omega (arith, h.most) in
    (h.there refl).2 ∙ ap by e
next_one by tries false count ps h = sym ((h.ended refl).1 0 (omega arith) (omega arith))
