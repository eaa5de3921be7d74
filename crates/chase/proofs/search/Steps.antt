-- The search as a loop: its start, one try without a candidate, with one that ends it and with one that does not, and its end.
-- Assumes nothing.
use Prim.Native.Nat.{ℕ, zero, suc, ◌+◌, ◌-◌, ◌^◌, ◌≤◌, ◌<◌}
use native.Mathlib.Omega.{arith}
use native.Mathlib.Numerals.{add-one}
use mathlib.Core.Path.{◌≡◌, refl, ap, sym, subst⁻¹, ◌∙◌}
use mathlib.Core.List.{List}
use mathlib.Core.Option.{Option, none, some, map}
use borrow.Author.Tests.{le-leb, lt-leb, lt-ltb, le-ltb}
use Rattle.bch.specs.Code.{Code}
use Rattle.chase.specs.Soft.{Candidate, sure, answer, settled, better, candidate, tried, search_from, soft_stage}

-- ---- the better of two candidates

-- the first, ..
pub better_first : (c : Candidate) → better none c ≡ some c
unfolding better
better_first c = refl

-- .. one that is nearer, ..
pub better_nearer : (b c : Candidate) → c.L < b.L → better (some b) c ≡ some c
unfolding better
better_nearer b c h = rw (better, lt-ltb c.L b.L h)

-- .. and one that is not
pub better_kept : (b c : Candidate) → b.L ≤ c.L → better (some b) c ≡ some b
unfolding better
better_kept b c h = rw (better, le-ltb c.L b.L h)

-- ---- the search

module _ (code : Code) (p : ℕ) (ss : List ℕ) where
  -- the search from its first try on
  pub search_start : search_from code p ss (2 ^ p - 0) 0 none ≡ soft_stage code p ss
  unfolding soft_stage
  search_start = let e : 2 ^ p - 0 ≡ 2 ^ p = omega arith in rw e refl

  module _ (n j : ℕ) (best : Option Candidate) (more : j < n) where
    left : n - j ≡ suc (n - suc j)
    left = omega arith

    -- a try without a candidate
    pub step_none : map (candidate code p ss j) (tried code p ss j) ≡ none
        → search_from code p ss (n - j) j best ≡ search_from code p ss (n - (j + 1)) (j + 1) best
    unfolding search_from
    step_none h = go (tried code p ss j) refl h
      where
        go : (o : Option (List ℕ)) → tried code p ss j ≡ o → map (candidate code p ss j) o ≡ none
            → search_from code p ss (n - j) j best ≡ search_from code p ss (n - (j + 1)) (j + 1) best
        go none e h = rw (add-one, left, search_from, e)
        go (some c) e h = absurd (let z : ◌≡◌ {A = ℕ} 0 1 = cc in omega arith)

    -- a candidate that ends the search
    pub step_sure : (k : Candidate) → map (candidate code p ss j) (tried code p ss j) ≡ some k → k.L ≤ k.A
        → search_from code p ss (n - j) j best ≡ answer sure (j + 1) k
    unfolding search_from
    step_sure k h l = go (tried code p ss j) refl h
      where
        go : (o : Option (List ℕ)) → tried code p ss j ≡ o → map (candidate code p ss j) o ≡ some k
            → search_from code p ss (n - j) j best ≡ answer sure (j + 1) k
        go none e h = absurd (let z : ◌≡◌ {A = ℕ} 0 1 = cc in omega arith)
        go (some c) e h =
            let s : candidate code p ss j c ≡ k = cc in
            let l' : (candidate code p ss j c).L ≤ (candidate code p ss j c).A = subst⁻¹ (λ (k : Candidate). k.L ≤ k.A) s l in
            rw (add-one, left, search_from, e, le-leb (candidate code p ss j c).L (candidate code p ss j c).A l') (ap (answer sure (suc j)) s)

    -- and one that does not
    pub step_on : (k : Candidate) → map (candidate code p ss j) (tried code p ss j) ≡ some k → k.A < k.L
        → search_from code p ss (n - j) j best ≡ search_from code p ss (n - (j + 1)) (j + 1) (better best k)
    unfolding search_from
    step_on k h l = go (tried code p ss j) refl h
      where
        go : (o : Option (List ℕ)) → tried code p ss j ≡ o → map (candidate code p ss j) o ≡ some k
            → search_from code p ss (n - j) j best ≡ search_from code p ss (n - (j + 1)) (j + 1) (better best k)
        go none e h = absurd (let z : ◌≡◌ {A = ℕ} 0 1 = cc in omega arith)
        go (some c) e h =
            let s : candidate code p ss j c ≡ k = cc in
            let l' : (candidate code p ss j c).A < (candidate code p ss j c).L = subst⁻¹ (λ (k : Candidate). k.A < k.L) s l in
            rw (add-one, left, search_from, e, lt-leb (candidate code p ss j c).L (candidate code p ss j c).A l')
            (ap (λ (k : Candidate). search_from code p ss (n - suc j) (suc j) (better best k)) s)

  -- several tries without a candidate
  pub skip : (n f j k : ℕ) (best : Option Candidate) → k ≡ j + f → k ≤ n
      → ((i : ℕ) → j ≤ i → i < k → map (candidate code p ss i) (tried code p ss i) ≡ none)
      → search_from code p ss (n - j) j best ≡ search_from code p ss (n - k) k best
  skip n zero j k best e u h = let q : j ≡ k = omega arith in ap (λ (i : ℕ). search_from code p ss (n - i) i best) q
  skip n (suc f) j k best e u h =
      step_none n j best (omega arith) (h j (omega arith) (omega arith)) ∙ skip n f (j + 1) k best (omega arith) u (λ i a b. h i (omega arith) b)

  -- no try is left
  pub step_end : (n j : ℕ) (best : Option Candidate) → n ≡ j → search_from code p ss (n - j) j best ≡ settled n best
  unfolding search_from
  step_end n j best e =
      let z : n - j ≡ 0 = omega arith in
      rw z (ap (λ (k : ℕ). settled k best) (sym e))
