-- The weakest order by levels: the positions of reliability 0 in rising order, then those of 1, and so on. Assumes nothing.
use Prim.Native.Nat.{ℕ, zero, suc, ◌+◌, ◌≤◌, ◌<◌}
use native.Mathlib.Omega.{arith}
use native.Mathlib.Decide.{dec_le}
use mathlib.Core.Path.{◌≡◌, refl, ap, sym, ◌∙◌}
use mathlib.Core.Bool.{Bool, true, false, cond}
use mathlib.Core.List.{List, [], ◌∷◌, ◌++◌}
use borrow.Author.Tests.{le-leb, lt-leb, eq-eqb, ne_eqb, eqb-true}
use lib.Dec.{eqb}
use lib.ListN.{length, get_or}
use Rattle.chase.specs.Soft.{Ranked, insert_ranked, rank}
use Rattle.chase.proofs.ranking.Ranking.{All, all_map}

-- the positions from `at` on of reliability k, rising
unfoldable pub at_level : ℕ → ℕ → List ℕ → List Ranked
at_level k at [] = []
at_level k at (z ∷ zs) = cond (eqb z k) (record { z = z; at = at } ∷ at_level k (suc at) zs) (at_level k (suc at) zs)

-- the positions of reliability k, then those of k + 1, and so on: `left` levels
unfoldable pub levels : ℕ → ℕ → ℕ → List ℕ → List Ranked
unfolding at_level
levels zero k at zs = []
levels (suc left) k at zs = at_level k at zs ++ levels left (suc k) at zs

-- ---- inserting

-- before those that are no weaker
pub insert_first : (r : Ranked) (rs : List Ranked) → All (λ s. r.z ≤ s.z) rs → insert_ranked r rs ≡ r ∷ rs
unfolding All insert_ranked
insert_first r [] a = refl
insert_first r (s ∷ rs) a = rw (le-leb r.z s.z a.0)

insert_past : (r : Ranked) (xs ys : List Ranked) → All (λ s. s.z < r.z) xs → insert_ranked r (xs ++ ys) ≡ xs ++ insert_ranked r ys
unfolding All insert_ranked
insert_past r [] ys a = refl
insert_past r (x ∷ xs) ys a = rw (lt-leb r.z x.z a.0) (ap (λ (l : List Ranked). x ∷ l) (insert_past r xs ys a.1))

all_append : (P : Ranked → Type 0) (xs ys : List Ranked) → All P xs → All P ys → All P (xs ++ ys)
unfolding All
all_append P [] ys a b = b
all_append P (x ∷ xs) ys a b = (a.0, all_append P xs ys a.1 b)

-- ---- what stands in a level

level_held : (k at : ℕ) (zs : List ℕ) → All (λ s. s.z ≡ k) (at_level k at zs)
unfolding All at_level
level_held k at [] = tt
level_held k at (z ∷ zs) = go (eqb z k) refl (level_held k (suc at) zs)
  where
    go : (b : Bool) → eqb z k ≡ b → All (λ s. s.z ≡ k) (at_level k (suc at) zs)
        → All (λ s. s.z ≡ k) (cond b (record { z = z; at = at } ∷ at_level k (suc at) zs) (at_level k (suc at) zs))
    go true e i = (eqb-true _ _ e, i)
    go false e i = i

levels_above : (left k at : ℕ) (zs : List ℕ) → All (λ s. k ≤ s.z) (levels left k at zs)
unfolding All levels
levels_above zero k at zs = tt
levels_above (suc left) k at zs =
    all_append (λ s. k ≤ s.z) (at_level k at zs) (levels left (suc k) at zs)
    (all_map (λ s. s.z ≡ k) (λ s. k ≤ s.z) (λ s h. omega arith) (at_level k at zs) (level_held k at zs))
    (all_map (λ s. suc k ≤ s.z) (λ s. k ≤ s.z) (λ s h. omega arith) (levels left (suc k) at zs) (levels_above left (suc k) at zs))

levels_none : (left k at : ℕ) → levels left k at [] ≡ []
unfolding levels
levels_none zero k at = refl
levels_none (suc left) k at = levels_none left (suc k) at

-- a position is in its own level only
levels_past : (left k at z : ℕ) (zs : List ℕ) → z < k → levels left k at (z ∷ zs) ≡ levels left k (suc at) zs
unfolding levels
levels_past zero k at z zs h = refl
levels_past (suc left) k at z zs h =
    let ne : z ≡ k → ⊥ = λ e. omega arith in
    rw (ne_eqb z k ne) (ap (λ (l : List Ranked). at_level k (suc at) zs ++ l) (levels_past left (suc k) at z zs (omega arith)))

levels_in : (left k at z : ℕ) (zs : List ℕ) → k ≤ z → z < k + left
    → insert_ranked (record { z = z; at = at }) (levels left k (suc at) zs) ≡ levels left k at (z ∷ zs)
unfolding levels
levels_in zero k at z zs h w = absurd (omega arith)
levels_in (suc left) k at z zs h w =
    elim (dec_le z k) [
      | yes e ↦ rw (eq-eqb z k (omega arith))
          (insert_first (record { z = z; at = at }) (levels (suc left) k (suc at) zs)
          (all_map (λ s. k ≤ s.z) (λ s. z ≤ s.z) (λ s l. omega arith) (levels (suc left) k (suc at) zs) (levels_above (suc left) k (suc at) zs))
          ∙ ap (λ (l : List Ranked). record { z = z; at = at } ∷ at_level k (suc at) zs ++ l) (sym (levels_past left (suc k) at z zs (omega arith))))
      | no e ↦ rw (ne_eqb z k (λ q. omega arith))
          (insert_past (record { z = z; at = at }) (at_level k (suc at) zs) (levels left (suc k) (suc at) zs)
          (all_map (λ s. s.z ≡ k) (λ s. s.z < z) (λ s l. omega arith) (at_level k (suc at) zs) (level_held k (suc at) zs))
          ∙ ap (λ (l : List Ranked). at_level k (suc at) zs ++ l) (levels_in left (suc k) at z zs (omega arith) (omega arith)))
    ]

-- reliabilities below n are ranked by n levels
pub rank_levels : (n at : ℕ) (zs : List ℕ) → ((i : ℕ) → i < length zs → get_or zs i 0 < n) → rank at zs ≡ levels n 0 at zs
unfolding rank
rank_levels n at [] b = sym (levels_none n 0 at)
rank_levels n at (z ∷ zs) b =
    let small : z < n = b 0 (omega arith) in
    ap (insert_ranked (record { z = z; at = at })) (rank_levels n (suc at) zs (λ i w. b (suc i) (omega arith)))
    ∙ levels_in n 0 at z zs (omega arith) (omega arith)
