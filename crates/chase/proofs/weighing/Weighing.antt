-- Laws of the weighing: the k smallest reliabilities of the positions that a word leaves as they are add up to no more than those of any k of
-- these positions, and what follows for the acceptance rule. Assumes nothing.
use Prim.Native.Nat.{ℕ, zero, suc, ◌+◌, ◌-◌, ◌≤◌, ◌<◌}
use native.Mathlib.Omega.{arith}
use native.Mathlib.Decide.{dec_le, ℕ_discrete}
use mathlib.Core.Path.{◌≡◌, refl, sym, ap, ◌∙◌}
use mathlib.Core.Bool.{Bool, true, false, cond}
use mathlib.Core.List.{List, [], ◌∷◌, map, List-discrete}
use borrow.Author.Tests.{leb-true, leb-false, ltb-true, ltb-false, le-ltb}
use lib.Dec.{eqb, leb, ltb, le→leb}
use lib.IntN.{pos, negsuc, sub_ℕ, ◌+ℤ◌}
use lib.Signed.{◌≤ℤ◌}
use lib.ListN.{length, take}
use Rattle.bch.specs.Code.{Code, Codeword, word_length, design_distance}
use Rattle.bch.specs.Words.{flips}
use Rattle.bch.proofs.codes.Settings.{Lawful}
use Rattle.bch.proofs.codes.Distance.{codewords_far}
use Rattle.bch.proofs.codes.Counting.{Compared, alike, unlike, compared, differ, differ_same, differ_most, flips_most}
use Rattle.chase.specs.Soft.{Ranked, insert_ranked, rank, sum, smallest_sum, distance, unflipped, allowance}
use Rattle.chase.proofs.ranking.Ranking.{All, all_map, Before, Ordered, ordered, length_rank}

-- ---- the k smallest

-- the sum of the first k
front : ℕ → List Ranked → ℕ
unfolding sum
front k ss = sum (take k (map (λ (r : Ranked). r.z) ss))

-- one more element: the first k get no heavier, ..
front_next : (k z : ℕ) (rs : List Ranked) → All (λ s. z ≤ s.z) rs → Ordered rs → k < length rs → z + front k rs ≤ front (suc k) rs
unfolding front All Ordered
front_next zero z [] l o h = absurd (omega arith)
front_next zero z (s ∷ rs) l o h = omega arith
front_next (suc k) z [] l o h = absurd (omega arith)
front_next (suc k) z (s ∷ rs) l o h =
    omega (arith, front_next k s.z rs (all_map (Before s) (λ v. s.z ≤ v.z) (λ v b. b.weaker) rs o.0) o.1 (omega arith))

front_in : (k : ℕ) (r : Ranked) (rs : List Ranked) → Ordered rs → k ≤ length rs → front k (insert_ranked r rs) ≤ front k rs
unfolding front Ordered insert_ranked
front_in zero r rs o h = omega arith
front_in (suc k) r [] o h = absurd (omega arith)
front_in (suc k) r (s ∷ rs) o h = go (leb r.z s.z) refl (front_in k r rs o.1 (omega arith))
  where
    go : (b : Bool) → leb r.z s.z ≡ b → front k (insert_ranked r rs) ≤ front k rs
        → front (suc k) (cond b (r ∷ s ∷ rs) (s ∷ insert_ranked r rs)) ≤ front (suc k) (s ∷ rs)
    go true e i =
        let le : r.z ≤ s.z = leb-true _ _ e in
        front_next k r.z (s ∷ rs) (le, all_map (Before s) (λ v. r.z ≤ v.z) (λ v b. omega (arith, b.weaker)) rs o.0) o (omega arith)
    go false e i = omega arith

-- .. and the first k + 1 get no heavier than the first k and the element
front_with : (k : ℕ) (r : Ranked) (rs : List Ranked) → front (suc k) (insert_ranked r rs) ≤ r.z + front k rs
unfolding front insert_ranked
front_with zero r [] = omega arith
front_with (suc k) r [] = omega arith
front_with zero r (s ∷ rs) = go (leb r.z s.z) refl
  where
    go : (b : Bool) → leb r.z s.z ≡ b → front 1 (cond b (r ∷ s ∷ rs) (s ∷ insert_ranked r rs)) ≤ r.z + front 0 (s ∷ rs)
    go true e = omega arith
    go false e = omega (arith, leb-false r.z s.z e)
front_with (suc k) r (s ∷ rs) = go (leb r.z s.z) (front_with k r rs)
  where
    go : (b : Bool) → front (suc k) (insert_ranked r rs) ≤ r.z + front k rs
        → front (suc (suc k)) (cond b (r ∷ s ∷ rs) (s ∷ insert_ranked r rs)) ≤ r.z + front (suc k) (s ∷ rs)
    go true i = omega arith
    go false i = omega arith

-- ---- the positions that a word does not flip

-- they are those that are left
length_unflipped : (zs xs ys : List ℕ) → length xs ≡ length zs → length ys ≡ length zs → length (unflipped zs xs ys) + flips xs ys ≡ length zs
unfolding unflipped flips
length_unflipped [] [] ys l m = refl
length_unflipped [] (x ∷ xs) ys l m = absurd (omega arith)
length_unflipped (z ∷ zs) [] ys l m = absurd (omega arith)
length_unflipped (z ∷ zs) (x ∷ xs) [] l m = absurd (omega arith)
length_unflipped (z ∷ zs) (x ∷ xs) (y ∷ ys) l m = go (eqb x y) (length_unflipped zs xs ys (omega arith) (omega arith))
  where
    go : (b : Bool) → length (unflipped zs xs ys) + flips xs ys ≡ length zs
        → length (cond b (z ∷ unflipped zs xs ys) (unflipped zs xs ys)) + (cond b 0 1 + flips xs ys) ≡ suc (length zs)
    go true i = omega arith
    go false i = omega arith

-- where e differs from c in k positions more than c from xs, it differs from xs in k positions that c does not flip
lightest_from : (at : ℕ) (zs cs es xs : List ℕ) → length cs ≡ length zs → length es ≡ length zs → length xs ≡ length zs
    → (k : ℕ) → k + flips cs xs ≤ flips cs es → front k (rank at (unflipped zs cs xs)) ≤ distance zs es xs
unfolding front rank flips distance unflipped
lightest_from at [] [] es xs l m n zero h = omega arith
lightest_from at [] [] es xs l m n (suc k) h = omega arith
lightest_from at [] (c ∷ cs) es xs l m n k h = absurd (omega arith)
lightest_from at (z ∷ zs) [] es xs l m n k h = absurd (omega arith)
lightest_from at (z ∷ zs) (c ∷ cs) [] xs l m n k h = absurd (omega arith)
lightest_from at (z ∷ zs) (c ∷ cs) (e ∷ es) [] l m n k h = absurd (omega arith)
lightest_from at (z ∷ zs) (c ∷ cs) (e ∷ es) (x ∷ xs) l m n k h =
    go (eqb c x) (eqb e x) (differ c e) (compared c x) (compared e x) refl k h
    (λ at. lightest_from at zs cs es xs (omega arith) (omega arith) (omega arith))
  where
    r : Ranked
    r = record { z = z; at = at }

    go : (b f : Bool) (u : ℕ) → Compared c x b → Compared e x f → differ c e ≡ u → (k : ℕ) → k + (cond b 0 1 + flips cs xs) ≤ u + flips cs es
        → ((at : ℕ) (k : ℕ) → k + flips cs xs ≤ flips cs es → front k (rank at (unflipped zs cs xs)) ≤ distance zs es xs)
        → front k (rank at (cond b (z ∷ unflipped zs cs xs) (unflipped zs cs xs))) ≤ cond f 0 z + distance zs es xs
    go true true u (alike p) (alike q) s k h i = omega (
      arith,
      front_in k r (rank (suc at) (unflipped zs cs xs)) (ordered (suc at) (unflipped zs cs xs))
          (omega (arith, differ_same c e (p ∙ sym q), flips_most cs es, length_rank (suc at) (unflipped zs cs xs), length_unflipped zs cs xs (omega arith) (omega arith))),
      i (suc at) k (omega (arith, differ_same c e (p ∙ sym q))),
    )
    go true false u (alike p) (unlike q) s zero h i = omega arith
    go true false u (alike p) (unlike q) s (suc k) h i =
        omega (arith, front_with k r (rank (suc at) (unflipped zs cs xs)), i (suc at) k (omega (arith, differ_most c e)))
    go false true u (unlike p) (alike q) s k h i = omega (arith, i at k (omega (arith, differ_most c e)))
    go false false u (unlike p) (unlike q) s k h i = omega (arith, i at k (omega (arith, differ_most c e)))

-- the allowance of a word, from d alone: a word that differs from it in d positions or more is at least so far
pub allowance_least : (d : ℕ) (zs c e xs : List ℕ) → length c ≡ length zs → length e ≡ length zs → length xs ≡ length zs → d ≤ flips c e
    → allowance d zs c xs ≤ distance zs e xs
unfolding allowance smallest_sum front
allowance_least d zs c e xs l m n h = go (dec_le (flips c xs) d)
  where
    go : Dec (flips c xs ≤ d) → front (d - flips c xs) (rank 0 (unflipped zs c xs)) ≤ distance zs e xs
    go (yes k) = lightest_from 0 zs c e xs l m n (d - flips c xs) (omega arith)
    go (no k) = let q : d - flips c xs ≡ 0 = omega arith in rw q (omega arith)

-- ---- the acceptance rule

-- the margin A - L is what is left of A
pub margin_law : (A L : ℕ) → pos L +ℤ sub_ℕ A L ≡ pos A
margin_law A L = go (ltb A L) refl
  where
    go : (b : Bool) → ltb A L ≡ b → pos L +ℤ cond b (negsuc (L - suc A)) (pos (A - L)) ≡ pos A
    go true e = rw (le-ltb L (suc (L - suc A)) (omega (arith, ltb-true A L e))) (ap pos (omega (arith, ltb-true A L e)))
    go false e = ap pos (omega (arith, ltb-false A L e))

module _ (code : Code) (is_code : Lawful code) (zs xs : List ℕ) (weighed : length zs ≡ word_length code) (long : length xs ≡ word_length code) where
  -- a codeword other than c is at least as far as the allowance of c
  pub rival : (c e : List ℕ) → Codeword code c → Codeword code e → (c ≡ e → ⊥) → allowance (design_distance code) zs c xs ≤ distance zs e xs
  rival c e v w ne = go (dec_le (design_distance code) (flips c e))
    where
      go : Dec (design_distance code ≤ flips c e) → allowance (design_distance code) zs c xs ≤ distance zs e xs
      go (yes h) = allowance_least (design_distance code) zs c e xs (v.long ∙ sym weighed) (w.long ∙ sym weighed) (long ∙ sym weighed) h
      go (no h) = absurd (ne (codewords_far code is_code c e v w (omega arith)))

  -- a codeword that is farther than another is not accepted, so its allowance need not be worked out
  pub farther : (c e : List ℕ) → Codeword code c → Codeword code e → distance zs e xs < distance zs c xs
      → allowance (design_distance code) zs c xs < distance zs c xs
  farther c e v w h = omega (arith, rival c e v w (λ q. let z : distance zs c xs ≡ distance zs e xs = ap (λ (y : List ℕ). distance zs y xs) q in omega arith))

  -- an accepted codeword is the least of the whole code
  pub accepted : (c : List ℕ) → Codeword code c → distance zs c xs ≤ allowance (design_distance code) zs c xs
      → (e : List ℕ) → Codeword code e → distance zs c xs ≤ distance zs e xs
  accepted c v h e w = go (List-discrete ℕ_discrete c e)
    where
      go : Dec (c ≡ e) → distance zs c xs ≤ distance zs e xs
      go (yes q) = rw q (omega arith)
      go (no n) = omega (arith, rival c e v w n)

  -- every other codeword is at least a margin farther
  pub runner_up : (c e : List ℕ) → Codeword code c → Codeword code e → (c ≡ e → ⊥)
      → (pos (distance zs c xs) +ℤ sub_ℕ (allowance (design_distance code) zs c xs) (distance zs c xs)) ≤ℤ pos (distance zs e xs)
  runner_up c e v w n = rw (margin_law (allowance (design_distance code) zs c xs) (distance zs c xs))
      (record { le = le→leb (allowance (design_distance code) zs c xs) (distance zs e xs) (rival c e v w n) })
