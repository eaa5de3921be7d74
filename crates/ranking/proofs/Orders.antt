-- The keys of a word in the weakest order are its keys by levels. Assumes nothing.
use Prim.Native.Nat.{ℕ, zero, suc, ◌+◌, ◌*◌, ◌%◌, min}
use native.Mathlib.Omega.{arith}
use native.Mathlib.Decide.{dec_le}
use mathlib.Core.Path.{◌≡◌, refl, ap, ap₂, sym, ◌∙◌}
use mathlib.Core.Bool.{Bool, true, false, cond}
use mathlib.Core.List.{List, [], ◌∷◌, ◌++◌, map, map-append}
use borrow.Author.Tests.{eqb-true}
use lib.Dec.{eqb}
use lib.ListN.{length, take, drop}
use lib.Seq.{take_all, take_at, drop_at}
use Rattle.chase.specs.Soft.{reliabilities}
use Rattle.chase.proofs.ranking.Keys.{reliability_lt}
use Rattle.chase.proofs.ranking.Levels.{at_level, levels, rank_levels}
use Rattle.ranking.specs.Weakest.{key_of, ranked_keys, padded, weakest_keys}
use Rattle.ranking.specs.Levels.{marks, marked, level_keys}

level_keys_lem : (k at : ℕ) (ss : List ℕ) → map key_of (at_level k at (reliabilities ss)) ≡ marked (k * 1024 + at) (marks k ss)
unfolding reliabilities at_level marked marks key_of
level_keys_lem k at [] = refl
level_keys_lem k at (s ∷ ss) = go (eqb (s % 16) k) refl (level_keys_lem k (suc at) ss)
  where
    go : (b : Bool) → eqb (s % 16) k ≡ b → map key_of (at_level k (suc at) (reliabilities ss)) ≡ marked (k * 1024 + suc at) (marks k ss)
        → map key_of (cond b (record { z = s % 16; at = at } ∷ at_level k (suc at) (reliabilities ss)) (at_level k (suc at) (reliabilities ss)))
        ≡ cond b ((k * 1024 + at) ∷ marked (suc (k * 1024 + at)) (marks k ss)) (marked (suc (k * 1024 + at)) (marks k ss))
    go true e i =
        let q : k * 1024 + suc at ≡ suc (k * 1024 + at) = omega arith in
        let z : s % 16 ≡ k = eqb-true _ _ e in
        ap₂ (λ (x : ℕ) (l : List ℕ). x ∷ l) (ap (λ (x : ℕ). x * 1024 + at) z) (rw q at i)
    go false e i =
        let q : k * 1024 + suc at ≡ suc (k * 1024 + at) = omega arith in
        rw q at i

levels_keys : (left k : ℕ) (ss : List ℕ) → map key_of (levels left k 0 (reliabilities ss)) ≡ level_keys left k ss
unfolding levels level_keys
levels_keys zero k ss = refl
levels_keys (suc left) k ss =
    map-append key_of (at_level k 0 (reliabilities ss)) (levels left (suc k) 0 (reliabilities ss))
    ∙ ap₂ (λ (xs ys : List ℕ). xs ++ ys) (level_keys_lem k 0 ss) (levels_keys left (suc k) ss)

-- the keys in the weakest order
ranked_levels : (ss : List ℕ) → level_keys 16 0 ss ≡ ranked_keys ss
unfolding ranked_keys
ranked_levels ss = sym (ap (map key_of) (rank_levels 16 0 (reliabilities ss) (λ i h. reliability_lt ss i)) ∙ levels_keys 16 0 ss)

-- the first 1024 symbols
first_symbols : (n : ℕ) (ss : List ℕ) → n ≡ min (length ss) 1024 → take n ss ≡ take 1024 ss
first_symbols n ss m =
    elim (dec_le (length ss) 1024) [
      | yes h ↦ take_all n ss (omega arith) ∙ sym (take_all 1024 ss h)
      | no h ↦ (let e : n ≡ 1024 = omega arith in rw e)
    ]

-- the two arrays that hold the first keys by levels
pub first_weakest : (count size n : ℕ) (ss at more : List ℕ) → size ≡ min count 8 → n ≡ min (length ss) 1024 → length at ≡ 6
    → at ++ more ≡ padded (take size (level_keys 16 0 (take n ss)))
    → (at ≡ take 6 (weakest_keys count ss)) × (more ≡ drop 6 (weakest_keys count ss))
unfolding weakest_keys
first_weakest count size n ss at more s m six e =
    let all : at ++ more ≡ padded (take (min count 8) (ranked_keys (take 1024 ss)))
    = e ∙ ap₂ (λ (j : ℕ) (l : List ℕ). padded (take j l)) s (ranked_levels (take n ss) ∙ ap ranked_keys (first_symbols n ss m)) in
    (sym (take_at at more 6 six) ∙ ap (take 6) all, sym (drop_at at more 6 six) ∙ ap (drop 6) all)
