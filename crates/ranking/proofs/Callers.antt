-- What a caller has from the keys: the weak positions and the smallest reliabilities of the word. Assumes nothing.
use Prim.Native.Nat.{ℕ, zero, suc, ◌+◌, ◌*◌, ◌≤◌, min}
use native.Mathlib.Omega.{arith}
use mathlib.Core.Path.{◌≡◌, refl, ap, sym, ◌∙◌}
use mathlib.Core.List.{List, [], ◌∷◌, ◌++◌, map}
use lib.ListN.{length, take, drop, replicate, take-append-drop, length-drop}
use lib.Seq.{take_all, take-take, length-take-le}
use Rattle.chase.specs.Soft.{Ranked, rank, reliabilities}
use Rattle.chase.specs.Word.{Symbols}
use Rattle.chase.proofs.ranking.Keys.{Weakest, ranked_weakest, fewer_weakest, take_replicate}
use Rattle.chase.proofs.search.Ready.{Deep}
use Rattle.ranking.specs.Weakest.{key_of, ranked_keys, padded, weakest_keys}
use Rattle.ranking.proofs.Cursors.{length_padded}

-- eight places
length_weakest : (count : ℕ) (ss : List ℕ) → length (weakest_keys count ss) ≡ 8
unfolding weakest_keys
length_weakest count ss = length_padded (take (min count 8) (ranked_keys (take 1024 ss)))

-- the first n of a list's first n, with enough behind
take_front : (n m k x : ℕ) (xs : List ℕ) → n ≤ m → n ≤ k → take n (take n xs ++ replicate m x) ≡ take n (xs ++ replicate k x)
take_front zero m k x xs h l = refl
take_front (suc n) m k x [] h l = take_replicate (suc n) m x h ∙ sym (take_replicate (suc n) k x l)
take_front (suc n) m k x (y ∷ xs) h l = ap (λ (l : List ℕ). y ∷ l) (take_front n m k x xs (omega arith) (omega arith))

module _ (size : ℕ) (ss : List ℕ) (few : size ≤ 8) (most : length ss ≤ 1024) where
  front : take size (weakest_keys size ss)
      ≡ take size (map (λ (r : Ranked). r.z * 1024 + r.at) (rank 0 (reliabilities ss)) ++ replicate size 65535)
  unfolding weakest_keys padded ranked_keys key_of
  front =
      let e : min size 8 ≡ size = omega arith in
      rw (e, take_all 1024 ss most, take-take size 8 _ few)
      (take_front size 8 size 65535 (map key_of (rank 0 (reliabilities ss))) few (omega arith))

  -- they are the least, in order
  keys_weakest : Weakest size ss (weakest_keys size ss)
  keys_weakest = ranked_weakest size ss most (weakest_keys size ss) front

-- the two arrays of an answer
module _ (count : ℕ) (ss at more : List ℕ) (first : at ≡ take 6 (weakest_keys count ss)) (second : more ≡ drop 6 (weakest_keys count ss)) where
  length_first : length at ≡ 6
  length_first = ap length first ∙ length-take-le 6 (weakest_keys count ss) (omega (arith, length_weakest count ss))

  pub length_second : length more ≡ 2
  length_second = ap length second ∙ omega (arith, length-drop 6 (weakest_keys count ss), length_weakest count ss)

  -- the first holds the weak positions of a depth p, both the d smallest reliabilities
  pub keys_deep : (d p : ℕ) → count ≤ 8 → Symbols ss → length ss ≤ 1023 → p ≤ count → p ≤ 6 → p ≤ length ss → d ≤ count → d ≤ length ss
      → Deep d ss at (at ++ more) p
  keys_deep d p few symbols most kept depth there enough long =
      let all : Weakest count ss (weakest_keys count ss) = keys_weakest count ss few (omega arith) in
      let joined : take 8 (weakest_keys count ss) ≡ at ++ more
      = take_all 8 (weakest_keys count ss) (omega (arith, length_weakest count ss)) ∙ sym (rw (first, second) (take-append-drop 6 (weakest_keys count ss))) in
      record {
        ready = record {
          keys = rw first (fewer_weakest count p 6 ss (weakest_keys count ss) all kept depth);
          six = length_first;
          symbols = symbols;
          most = most;
          depth = depth;
          there = there;
        };
        least = rw (← joined) (fewer_weakest count d 8 ss (weakest_keys count ss) all enough (omega arith));
        there = long;
      }
