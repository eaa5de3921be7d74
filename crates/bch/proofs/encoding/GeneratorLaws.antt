-- The generators keep the product rule, and encode: each has degree m·t and its t roots, and the syndromes of m·t positions
-- are independent. Both are tests that are computed once over the whole table. Assumes nothing.
-- (The products are worked out for all eighteen generators, which is most of this crate's check: a proof from the roots would be
-- longer than the table is worth.)
use Prim.Native.Nat.{ℕ, zero, suc, ◌+◌, ◌-◌, ◌*◌, ◌/◌, ◌^◌, ◌≤◌, ◌<◌}
use native.Mathlib.Omega.{arith}
use native.Mathlib.Decide.{ℕ_discrete}
use mathlib.Core.Path.{◌≡◌, sym, subst, subst₂}
use mathlib.Core.Bool.{Bool, true, ◌&&◌}
use mathlib.Core.List.{List}
use lib.Dec.{T, eqb, eqb→eq}
use Rattle.galois.proofs.Tests.{and_left, and_right, eq_list, eq_list→, below, below→}
use Rattle.bch.specs.Code.{syndrome}
use Rattle.bch.specs.Generator.{generator, poly_product, conjugates, minimal, generator_rule}
use Rattle.bch.proofs.encoding.Numbers.{word}
use Rattle.bch.proofs.encoding.Recover.{recovers}
use Rattle.bch.proofs.encoding.Inverse.{inverse}

-- ---- the product rule

-- the generators of t + 1, t + 2, .., k of them, are the products with one minimal polynomial more, from p on
unfoldable pub rule_test : ℕ → ℕ → ℕ → List ℕ → Bool
unfolding eq_list word generator poly_product conjugates
rule_test m zero t p = true
rule_test m (suc k) t p =
    let q = poly_product m p (minimal m (2 * t + 1)) in
    eq_list (word (suc (m * suc t)) (generator m (suc t))) q && rule_test m k (suc t) q

-- computed
rule_passes : T (below 6 (λ i. rule_test (5 + i) 3 0 (generator_rule (5 + i) 0)))
unfolding below rule_test generator_rule
rule_passes = tt

rule_from : (m k t : ℕ) → T (rule_test m k t (generator_rule m t)) → (j : ℕ) → t < j → j ≤ t + k → word (suc (m * j)) (generator m j) ≡ generator_rule m j
unfolding rule_test generator_rule
rule_from m zero t h j low high = absurd (omega arith)
rule_from m (suc k) t h j low high = go (ℕ_discrete j (suc t)) (rule_from m k (suc t))
  where
    q : List ℕ
    q = generator_rule m (suc t)

    here : Bool
    here = eq_list (word (suc (m * suc t)) (generator m (suc t))) q

    go : Dec (j ≡ suc t) → (T (rule_test m k (suc t) q) → (i : ℕ) → suc t < i → i ≤ suc t + k → word (suc (m * i)) (generator m i) ≡ generator_rule m i)
        → word (suc (m * j)) (generator m j) ≡ generator_rule m j
    go (yes e) later =
        subst (λ (i : ℕ). word (suc (m * i)) (generator m i) ≡ generator_rule m i) (sym e)
        (eq_list→ (word (suc (m * suc t)) (generator m (suc t))) q (and_left here (rule_test m k (suc t) q) h))
    go (no n) later = later (and_right here (rule_test m k (suc t) q) h) j (omega arith) (omega arith)

-- a generator's coefficients are those of the product of its minimal polynomials
pub generator_rule_lem : (m t : ℕ) → 5 ≤ m → m ≤ 10 → 1 ≤ t → t ≤ 3 → word (suc (m * t)) (generator m t) ≡ generator_rule m t
generator_rule_lem m t a b c d =
    let h : T (rule_test (5 + (m - 5)) 3 0 (generator_rule (5 + (m - 5)) 0)) =
    below→ 6 (λ i. rule_test (5 + i) 3 0 (generator_rule (5 + i) 0)) rule_passes (m - 5) (omega arith) in
    let e : 5 + (m - 5) ≡ m = omega arith in
    rule_from m 3 0 (subst (λ (x : ℕ). T (rule_test x 3 0 (generator_rule x 0))) e h) t (omega arith) (omega arith)

-- ---- what encoding asks

module _ (m t : ℕ) where
  -- the generator has degree m·t, ..
  degree_test : Bool
  unfolding generator
  degree_test = eqb (generator m t / 2 ^ (m * t)) 1

  -- .. and the root α^(2j+1), ..
  root_test : ℕ → Bool
  unfolding syndrome word generator
  root_test j = eqb (syndrome m (2 * j + 1) (word (suc (m * t)) (generator m t))) 0

  -- .. and a linear map gives m·t positions back from their syndromes
  inverse_test : Bool
  unfolding recovers inverse
  inverse_test = recovers m (m * t) (inverse m t)

suit_test : ℕ → ℕ → Bool
unfolding degree_test root_test inverse_test below
suit_test m t = degree_test m t && (below t (root_test m t) && inverse_test m t)

-- computed
suit_passes : T (below 6 (λ i. below 3 (λ j. suit_test (5 + i) (1 + j))))
unfolding below suit_test
suit_passes = tt

-- what the test says of a pair
pub record Suits (m t : ℕ) : Type 0 where
  pub degree : generator m t / 2 ^ (m * t) ≡ 1
  pub roots : (j : ℕ) → j < t → syndrome m (2 * j + 1) (word (suc (m * t)) (generator m t)) ≡ 0
  pub independent : T (recovers m (m * t) (inverse m t))

-- what passes suits
test→suits : (m t : ℕ) → T (suit_test m t) → Suits m t
unfolding suit_test degree_test root_test inverse_test
test→suits m t h =
    let rest : Bool = below t (root_test m t) && inverse_test m t in
    let k : T rest = and_right (degree_test m t) rest h in
    record {
      degree = eqb→eq (generator m t / 2 ^ (m * t)) 1 (and_left (degree_test m t) rest h);
      roots = λ j l. eqb→eq (syndrome m (2 * j + 1) (word (suc (m * t)) (generator m t))) 0
          (below→ t (root_test m t) (and_left (below t (root_test m t)) (inverse_test m t) k) j l);
      independent = and_right (below t (root_test m t)) (inverse_test m t) k;
    }

-- every pair of m = 5 to 10 and t = 1 to 3 suits
pub suits_all : (m t : ℕ) → 5 ≤ m → m ≤ 10 → 1 ≤ t → t ≤ 3 → Suits m t
suits_all m t a b c d =
    let row : T (below 3 (λ j. suit_test (5 + (m - 5)) (1 + j))) =
    below→ 6 (λ i. below 3 (λ j. suit_test (5 + i) (1 + j))) suit_passes (m - 5) (omega arith) in
    let cell : T (suit_test (5 + (m - 5)) (1 + (t - 1))) = below→ 3 (λ j. suit_test (5 + (m - 5)) (1 + j)) row (t - 1) (omega arith) in
    let em : 5 + (m - 5) ≡ m = omega arith in
    let et : 1 + (t - 1) ≡ t = omega arith in
    test→suits m t (subst₂ (λ (x y : ℕ). T (suit_test x y)) em et cell)
