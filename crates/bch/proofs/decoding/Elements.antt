-- The elements of t errors from the syndromes s1, s3 and s5, without search: none and one of them, two by a table of
-- quadratics, and for three whatever `More` is asked to be, where D2 is not 0. If a solution has these sums they are its
-- locators. Assumes nothing but, where t is 2 or 3, what the table `quad` or the elements `more` are asked to be.
use Prim.Native.Nat.{ℕ, zero, suc, ◌-◌, ◌^◌, ◌≤◌, ◌<◌}
use native.Mathlib.Omega.{arith}
use mathlib.Core.Path.{◌≡◌, refl, sym, ap, ◌∙◌, subst, subst₂, subst₃}
use mathlib.Core.Logic.{◌≢◌}
use mathlib.Core.List.Memᴰ
use mathlib.Core.List.{List, [], ◌∷◌}
use lib.Bits.{bit_xor, xor_zero_r}
use lib.ListN.{length}
use Rattle.galois.specs.Field.{mul, over}
use Rattle.galois.proofs.Primitive.{Primitive}
use Rattle.galois.proofs.Field2.{Field2, cancel}
use Rattle.galois.proofs.FieldOf.{El, same, none, one, plus, product, field}
use Rattle.galois.proofs.Logs.{over_lt, over_is}
use Rattle.bch.specs.Locator.{square, cubed, d2}
use Rattle.bch.proofs.codes.Trials.{mapping}
use Rattle.bch.proofs.algebra.Peterson.{sq, cube, det2}
use Rattle.bch.proofs.algebra.Unique.{Errors, power1, power3, power5, no_element, not_zero}
use Rattle.bch.proofs.algebra.Roots.{cube_not_zero, closed2, closed2_has, det2_zero}
use Rattle.bch.proofs.codes.Positions.{locators, length_locators, errors_locators, power1_locators, power3_locators, power5_locators}
use Rattle.bch.proofs.decoding.Located.{Solution}
use Rattle.bch.proofs.decoding.Decoder.{Covers, Finds}

-- ---- the table

-- quad holds elements, and a solution v of v² + v = c wherever there is one
pub record Quadratics (m : ℕ) (quad : ℕ → ℕ) : Type 0 where
  pub below : (c : ℕ) → c < 2 ^ m → quad c < 2 ^ m
  pub solves : (w : ℕ) → w < 2 ^ m
      → bit_xor (square m (quad (bit_xor (square m w) w))) (quad (bit_xor (square m w) w)) ≡ bit_xor (square m w) w

-- ---- the elements

-- a where x is 0, and b elsewhere
unfoldable pub if_zero {ℓ} : {A : Type ℓ} → ℕ → A → A → A
if_zero zero a b = a
if_zero (suc x) a b = b

-- one element, or none
unfoldable pub single : ℕ → List ℕ
unfolding if_zero
single s = if_zero s [] (s ∷ [])

-- two elements of sum s, not 0: one is s·w, where w² + w = c
unfoldable pub pair_of : ℕ → (ℕ → ℕ) → ℕ → ℕ → List ℕ
pair_of m quad s c = let x = mul m s (quad c) in x ∷ bit_xor x s ∷ []

-- two elements, by s1 and s3: c = D2 / s1³
unfoldable pub pair : ℕ → (ℕ → ℕ) → ℕ → ℕ → List ℕ
unfolding if_zero pair_of over
pair m quad s1 s3 = if_zero s1 [] (pair_of m quad s1 (over m (d2 m s1 s3) (cubed m s1)))

-- the elements that t errors can have: D2 tells one from more, and of three errors these are `more`
unfoldable pub elements : ℕ → (ℕ → ℕ) → (ℕ → ℕ → ℕ → List ℕ) → ℕ → ℕ → ℕ → ℕ → List ℕ
unfolding if_zero single pair
elements m quad more zero s1 s3 s5 = []
elements m quad more (suc zero) s1 s3 s5 = single s1
elements m quad more (suc (suc zero)) s1 s3 s5 = if_zero (d2 m s1 s3) (single s1) (pair m quad s1 s3)
elements m quad more (suc (suc (suc t))) s1 s3 s5 = if_zero (d2 m s1 s3) (single s1) (more s1 s3 s5)

-- ---- there are at most t of them

-- the first of two where x is 0, ..
pub zero_is {ℓ} : {A : Type ℓ} (x : ℕ) (a b : A) → x ≡ 0 → if_zero x a b ≡ a
unfolding if_zero
zero_is zero a b e = refl
zero_is (suc x) a b e = absurd (omega arith)

-- .. and the second elsewhere
pub zero_not {ℓ} : {A : Type ℓ} (x : ℕ) (a b : A) → x ≢ 0 → if_zero x a b ≡ b
unfolding if_zero
zero_not zero a b n = absurd (n refl)
zero_not (suc x) a b n = refl

-- it is no longer than both
pub either_short : (x k : ℕ) (a b : List ℕ) → length a ≤ k → length b ≤ k → length (if_zero x a b) ≤ k
unfolding if_zero
either_short zero k a b h l = h
either_short (suc x) k a b h l = l

single_short : (s k : ℕ) → 1 ≤ k → length (single s) ≤ k
unfolding single
single_short s k h = either_short s k [] (s ∷ []) (omega arith) (omega arith)

-- a pair is no more than two
pub pair_short : (m : ℕ) (quad : ℕ → ℕ) (s1 s3 k : ℕ) → 2 ≤ k → length (pair m quad s1 s3) ≤ k
unfolding pair
pair_short m quad s1 s3 k h = either_short s1 k [] (pair_of m quad s1 (over m (d2 m s1 s3) (cubed m s1))) (omega arith) (omega arith)

elements_short : (m : ℕ) (quad : ℕ → ℕ) (more : ℕ → ℕ → ℕ → List ℕ) (t : ℕ) → t ≤ 3 → (t ≡ 3 → (s1 s3 s5 : ℕ) → length (more s1 s3 s5) ≤ 3)
    → (s1 s3 s5 : ℕ) → length (elements m quad more t s1 s3 s5) ≤ t
unfolding elements
elements_short m quad more zero h f s1 s3 s5 = omega arith
elements_short m quad more (suc zero) h f s1 s3 s5 = single_short s1 1 (omega arith)
elements_short m quad more (suc (suc zero)) h f s1 s3 s5 =
    either_short (d2 m s1 s3) 2 (single s1) (pair m quad s1 s3) (single_short s1 2 (omega arith)) (pair_short m quad s1 s3 2 (omega arith))
elements_short m quad more (suc (suc (suc t))) h f s1 s3 s5 =
    either_short (d2 m s1 s3) (suc (suc (suc t))) (single s1) (more s1 s3 s5) (single_short s1 (suc (suc (suc t))) (omega arith))
    (omega (arith, f (omega arith) s1 s3 s5))

-- one more than k, of at most that
pub at_most : (k x : ℕ) → x ≤ suc k → (x ≤ k → ⊥) → x ≡ suc k
at_most k x h n = omega arith

module _ (m : ℕ) (g : Primitive m) where
  -- ---- quotients, as elements

  abbrev K : Field2 (none m) (one m g) (plus m) (product m g)
  K = field m g

  abbrev nil : El m
  nil = none m

  -- y over d
  abbrev pub quotient : El m → El m → El m
  quotient y d = (over m y.0 d.0, over_lt m g y.0 d.0)

  -- an element but 0 is not the number 0
  pub not_nil : (d : El m) → (d ≡ none m → ⊥) → d.0 ≢ 0
  not_nil d n e = n (same m e)

  -- the divisor times a quotient is the dividend, ..
  pub quotient_is : (y d : El m) → (d ≡ none m → ⊥) → product m g d (quotient y d) ≡ y
  quotient_is y d n = same m (over_is m g y.0 d.0 y.1 (not_nil d n) d.1)

  -- .. and the quotient times the divisor
  pub divided : (y d : El m) → (d ≡ none m → ⊥) → product m g (quotient y d) d ≡ y
  divided y d n = K.⊗-comm (quotient y d) d ∙ quotient_is y d n

  -- there is no other quotient
  pub quotient_only : (y d v : El m) → (d ≡ none m → ⊥) → product m g d v ≡ y → quotient y d ≡ v
  quotient_only y d v n e = cancel K d (quotient y d) v n (quotient_is y d n ∙ sym e)

  -- ---- completeness: the elements of a solution are those that are computed

  -- `more` holds the elements of at most three errors, where D2 is not 0
  pub record More (more : ℕ → ℕ → ℕ → List ℕ) : Type 0 where
    pub short : (s1 s3 s5 : ℕ) → length (more s1 s3 s5) ≤ 3
    pub covers : (A : List (El m)) → Errors K A → length A ≤ 3 → (det2 K (power1 K A) (power3 K A) ≡ nil → ⊥)
        → Covers m (more (power1 K A).0 (power3 K A).0 (power5 K A).0) A

  single_covers : (A : List (El m)) → Errors K A → length A ≤ 1 → Covers m (single (power1 K A).0) A
  unfolding single
  single_covers [] ok l = record { inside = λ a k. absurd (Memᴰ.not-nil k); short = omega arith }
  single_covers (x ∷ []) ok l =
      subst (λ (C : List ℕ). Covers m C (x ∷ [])) (sym (ap single (xor_zero_r x.0) ∙ zero_not x.0 [] (x.0 ∷ []) (not_nil x ok.0)))
      (record { inside = λ a k. mapping (λ (y : El m). y.0) k; short = omega arith })
  single_covers (x ∷ y ∷ A) ok l = absurd (omega arith)

  module _ (quad : ℕ → ℕ) (quads : Quadratics m quad) where
    module _ (c : El m) (has : (w : El m) × (plus m (sq K w) w ≡ c)) where
      -- what the table holds ..
      abbrev quad_el : El m
      quad_el = (quad c.0, quads.below c.0 c.1)

      -- .. is a solution
      quad_solves : plus m (sq K quad_el) quad_el ≡ c
      quad_solves =
          same m (subst (λ (x : ℕ). bit_xor (square m (quad x)) (quad x) ≡ x) (λ i. (has.1 i).0) (quads.solves has.0.0 has.0.1))

    -- the pair holds two elements
    pair_covers : (A : List (El m)) → Errors K A → length A ≡ 2
        → Covers m (pair m quad (power1 K A).0 (power3 K A).0) A
    unfolding pair
    pair_covers A ok l =
        subst (λ (C : List ℕ). Covers m C A) (sym (zero_not s.0 [] (pair_of m quad s.0 c.0) (not_nil s n)))
        (record {
          inside = λ a k. mapping (λ (y : El m). y.0)
              ((closed2 K A (omega arith) n (quad_el c has) c (quad_solves c has) e a (not_zero K A ok a k)).0 k);
          short = omega arith;
        })
      where
        s : El m
        s = power1 K A

        n : s ≡ nil → ⊥
        n q = let h : length A ≡ 0 = ap length (no_element K A ok (omega arith) q) in omega arith

        c : El m
        c = quotient (det2 K s (power3 K A)) (cube K s)

        e : product m g c (cube K s) ≡ det2 K s (power3 K A)
        e = divided (det2 K s (power3 K A)) (cube K s) (cube_not_zero K s n)

        has : (w : El m) × (plus m (sq K w) w ≡ c)
        has = closed2_has K A ok (omega arith) n c e

  -- D2 is 0 for at most one element
  either_covers : (A : List (El m)) → Errors K A → length A ≤ 3 → (M : List ℕ)
      → ((det2 K (power1 K A) (power3 K A) ≡ nil → ⊥) → Covers m M A)
      → Covers m (if_zero (det2 K (power1 K A) (power3 K A)).0 (single (power1 K A).0) M) A
  either_covers A ok l M f = pick (K.equal? D nil)
    where
      D : El m
      D = det2 K (power1 K A) (power3 K A)

      S : List ℕ
      S = single (power1 K A).0

      pick : Dec (D ≡ nil) → Covers m (if_zero D.0 S M) A
      pick (yes q) =
          subst (λ (C : List ℕ). Covers m C A) (sym (zero_is D.0 S M (λ i. (q i).0)))
          (single_covers A ok ((det2_zero K A ok l).0 q))
      pick (no n) = subst (λ (C : List ℕ). Covers m C A) (sym (zero_not D.0 S M (not_nil D n))) (f n)

  module _ (quad : ℕ → ℕ) (more : ℕ → ℕ → ℕ → List ℕ) where
    covers1 : (A : List (El m)) → Errors K A → length A ≤ 1 → (x y : ℕ) → Covers m (elements m quad more 1 (power1 K A).0 x y) A
    unfolding elements
    covers1 A ok l x y = single_covers A ok l

    covers2 : Quadratics m quad → (A : List (El m)) → Errors K A → length A ≤ 2 → (y : ℕ)
        → Covers m (elements m quad more 2 (power1 K A).0 (power3 K A).0 y) A
    unfolding elements
    covers2 quads A ok l y =
        either_covers A ok (omega arith) (pair m quad (power1 K A).0 (power3 K A).0)
        (λ n. pair_covers quad quads A ok (at_most 1 (length A) l (λ h. n ((det2_zero K A ok (omega arith)).1 h))))

    covers3 : More more → (A : List (El m)) → Errors K A → length A ≤ 3
        → Covers m (elements m quad more 3 (power1 K A).0 (power3 K A).0 (power5 K A).0) A
    unfolding elements
    covers3 others A ok l =
        either_covers A ok l (more (power1 K A).0 (power3 K A).0 (power5 K A).0) (others.covers A ok l)

    -- ---- the positions

    module _ (n s1 s3 s5 : ℕ) (fits : n ≤ 2 ^ m - 1) where
      covers : (t : ℕ) → 1 ≤ t → t ≤ 3 → (t ≡ 2 → Quadratics m quad) → (t ≡ 3 → More more) → (P : List ℕ) → Solution m t n s1 s3 s5 P
          → Covers m (elements m quad more t s1 s3 s5) (locators m g P)
      covers zero low most quads others P s = absurd (omega arith)
      covers (suc zero) low most quads others P s =
          subst (λ (x : ℕ). Covers m (elements m quad more 1 x s3 s5) (locators m g P)) (power1_locators m g P ∙ s.summed.sum1)
          (covers1 (locators m g P) (errors_locators m g 0 n fits P s.rising) (omega (arith, length_locators m g P, s.summed.few)) s3 s5)
      covers (suc (suc zero)) low most quads others P s =
          subst₂ (λ (x y : ℕ). Covers m (elements m quad more 2 x y s5) (locators m g P)) (power1_locators m g P ∙ s.summed.sum1)
          (power3_locators m g P ∙ s.summed.sum3 (omega arith))
          (covers2 (quads refl) (locators m g P) (errors_locators m g 0 n fits P s.rising) (omega (arith, length_locators m g P, s.summed.few)) s5)
      covers (suc (suc (suc zero))) low most quads others P s =
          subst₃ (λ (x y z : ℕ). Covers m (elements m quad more 3 x y z) (locators m g P)) (power1_locators m g P ∙ s.summed.sum1)
          (power3_locators m g P ∙ s.summed.sum3 (omega arith)) (power5_locators m g P ∙ s.summed.sum5 (omega arith))
          (covers3 (others refl) (locators m g P) (errors_locators m g 0 n fits P s.rising) (omega (arith, length_locators m g P, s.summed.few)))
      covers (suc (suc (suc (suc t)))) low most quads others P s = absurd (omega arith)

      -- there are at most t elements, and they are the locators of a solution wherever there is one
      pub elements_find : (t : ℕ) → 1 ≤ t → t ≤ 3 → (t ≡ 2 → Quadratics m quad) → (t ≡ 3 → More more)
          → Finds m g t n s1 s3 s5 (elements m quad more t s1 s3 s5)
      elements_find t low most quads others =
          record {
            short = elements_short m quad more t most (λ e. (others e).short) s1 s3 s5;
            covers = covers t low most quads others;
          }
