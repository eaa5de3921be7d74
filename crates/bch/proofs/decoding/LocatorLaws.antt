-- Document 01's method: where a codeword is within t flips of a word, the roots of the locator in the word's syndromes are the
-- inverses of α^position over the flipped positions.  (For t = 2 and t = 3 the locator must not be 0 as a whole.)
-- Assumes nothing.
use Prim.Native.Nat.{ℕ, zero, suc, ◌+◌, ◌-◌, ◌^◌, ◌≤◌, ◌<◌}
use native.Mathlib.Omega.{arith}
use mathlib.Core.Path.{◌≡◌, refl, sym, ap, ap₂, ◌∙◌}
use mathlib.Core.Logic.{◌≢◌, ◌↔◌}
use mathlib.Core.List.{List, Memᴰ}
use lib.ListN.{length}
use Rattle.galois.specs.Field.{alpha}
use Rattle.galois.proofs.Primitive.{Primitive}
use Rattle.galois.proofs.Field2.{Field2}
use Rattle.galois.proofs.FieldLaws.{mul_alpha}
use Rattle.galois.proofs.FieldOf.{El, same, none, one, plus, product, field, power}
use Rattle.bch.specs.Words.{Bits, flips, differences}
use Rattle.bch.specs.Code.{Code, Codeword, syndrome, word_length}
use Rattle.bch.specs.Locator.{d2, locator}
use Rattle.bch.proofs.codes.Settings.{Lawful, primitive_of}
use Rattle.bch.proofs.codes.Trials.{mapping}
use Rattle.bch.proofs.algebra.Unique.{power1, power3, power5}
use Rattle.bch.proofs.algebra.Roots.{locator1_roots, locator2_roots, locator3_roots}
use Rattle.bch.proofs.codes.Positions.{rising_member, locators, length_locators, locator_member, power1_locators, power3_locators}
use Rattle.bch.proofs.codes.Positions.{power5_locators}
use Rattle.bch.proofs.decoding.Located.{Located, near_located}

-- the locator is not 0 as a whole: for t = 2 S1 is not 0, and for t = 3 D2 is not
pub record Proper (m t s1 s3 : ℕ) : Type 0 where
  pub two : t ≡ 2 → s1 ≢ 0
  pub three : t ≡ 3 → d2 m s1 s3 ≢ 0

module _ (m : ℕ) (g : Primitive m) where
  abbrev K : Field2 (none m) (one m g) (plus m) (product m g)
  K = field m g

  -- the inverse of α^p
  inverse_power : (p : ℕ) → p ≤ 2 ^ m - 1 → product m g (power m g p) (power m g (2 ^ m - 1 - p)) ≡ one m g
  inverse_power p h =
      let e : p + (2 ^ m - 1 - p) ≡ 2 ^ m - 1 = omega arith in
      same m (mul_alpha m g p (2 ^ m - 1 - p) ∙ ap (alpha m) e ∙ g.period)

  -- of at most t elements, by their power sums
  elements_roots : (t : ℕ) → 1 ≤ t → t ≤ 3 → (A : List (El m)) → length A ≤ t → Proper m t (power1 K A).0 (power3 K A).0 → (v w : El m)
      → product m g w v ≡ one m g → (locator m t (power1 K A).0 (power3 K A).0 (power5 K A).0 v.0 ≡ 0) ↔ Memᴰ w A
  unfolding locator
  elements_roots zero low most A l ok v w h = absurd (omega arith)
  elements_roots (suc zero) low most A l ok v w h =
      let r = locator1_roots K A l v w h in (λ e. r.0 (same m e), λ k. λ i. (r.1 k i).0)
  elements_roots (suc (suc zero)) low most A l ok v w h =
      let r = locator2_roots K A l (λ z. ok.two refl (λ i. (z i).0)) v w h in (λ e. r.0 (same m e), λ k. λ i. (r.1 k i).0)
  elements_roots (suc (suc (suc zero))) low most A l ok v w h =
      let r = locator3_roots K A l (λ z. ok.three refl (λ i. (z i).0)) v w h in (λ e. r.0 (same m e), λ k. λ i. (r.1 k i).0)
  elements_roots (suc (suc (suc (suc t)))) low most A l ok v w h = absurd (omega arith)

-- ---- a word

-- the locator of t errors asks only for the first t odd syndromes
same_locator : (m t : ℕ) → 1 ≤ t → t ≤ 3 → (a1 a3 a5 s1 s3 s5 x : ℕ) → a1 ≡ s1 → (2 ≤ t → a3 ≡ s3) → (3 ≤ t → a5 ≡ s5)
    → locator m t a1 a3 a5 x ≡ locator m t s1 s3 s5 x
unfolding locator
same_locator m zero low most a1 a3 a5 s1 s3 s5 x e1 e3 e5 = refl
same_locator m (suc zero) low most a1 a3 a5 s1 s3 s5 x e1 e3 e5 = ap (λ (a : ℕ). locator m 1 a a3 a5 x) e1
same_locator m (suc (suc zero)) low most a1 a3 a5 s1 s3 s5 x e1 e3 e5 = ap₂ (λ (a b : ℕ). locator m 2 a b a5 x) e1 (e3 (omega arith))
same_locator m (suc (suc (suc t))) low most a1 a3 a5 s1 s3 s5 x e1 e3 e5 =
    ap₂ (λ (a b : ℕ). locator m (suc (suc (suc t))) a b a5 x) e1 (e3 (omega arith))
    ∙ ap (λ (a : ℕ). locator m (suc (suc (suc t))) s1 s3 a x) (e5 (omega arith))

same_proper : (m t a1 a3 s1 s3 : ℕ) → a1 ≡ s1 → (2 ≤ t → a3 ≡ s3) → Proper m t s1 s3 → Proper m t a1 a3
same_proper m t a1 a3 s1 s3 e1 e3 ok =
    record {
      two = λ h z. ok.two h (sym e1 ∙ z);
      three = λ h z. ok.three h (sym (ap₂ (d2 m) e1 (e3 (omega arith))) ∙ z);
    }

module _ (c : Code) (is_code : Lawful c) (xs : List ℕ) (long : length xs ≡ word_length c) (bits : Bits xs) where
  -- the roots are the inverses of α^position over the flipped positions
  pub locator_roots : Proper c.m c.t (syndrome c.m 1 xs) (syndrome c.m 3 xs)
      → (w : List ℕ) → Codeword c w → flips w xs ≤ c.t → (p : ℕ) → p < c.n
      → (locator c.m c.t (syndrome c.m 1 xs) (syndrome c.m 3 xs) (syndrome c.m 5 xs) (alpha c.m (2 ^ c.m - 1 - p)) ≡ 0)
      ↔ Memᴰ p (differences 0 xs w)
  locator_roots ok w v h p below = (
    λ e. locator_member c.m g c.n is_code.n_most p P below (λ q k. (rising_member 0 c.n P s.rising q k).1) (r.0 (same_at ∙ e)),
    λ k. sym same_at ∙ r.1 (mapping (power c.m g) k),
  )
    where
      g : Primitive c.m
      g = primitive_of c is_code

      P : List ℕ
      P = differences 0 xs w

      s : Located c xs P
      s = near_located c is_code xs long bits w v h

      A : List (El c.m)
      A = locators c.m g P

      x : ℕ
      x = alpha c.m (2 ^ c.m - 1 - p)

      e1 : (power1 (field c.m g) A).0 ≡ syndrome c.m 1 xs
      e1 = power1_locators c.m g P ∙ s.summed.sum1

      e3 : 2 ≤ c.t → (power3 (field c.m g) A).0 ≡ syndrome c.m 3 xs
      e3 k = power3_locators c.m g P ∙ s.summed.sum3 k

      e5 : 3 ≤ c.t → (power5 (field c.m g) A).0 ≡ syndrome c.m 5 xs
      e5 k = power5_locators c.m g P ∙ s.summed.sum5 k

      same_at : locator c.m c.t (power1 (field c.m g) A).0 (power3 (field c.m g) A).0 (power5 (field c.m g) A).0 x
          ≡ locator c.m c.t (syndrome c.m 1 xs) (syndrome c.m 3 xs) (syndrome c.m 5 xs) x
      same_at = same_locator c.m c.t is_code.t_least is_code.t_most _ _ _ _ _ _ x e1 e3 e5

      r : (locator c.m c.t (power1 (field c.m g) A).0 (power3 (field c.m g) A).0 (power5 (field c.m g) A).0 x ≡ 0)
          ↔ Memᴰ (power c.m g p) A
      r =
          elements_roots c.m g c.t is_code.t_least is_code.t_most A (omega (arith, length_locators c.m g P, s.summed.few))
          (same_proper c.m c.t _ _ _ _ e1 e3 ok) (power c.m g (2 ^ c.m - 1 - p)) (power c.m g p)
          (inverse_power c.m g p (omega (arith, is_code.n_most)))
