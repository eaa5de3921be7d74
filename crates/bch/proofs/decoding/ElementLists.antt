-- The elements of `Elements` and `KappaDecoder`, branch by branch. Assumes nothing.
use Prim.Native.Nat.{ℕ, zero, suc, ◌+◌, ◌-◌, ◌/◌, ◌%◌, ◌^◌, ◌≤◌}
use native.Mathlib.Omega.{arith}
use mathlib.Core.Path.{◌≡◌, refl, ap, ap₂, sym, ◌∙◌}
use mathlib.Core.Logic.{◌≢◌}
use mathlib.Core.List.{List, [], ◌∷◌}
use borrow.Author.Tests.{eq-eqb, ne_eqb}
use lib.Bits.{bit_xor}
use Rattle.galois.specs.Field.{alpha, log, mul, over}
use Rattle.bch.specs.Locator.{cubed, d2}
use Rattle.bch.proofs.decoding.Elements.{elements, if_zero, zero_is, zero_not, single, pair_of, pair}
use Rattle.bch.proofs.decoding.KappaDecoder.{e5, kappas, kappa, scale, trio, by_cubes, by_kappa}

-- ---- two elements, by the table of quadratics

-- two elements of sum s1 by D2, as in `pair`
unfoldable pub pair_by : ℕ → (ℕ → ℕ) → ℕ → ℕ → List ℕ
unfolding if_zero pair_of over
pair_by m quad s1 d = if_zero s1 [] (pair_of m quad s1 (over m d (cubed m s1)))

pub pair_zero : (m : ℕ) (quad : ℕ → ℕ) (s1 d : ℕ) → s1 ≡ 0 → [] ≡ pair_by m quad s1 d
unfolding pair_by
pair_zero m quad s1 d e = sym (zero_is s1 [] (pair_of m quad s1 (over m d (cubed m s1))) e)

pub pair_two : (m : ℕ) (quad : ℕ → ℕ) (s1 d x : ℕ) → s1 ≢ 0 → x ≡ mul m s1 (quad (over m d (cubed m s1))) → x ∷ bit_xor x s1 ∷ [] ≡ pair_by m quad s1 d
unfolding pair_by pair_of
pair_two m quad s1 d x n e =
    ap (λ (y : ℕ). y ∷ bit_xor y s1 ∷ []) e ∙ sym (zero_not s1 [] (pair_of m quad s1 (over m d (cubed m s1))) n)

pub pair_by_lem : (m : ℕ) (quad : ℕ → ℕ) (s1 s3 : ℕ) → pair_by m quad s1 (d2 m s1 s3) ≡ pair m quad s1 s3
unfolding pair_by pair
pair_by_lem m quad s1 s3 = refl

-- ---- three elements where E is 0: none where there are no three cube roots, ..

module _ (m s1 d : ℕ) where
  pub cubes_none : (p : ℕ) → p ≡ 2 ^ m - 1 → p % 3 ≢ 0 → [] ≡ by_cubes m s1 d
  unfolding by_cubes
  cubes_none p e n = let k : (2 ^ m - 1) % 3 ≢ 0 = λ z. n (ap (λ (x : ℕ). x % 3) e ∙ z) in simp (ne_eqb ((2 ^ m - 1) % 3) 0 k)

  module _ (p l : ℕ) (e : p ≡ 2 ^ m - 1) (z : p % 3 ≡ 0) (q : l ≡ log m d) where
    pub cubes_odd : l % 3 ≢ 0 → [] ≡ by_cubes m s1 d
    unfolding by_cubes
    cubes_odd n =
        let k : log m d % 3 ≢ 0 = λ z. n (ap (λ (x : ℕ). x % 3) q ∙ z) in
        simp (eq-eqb ((2 ^ m - 1) % 3) 0 (ap (λ (x : ℕ). x % 3) (sym e) ∙ z), ne_eqb (log m d % 3) 0 k)

    -- .. and otherwise two of them, and their sum
    pub cubes_three : (x y : ℕ) → l % 3 ≡ 0 → x ≡ alpha m (l / 3) → y ≡ alpha m (l / 3 + p / 3) → trio s1 x y ≡ by_cubes m s1 d
    unfolding by_cubes
    cubes_three x y n hx hy =
        let k : log m d % 3 ≡ 0 = ap (λ (x : ℕ). x % 3) (sym q) ∙ n in
        let u : x ≡ alpha m (log m d / 3) = hx ∙ ap (λ (x : ℕ). alpha m (x / 3)) q in
        let v : y ≡ alpha m (log m d / 3 + (2 ^ m - 1) / 3) = hy ∙ ap₂ (λ (x y : ℕ). alpha m (x / 3 + y / 3)) q e in
        simp (eq-eqb ((2 ^ m - 1) % 3) 0 (ap (λ (x : ℕ). x % 3) (sym e) ∙ z), eq-eqb (log m d % 3) 0 k) (ap₂ (trio s1) u v)

-- ---- two or three elements elsewhere: none where the table has no second solution, ..

module _ (m : ℕ) (first second : ℕ → ℕ) (s1 d e k : ℕ) (q : k ≡ kappa m d e) where
  pub kappa_none : (w : ℕ) → w ≡ second k → w ≡ 0 → [] ≡ by_kappa m first second s1 d e
  unfolding by_kappa
  kappa_none w h z =
      sym (zero_is (second (kappa m d e)) [] (trio s1 (mul m (first (kappa m d e)) (scale m d e)) (mul m (second (kappa m d e)) (scale m d e)))
      (ap second (sym q) ∙ sym h ∙ z))

  -- .. and otherwise both, scaled, and their sum
  pub kappa_three : (w u f x y : ℕ) → w ≡ second k → u ≡ first k → w ≢ 0 → f ≡ scale m d e → x ≡ mul m u f → y ≡ mul m w f
      → trio s1 x y ≡ by_kappa m first second s1 d e
  unfolding by_kappa
  kappa_three w u f x y h i n hf hx hy =
      let hw : w ≡ second (kappa m d e) = h ∙ ap second q in
      let hu : u ≡ first (kappa m d e) = i ∙ ap first q in
      ap₂ (trio s1) (hx ∙ ap₂ (mul m) hu hf) (hy ∙ ap₂ (mul m) hw hf)
      ∙ sym (zero_not (second (kappa m d e)) [] (trio s1 (mul m (first (kappa m d e)) (scale m d e)) (mul m (second (kappa m d e)) (scale m d e)))
      (λ z. n (hw ∙ z)))

-- ---- the elements that t errors can have

module _ (m : ℕ) (quad first second : ℕ → ℕ) (s1 s3 s5 : ℕ) where
  abbrev All : ℕ → List ℕ
  All t = elements m quad (kappas m first second) t s1 s3 s5

  -- t = 1; D2 = 0; t = 2; and of t = 3, E = 0 and the rest
  pub all_one : (t : ℕ) → t ≡ 1 → single s1 ≡ All t
  unfolding elements
  all_one t e = rw e refl

  pub all_flat : (t d : ℕ) → 1 ≤ t → t ≤ 3 → t ≢ 1 → d ≡ d2 m s1 s3 → d ≡ 0 → single s1 ≡ All t
  unfolding elements
  all_flat zero d l u n q z = absurd (omega arith)
  all_flat (suc zero) d l u n q z = absurd (n refl)
  all_flat (suc (suc zero)) d l u n q z = sym (zero_is (d2 m s1 s3) (single s1) (pair m quad s1 s3) (sym q ∙ z))
  all_flat (suc (suc (suc t))) d l u n q z = sym (zero_is (d2 m s1 s3) (single s1) (kappas m first second s1 s3 s5) (sym q ∙ z))

  pub all_two : (t d : ℕ) → t ≡ 2 → d ≡ d2 m s1 s3 → d ≢ 0 → pair_by m quad s1 d ≡ All t
  unfolding elements
  all_two t d e q n =
      rw e (ap (pair_by m quad s1) q ∙ pair_by_lem m quad s1 s3 ∙ sym (zero_not (d2 m s1 s3) (single s1) (pair m quad s1 s3) (λ z. n (q ∙ z))))

  module _ (t d e : ℕ) (is : t ≡ 3) (q : d ≡ d2 m s1 s3) (n : d ≢ 0) (r : e ≡ e5 m s1 s5) where
    more : All t ≡ kappas m first second s1 s3 s5
    unfolding elements
    more = rw is (zero_not (d2 m s1 s3) (single s1) (kappas m first second s1 s3 s5) (λ z. n (q ∙ z)))

    pub all_cubes : e ≡ 0 → by_cubes m s1 d ≡ All t
    unfolding kappas
    all_cubes z =
        ap (by_cubes m s1) q
        ∙ sym (zero_is (e5 m s1 s5) (by_cubes m s1 (d2 m s1 s3)) (by_kappa m first second s1 (d2 m s1 s3) (e5 m s1 s5)) (sym r ∙ z)) ∙ sym more

    pub all_kappa : e ≢ 0 → by_kappa m first second s1 d e ≡ All t
    unfolding kappas
    all_kappa z =
        ap₂ (by_kappa m first second s1) q r
        ∙ sym (zero_not (e5 m s1 s5) (by_cubes m s1 (d2 m s1 s3)) (by_kappa m first second s1 (d2 m s1 s3) (e5 m s1 s5)) (λ k. z (r ∙ k))) ∙ sym more
