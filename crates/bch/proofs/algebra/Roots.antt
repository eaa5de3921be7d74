-- The elements as the roots of Peterson's locator, over a field of characteristic 2; how many there are, by D2 and D3; and two
-- elements in closed form, from a solution of w^2 + w = c. Nothing is divided: a quotient is given by the equation that it
-- meets. Assumes nothing.
use Prim.Native.Nat.{◌≤◌}
use native.Mathlib.Omega.{arith}
use mathlib.Core.Path.{◌≡◌, refl, sym, ap, ◌∙◌}
use mathlib.Core.Logic.{◌↔◌}
use mathlib.Core.List.Memᴰ
use mathlib.Core.List.{List, [], ◌∷◌, Memᴰ}
use lib.ListN.{length}
use Rattle.galois.proofs.Field2.{Field2, zero-⊗, divide, equal_of_sum, sum_of_equal, two_factors, cancel}
use Rattle.bch.proofs.algebra.Ring2.{nil, one, v0, v1, v2, v3, v4, v5, ◌⊞◌, ◌⊠◌, solve}
use Rattle.bch.proofs.algebra.Peterson.{SQ, CUBE, DET2}
use Rattle.bch.proofs.algebra.Peterson.{sq, cube, fifth, det2, delta, det3, locator1, locator2, locator3, reverse2, reverse3, apart}
use Rattle.bch.proofs.algebra.Unique.{power1, power3, power5, Errors, apart_of, roots_of, det2_of, det3_of, reverse2_of, reverse3_of}
use Rattle.bch.proofs.algebra.Unique.{member_of_root, root_of_member, few}

module _ {F : Type 0} {𝟘 𝟙 : F} {◌⊕◌ ◌⊗◌ : F → F → F} (K : Field2 𝟘 𝟙 ◌⊕◌ ◌⊗◌) where
  infixl 65 ◌⊕◌
  infixl 70 ◌⊗◌
  -- the square of an element but 0 is not 0, ..
  pub sq_not_zero : (a : F) → (a ≡ 𝟘 → ⊥) → sq K a ≡ 𝟘 → ⊥
  sq_not_zero a n e = n (two_factors K a a e n)

  -- .. nor is the cube ..
  pub cube_not_zero : (a : F) → (a ≡ 𝟘 → ⊥) → cube K a ≡ 𝟘 → ⊥
  cube_not_zero a n e = n (two_factors K (sq K a) a e (sq_not_zero a n))

  -- .. or the fifth power
  pub fifth_not_zero : (a : F) → (a ≡ 𝟘 → ⊥) → fifth K a ≡ 𝟘 → ⊥
  fifth_not_zero a n e = n (two_factors K (cube K a ⊗ a) a e (λ z. n (two_factors K (cube K a) a z (cube_not_zero a n))))

  -- ---- the locator and its reverse

  -- a polynomial at the inverse v of w, times a power of w, is its reverse at w
  reverse_at3 : (a b c d v w : F) → w ⊗ v ≡ 𝟙 → cube K w ⊗ (a ⊕ b ⊗ v ⊕ c ⊗ sq K v ⊕ d ⊗ cube K v) ≡ a ⊗ cube K w ⊕ b ⊗ sq K w ⊕ c ⊗ w ⊕ d
  reverse_at3 a b c d v w h =
      solve K (a ∷ b ∷ c ∷ d ∷ v ∷ w ∷ [])
      (CUBE v5 ⊠ (v0 ⊞ v1 ⊠ v4 ⊞ v2 ⊠ SQ v4 ⊞ v3 ⊠ CUBE v4))
      (v0 ⊠ CUBE v5 ⊞ v1 ⊠ SQ v5 ⊠ (v5 ⊠ v4) ⊞ v2 ⊠ v5 ⊠ SQ (v5 ⊠ v4) ⊞ v3 ⊠ CUBE (v5 ⊠ v4)) refl
      ∙ rw h
      (solve K (a ∷ b ∷ c ∷ d ∷ v ∷ w ∷ [])
      (v0 ⊠ CUBE v5 ⊞ v1 ⊠ SQ v5 ⊠ one ⊞ v2 ⊠ v5 ⊠ SQ one ⊞ v3 ⊠ CUBE one)
      (v0 ⊠ CUBE v5 ⊞ v1 ⊠ SQ v5 ⊞ v2 ⊠ v5 ⊞ v3) refl)

  reverse_at2 : (a b c v w : F) → w ⊗ v ≡ 𝟙 → sq K w ⊗ (a ⊕ b ⊗ v ⊕ c ⊗ sq K v) ≡ a ⊗ sq K w ⊕ b ⊗ w ⊕ c
  reverse_at2 a b c v w h =
      solve K (a ∷ b ∷ c ∷ v ∷ w ∷ [])
      (SQ v4 ⊠ (v0 ⊞ v1 ⊠ v3 ⊞ v2 ⊠ SQ v3))
      (v0 ⊠ SQ v4 ⊞ v1 ⊠ v4 ⊠ (v4 ⊠ v3) ⊞ v2 ⊠ SQ (v4 ⊠ v3)) refl
      ∙ rw h
      (solve K (a ∷ b ∷ c ∷ v ∷ w ∷ []) (v0 ⊠ SQ v4 ⊞ v1 ⊠ v4 ⊠ one ⊞ v2 ⊠ SQ one) (v0 ⊠ SQ v4 ⊞ v1 ⊠ v4 ⊞ v2) refl)

  -- what has an inverse is not 0
  unit_not_zero : (v w : F) → w ⊗ v ≡ 𝟙 → w ≡ 𝟘 → ⊥
  unit_not_zero v w h z = K.one_not_zero (sym h ∙ rw z (zero-⊗ K v))

  -- ---- at most one element

  -- the inverse of the element is the root of the locator
  pub locator1_roots : (A : List F) → length A ≤ 1 → (v w : F) → w ⊗ v ≡ 𝟙 → (locator1 K (power1 K A) v ≡ 𝟘) ↔ Memᴰ w A
  locator1_roots [] l v w h = (
    λ e. absurd (K.one_not_zero (solve K (v ∷ []) one (one ⊞ nil ⊠ v0) refl ∙ e)),
    λ m. absurd (Memᴰ.not-nil m),
  )
  locator1_roots (x ∷ []) l v w h = (
    λ e. Memᴰ.head (cancel K v w x nv (K.⊗-comm v w ∙ h ∙ equal_of_sum K 𝟙 ((x ⊕ 𝟘) ⊗ v) e ∙ flat)),
    λ m. sum_of_equal K (sym h ∙ K.⊗-comm w v ∙ ap (λ z. v ⊗ z) (Memᴰ.eq_of_singleton m) ∙ sym flat),
  )
    where
      flat : (x ⊕ 𝟘) ⊗ v ≡ v ⊗ x
      flat = solve K (x ∷ v ∷ []) ((v0 ⊞ nil) ⊠ v1) (v1 ⊠ v0) refl

      nv : v ≡ 𝟘 → ⊥
      nv = unit_not_zero w v (K.⊗-comm v w ∙ h)
  locator1_roots (x ∷ y ∷ A) l v w h = absurd (omega arith)

  -- ---- at most three elements, where D2 is not zero

  module _ (A : List F) (l : length A ≤ 3) (n : det2 K (power1 K A) (power3 K A) ≡ 𝟘 → ⊥) where
    -- the elements are the roots of the reverse locator, ..
    pub reverse3_roots : (w : F) → (w ≡ 𝟘 → ⊥) → (reverse3 K (power1 K A) (power3 K A) (power5 K A) w ≡ 𝟘) ↔ Memᴰ w A
    reverse3_roots w nw = (
      λ e. member_of_root K A w nw (two_factors K (apart_of K A) (roots_of K A w) (sym (reverse3_of K A l w) ∙ e) (λ z. n (det2_of K A l ∙ z))),
      λ m. reverse3_of K A l w ∙ rw (root_of_member K A l w m) (K.⊗-zero (apart_of K A)),
    )

    -- .. and their inverses those of the locator
    pub locator3_roots : (v w : F) → w ⊗ v ≡ 𝟙 → (locator3 K (power1 K A) (power3 K A) (power5 K A) v ≡ 𝟘) ↔ Memᴰ w A
    locator3_roots v w h =
        let nw : (w ≡ 𝟘 → ⊥) = unit_not_zero v w h in
        let s1 = power1 K A in
        let s3 = power3 K A in
        let s5 = power5 K A in
        let same : cube K w ⊗ locator3 K s1 s3 s5 v ≡ reverse3 K s1 s3 s5 w =
        reverse_at3 (det2 K s1 s3) (s1 ⊗ det2 K s1 s3) (delta K s1 s3 s5) (det3 K s1 s3 s5) v w h in (
          λ e. (reverse3_roots w nw).0 (sym same ∙ rw e (K.⊗-zero (cube K w))),
          λ m. two_factors K (cube K w) (locator3 K s1 s3 s5 v) (same ∙ (reverse3_roots w nw).1 m) (cube_not_zero w nw),
        )

  -- ---- at most two elements, where S1 is not zero

  quadratic_factored :
      (s d w c m : F) → sq K w ⊕ w ≡ c → c ⊗ cube K s ≡ d →
      m ⊗ (s ⊗ sq K m ⊕ sq K s ⊗ m ⊕ d) ≡ s ⊗ ((m ⊕ s ⊗ w) ⊗ (m ⊕ (s ⊗ w ⊕ s)) ⊗ (m ⊕ 𝟘))
  quadratic_factored s d w c m h e =
      rw (← e, ← h)
      (solve K (s ∷ w ∷ m ∷ []) (v2 ⊠ (v0 ⊠ SQ v2 ⊞ SQ v0 ⊠ v2 ⊞ (SQ v1 ⊞ v1) ⊠ CUBE v0))
      (v0 ⊠ ((v2 ⊞ v0 ⊠ v1) ⊠ (v2 ⊞ (v0 ⊠ v1 ⊞ v0)) ⊠ (v2 ⊞ nil))) refl)

  quadratic_at : (s x v : F) → s ⊗ v ≡ x → cube K s ⊗ (sq K v ⊕ v) ≡ s ⊗ sq K x ⊕ sq K s ⊗ x
  quadratic_at s x v h = solve K (s ∷ v ∷ []) (CUBE v0 ⊠ (SQ v1 ⊞ v1)) (v0 ⊠ SQ (v0 ⊠ v1) ⊞ SQ v0 ⊠ (v0 ⊠ v1)) refl ∙ rw h

  module _ (A : List F) (l : length A ≤ 2) (n : power1 K A ≡ 𝟘 → ⊥) where
    -- the elements are the roots of the reverse locator, ..
    pub reverse2_roots : (w : F) → (w ≡ 𝟘 → ⊥) → (reverse2 K (power1 K A) (power3 K A) w ≡ 𝟘) ↔ Memᴰ w A
    reverse2_roots w nw = (
      λ e. member_of_root K A w nw (two_factors K (power1 K A) (roots_of K A w) (sym (reverse2_of K A l w) ∙ rw e (K.⊗-zero w)) n),
      λ m. two_factors K w (reverse2 K (power1 K A) (power3 K A) w)
          (reverse2_of K A l w ∙ rw (root_of_member K A (omega arith) w m) (K.⊗-zero (power1 K A))) nw,
    )

    -- .. and their inverses those of the locator
    pub locator2_roots : (v w : F) → w ⊗ v ≡ 𝟙 → (locator2 K (power1 K A) (power3 K A) v ≡ 𝟘) ↔ Memᴰ w A
    locator2_roots v w h =
        let nw : (w ≡ 𝟘 → ⊥) = unit_not_zero v w h in
        let s1 = power1 K A in
        let s3 = power3 K A in
        let same : sq K w ⊗ locator2 K s1 s3 v ≡ reverse2 K s1 s3 w = reverse_at2 s1 (sq K s1) (det2 K s1 s3) v w h in (
          λ e. (reverse2_roots w nw).0 (sym same ∙ rw e (K.⊗-zero (sq K w))),
          λ m. two_factors K (sq K w) (locator2 K s1 s3 v) (same ∙ (reverse2_roots w nw).1 m) (sq_not_zero w nw),
        )

    -- from any solution of w^2 + w = c, c = D2 / S1^3, both of them: S1 w and S1 w + S1
    pub closed2 :
        (w c : F) → sq K w ⊕ w ≡ c → c ⊗ cube K (power1 K A) ≡ det2 K (power1 K A) (power3 K A) →
        (m : F) → (m ≡ 𝟘 → ⊥) → Memᴰ m A ↔ Memᴰ m (power1 K A ⊗ w ∷ (power1 K A ⊗ w ⊕ power1 K A) ∷ [])
    closed2 w c h e m nm = (
      λ k. member_of_root K L m nm (sym same ∙ root_of_member K A (omega arith) m k),
      λ k. member_of_root K A m nm (same ∙ root_of_member K L (omega arith) m k),
    )
      where
        s : F
        s = power1 K A

        L : List F
        L = s ⊗ w ∷ (s ⊗ w ⊕ s) ∷ []

        factored : m ⊗ reverse2 K s (power3 K A) m ≡ s ⊗ roots_of K L m
        factored = quadratic_factored s (det2 K s (power3 K A)) w c m h e

        same : roots_of K A m ≡ roots_of K L m
        same = cancel K s (roots_of K A m) (roots_of K L m) n (sym (reverse2_of K A l m) ∙ factored)

  -- and there is a solution
  pub closed2_has :
      (A : List F) → Errors K A → length A ≤ 2 → (power1 K A ≡ 𝟘 → ⊥) →
      (c : F) → c ⊗ cube K (power1 K A) ≡ det2 K (power1 K A) (power3 K A) → (w : F) × (sq K w ⊕ w ≡ c)
  closed2_has [] ok l n c e = absurd (n refl)
  closed2_has (x ∷ A) ok l n c e =
      let s = power1 K (x ∷ A) in
      let D = det2 K s (power3 K (x ∷ A)) in
      let (v, h) = divide K s x n in
      let root : s ⊗ sq K x ⊕ sq K s ⊗ x ⊕ D ≡ 𝟘 = (reverse2_roots (x ∷ A) l n x ok.0).1 (Memᴰ.head refl) in (
        v,
        cancel K (cube K s) (sq K v ⊕ v) c (cube_not_zero s n)
            (quadratic_at s x v h ∙ equal_of_sum K (s ⊗ sq K x ⊕ sq K s ⊗ x) D root ∙ sym e ∙ K.⊗-comm c (cube K s)),
      )

  -- ---- how many elements there are

  -- D2 is zero only for at most one element
  pub det2_zero : (A : List F) → Errors K A → length A ≤ 3 → (det2 K (power1 K A) (power3 K A) ≡ 𝟘) ↔ (length A ≤ 1)
  det2_zero A ok l = (λ e. few K A ok l (sym (det2_of K A l) ∙ e), back A)
    where
      back : (B : List F) → length B ≤ 1 → det2 K (power1 K B) (power3 K B) ≡ 𝟘
      back [] h = solve K [] (DET2 nil nil) nil refl
      back (x ∷ []) h = solve K (x ∷ []) (DET2 (v0 ⊞ nil) (CUBE v0 ⊞ nil)) nil refl
      back (x ∷ y ∷ B) h = absurd (omega arith)

  -- so where it is not, there are two different elements
  pub two_members : (A : List F) → Errors K A → length A ≤ 3 → (det2 K (power1 K A) (power3 K A) ≡ 𝟘 → ⊥)
      → (x : F) × (y : F) × Memᴰ x A × Memᴰ y A × (x ≡ y → ⊥)
  two_members [] ok l n = absurd (n ((det2_zero [] ok l).1 (omega arith)))
  two_members (x ∷ []) ok l n = absurd (n ((det2_zero (x ∷ []) ok l).1 (omega arith)))
  two_members (x ∷ y ∷ A) ok l n = (x, y, Memᴰ.head refl, Memᴰ.tail (Memᴰ.head refl), λ e. ok.1 (Memᴰ.head e))

  -- a product of three elements but 0 is not 0
  three_not_zero : (x y z : F) → (x ≡ 𝟘 → ⊥) → (y ≡ 𝟘 → ⊥) → (z ≡ 𝟘 → ⊥) → x ⊗ y ⊗ z ≡ 𝟘 → ⊥
  three_not_zero x y z nx ny nz e = nz (two_factors K (x ⊗ y) z e (λ k. ny (two_factors K x y k nx)))

  -- D3 is zero only for at most two elements
  pub det3_zero : (A : List F) → Errors K A → length A ≤ 3 → (det3 K (power1 K A) (power3 K A) (power5 K A) ≡ 𝟘) ↔ (length A ≤ 2)
  det3_zero A ok l = (there A ok l, back A)
    where
      there : (B : List F) → Errors K B → length B ≤ 3 → det3 K (power1 K B) (power3 K B) (power5 K B) ≡ 𝟘 → length B ≤ 2
      there [] ok l e = omega arith
      there (x ∷ []) ok l e = omega arith
      there (x ∷ y ∷ []) ok l e = omega arith
      there (x ∷ y ∷ z ∷ []) ok l e =
          absurd (three_not_zero x y z ok.0 ok.2.0 ok.2.2.0
          (two_factors K (apart K x y z) (x ⊗ y ⊗ z) (sym (det3_of K (x ∷ y ∷ z ∷ []) l) ∙ e)
          (λ k. let h : 3 ≤ 1 = few K (x ∷ y ∷ z ∷ []) ok l k in omega arith)))
      there (x ∷ y ∷ z ∷ u ∷ B) ok l e = absurd (omega arith)

      back : (B : List F) → length B ≤ 2 → det3 K (power1 K B) (power3 K B) (power5 K B) ≡ 𝟘
      back [] h = det3_of K [] (omega arith) ∙ rw (K.⊗-zero (𝟘 ⊗ 𝟘)) (K.⊗-zero (apart K 𝟘 𝟘 𝟘))
      back (x ∷ []) h = det3_of K (x ∷ []) (omega arith) ∙ rw (K.⊗-zero (x ⊗ 𝟘)) (K.⊗-zero (apart K x 𝟘 𝟘))
      back (x ∷ y ∷ []) h = det3_of K (x ∷ y ∷ []) (omega arith) ∙ rw (K.⊗-zero (x ⊗ y)) (K.⊗-zero (apart K x y 𝟘))
      back (x ∷ y ∷ z ∷ B) h = absurd (omega arith)
