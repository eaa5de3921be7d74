-- The locator of at most three elements moved by S1, and its roots by κ, over a field of characteristic 2: with Y = X + S1,
-- E = S1^5 + S5 and W = Y E / D2^2 the elements X are where W^3 = κ (W + 1), κ = E^3 / D2^5; and two of the three Y give
-- the third, their sum. Two elements are no case of their own: one of the three X is then 0. Nothing is divided: a
-- quotient is given by the equation that it meets. Assumes nothing.
use Prim.Native.Nat.{◌≤◌}
use native.Mathlib.Omega.{arith}
use mathlib.Core.Path.{◌≡◌, refl, sym, ap, ◌∙◌}
use mathlib.Core.Logic.{◌⊎◌, inl, inr, ◌↔◌}
use mathlib.Core.List.{List, [], ◌∷◌, Memᴰ}
use lib.ListN.{length}
use Rattle.galois.proofs.Field2.{Field2, equal_of_sum, sum_of_equal, two_factors, three_factors, cancel}
use Rattle.bch.proofs.algebra.Ring2.{Exp, nil, one, v0, v1, v2, v3, v4, ◌⊞◌, ◌⊠◌, solve}
use Rattle.bch.proofs.algebra.Peterson.{SQ, CUBE, FIFTH, DET2, DELTA, REV3}
use Rattle.bch.proofs.algebra.Peterson.{sq, cube, fifth, det2, delta, det3, reverse3}
use Rattle.bch.proofs.algebra.Unique.{power1, power3, power5, apart_of, roots_of, det2_of, reverse3_of, member_of_root, root_of_member}
use Rattle.bch.proofs.algebra.Roots.{sq_not_zero, cube_not_zero}

-- `moved` on expressions
abbrev MOVED : Exp → Exp → Exp → Exp
MOVED d e y = d ⊠ CUBE y ⊞ e ⊠ y ⊞ SQ d

module _ {F : Type 0} {𝟘 𝟙 : F} {◌⊕◌ ◌⊗◌ : F → F → F} (K : Field2 𝟘 𝟙 ◌⊕◌ ◌⊗◌) where
  infixl 65 ◌⊕◌
  infixl 70 ◌⊗◌
  -- what is 0 may be added
  plus_zero : (g k p q : F) → p ≡ 𝟘 → q ≡ 𝟘 → g ⊕ (p ⊕ k ⊗ q) ≡ g
  plus_zero g k p q hp hq = rw (hp, hq) (solve K (g ∷ k ∷ []) (v0 ⊞ (nil ⊞ v1 ⊠ nil)) v0 refl)

  -- ---- the locator moved by S1

  -- E, from the syndromes S1 and S5
  abbrev pub slope : F → F → F
  slope s1 s5 = fifth K s1 ⊕ s5

  -- it is S1^2 D2 + δ2
  pub slope_is : (s1 s3 s5 : F) → slope s1 s5 ≡ sq K s1 ⊗ det2 K s1 s3 ⊕ delta K s1 s3 s5
  slope_is s1 s3 s5 = solve K (s1 ∷ s3 ∷ s5 ∷ []) (FIFTH v0 ⊞ v2) (SQ v0 ⊠ DET2 v0 v1 ⊞ DELTA v0 v1 v2) refl

  -- D y^3 + E y + D^2
  abbrev pub moved : F → F → F → F
  moved d e y = d ⊗ cube K y ⊕ e ⊗ y ⊕ sq K d

  -- it is the reverse locator, moved by S1
  pub reverse3_moved : (s1 s3 s5 w : F) → reverse3 K s1 s3 s5 w ≡ moved (det2 K s1 s3) (slope s1 s5) (s1 ⊕ w)
  reverse3_moved s1 s3 s5 w =
      solve K (s1 ∷ s3 ∷ s5 ∷ w ∷ []) (REV3 v0 v1 v2 v3) (MOVED (DET2 v0 v1) (FIFTH v0 ⊞ v2) (v0 ⊞ v3)) refl

  -- two different roots of it ..
  module _ (d e x y : F) (n : x ≡ y → ⊥) (hx : moved d e x ≡ 𝟘) (hy : moved d e y ≡ 𝟘) where
    slope_sum : e ⊕ d ⊗ (sq K x ⊕ x ⊗ y ⊕ sq K y) ≡ 𝟘
    slope_sum =
        two_factors K (x ⊕ y) (e ⊕ d ⊗ (sq K x ⊕ x ⊗ y ⊕ sq K y))
        (solve K (d ∷ e ∷ x ∷ y ∷ []) ((v2 ⊞ v3) ⊠ (v1 ⊞ v0 ⊠ (SQ v2 ⊞ v2 ⊠ v3 ⊞ SQ v3))) (MOVED v0 v1 v2 ⊞ MOVED v0 v1 v3) refl
        ∙ rw (hx, hy) (K.⊕-self 𝟘))
        (λ z. n (equal_of_sum K x y z))

    -- .. give the third, their sum, ..
    pub moved_falls : (w : F) → moved d e w ≡ d ⊗ ((w ⊕ x) ⊗ (w ⊕ y) ⊗ (w ⊕ (x ⊕ y)))
    moved_falls w =
        solve K (d ∷ e ∷ x ∷ y ∷ w ∷ []) (MOVED v0 v1 v4)
        (v0 ⊠ ((v4 ⊞ v2) ⊠ (v4 ⊞ v3) ⊠ (v4 ⊞ (v2 ⊞ v3))) ⊞ (MOVED v0 v1 v2 ⊞ (v4 ⊞ v2) ⊠ (v1 ⊞ v0 ⊠ (SQ v2 ⊞ v2 ⊠ v3 ⊞ SQ v3)))) refl
        ∙ plus_zero (d ⊗ ((w ⊕ x) ⊗ (w ⊕ y) ⊗ (w ⊕ (x ⊕ y)))) (w ⊕ x) (moved d e x) (e ⊕ d ⊗ (sq K x ⊕ x ⊗ y ⊕ sq K y)) hx slope_sum

    -- .. E ..
    pub slope_by : e ≡ d ⊗ (sq K x ⊕ x ⊗ y ⊕ sq K y)
    slope_by = equal_of_sum K e (d ⊗ (sq K x ⊕ x ⊗ y ⊕ sq K y)) slope_sum

    -- .. and D
    pub det_by : (d ≡ 𝟘 → ⊥) → d ≡ x ⊗ y ⊗ (x ⊕ y)
    det_by nd =
        cancel K d d (x ⊗ y ⊗ (x ⊕ y)) nd
        (equal_of_sum K (sq K d) (d ⊗ (x ⊗ y ⊗ (x ⊕ y)))
        (solve K (d ∷ x ∷ y ∷ []) (SQ v0 ⊞ v0 ⊠ (v1 ⊠ v2 ⊠ (v1 ⊞ v2))) (MOVED v0 (v0 ⊠ (SQ v1 ⊞ v1 ⊠ v2 ⊞ SQ v2)) v1) refl
        ∙ ap (λ z. moved d z x) (sym slope_by) ∙ hx))

  -- where E is 0 it is a cube root of D
  pub flat_root : (d e y : F) → (d ≡ 𝟘 → ⊥) → e ≡ 𝟘 → (moved d e y ≡ 𝟘) ↔ (cube K y ≡ d)
  flat_root d e y n z = (
    λ h. equal_of_sum K (cube K y) d (two_factors K d (cube K y ⊕ d) (sym flat ∙ h) n),
    λ h. flat ∙ rw (sum_of_equal K h) (K.⊗-zero d),
  )
    where
      flat : moved d e y ≡ d ⊗ (cube K y ⊕ d)
      flat = rw z (solve K (d ∷ y ∷ []) (MOVED v0 nil v1) (v0 ⊠ (CUBE v1 ⊞ v0)) refl)

  -- ---- κ

  -- the equation of W
  abbrev pub AtKappa : F → F → Type 0
  AtKappa k w = cube K w ≡ k ⊗ (w ⊕ 𝟙)

  -- f = D^2 / E and κ = E^3 / D^5
  module _ (d e f k : F) (nd : d ≡ 𝟘 → ⊥) (ne : e ≡ 𝟘 → ⊥) (hf : e ⊗ f ≡ sq K d) (hk : k ⊗ fifth K d ≡ cube K e) where
    -- f^3 κ = D
    pub kappa_cube : cube K f ⊗ k ≡ d
    kappa_cube =
        cancel K (cube K e) (cube K f ⊗ k) d (cube_not_zero K e ne)
        (solve K (e ∷ f ∷ k ∷ []) (CUBE v0 ⊠ (CUBE v1 ⊠ v2)) (CUBE (v0 ⊠ v1) ⊠ v2) refl
        ∙ ap (λ z. cube K z ⊗ k) hf ∙ solve K (d ∷ k ∷ []) (CUBE (SQ v0) ⊠ v1) (v1 ⊠ FIFTH v0 ⊠ v0) refl ∙ ap (λ z. z ⊗ d) hk)

    -- so f is not 0, ..
    pub scale_not_zero : f ≡ 𝟘 → ⊥
    scale_not_zero z = sq_not_zero K d nd (sym hf ∙ rw z (K.⊗-zero e))

    -- .. and κ is not 0
    pub kappa_not_zero : k ≡ 𝟘 → ⊥
    kappa_not_zero z = nd (sym kappa_cube ∙ rw z (K.⊗-zero (cube K f)))

    moved_scaled : (w : F) → moved d e (w ⊗ f) ≡ d ⊗ cube K f ⊗ (cube K w ⊕ k ⊗ (w ⊕ 𝟙))
    moved_scaled w =
        solve K (d ∷ e ∷ f ∷ w ∷ []) (MOVED v0 v1 (v3 ⊠ v2)) (v0 ⊠ CUBE v2 ⊠ CUBE v3 ⊞ v1 ⊠ v2 ⊠ v3 ⊞ SQ v0) refl
        ∙ ap (λ z. d ⊗ cube K f ⊗ cube K w ⊕ z ⊗ w ⊕ sq K d) hf
        ∙ solve K (d ∷ f ∷ w ∷ []) (v0 ⊠ CUBE v1 ⊠ CUBE v2 ⊞ SQ v0 ⊠ v2 ⊞ SQ v0) (v0 ⊠ CUBE v1 ⊠ CUBE v2 ⊞ v0 ⊠ v0 ⊠ (v2 ⊞ one)) refl
        ∙ ap (λ z. d ⊗ cube K f ⊗ cube K w ⊕ d ⊗ z ⊗ (w ⊕ 𝟙)) (sym kappa_cube)
        ∙ solve K (d ∷ f ∷ k ∷ w ∷ []) (v0 ⊠ CUBE v1 ⊠ CUBE v3 ⊞ v0 ⊠ (CUBE v1 ⊠ v2) ⊠ (v3 ⊞ one))
        (v0 ⊠ CUBE v1 ⊠ (CUBE v3 ⊞ v2 ⊠ (v3 ⊞ one))) refl

    -- Y = W f is a root exactly where W meets its equation
    pub kappa_root : (w : F) → (moved d e (w ⊗ f) ≡ 𝟘) ↔ AtKappa k w
    kappa_root w = (
      λ h. equal_of_sum K (cube K w) (k ⊗ (w ⊕ 𝟙))
          (two_factors K (d ⊗ cube K f) (cube K w ⊕ k ⊗ (w ⊕ 𝟙)) (sym (moved_scaled w) ∙ h)
          (λ z. cube_not_zero K f scale_not_zero (two_factors K d (cube K f) z nd))),
      λ h. moved_scaled w ∙ rw (sum_of_equal K h) (K.⊗-zero (d ⊗ cube K f)),
    )

  -- W is not 0, ..
  pub kappa_nonzero : (k w : F) → (k ≡ 𝟘 → ⊥) → AtKappa k w → w ≡ 𝟘 → ⊥
  kappa_nonzero k w n h z = n (solve K (k ∷ []) v0 (v0 ⊠ (nil ⊞ one)) refl ∙ sym (rw z at h) ∙ solve K [] (CUBE nil) nil refl)

  -- .. nor 1
  pub kappa_nonunit : (k w : F) → AtKappa k w → w ≡ 𝟙 → ⊥
  kappa_nonunit k w h z = K.one_not_zero (solve K [] one (CUBE one) refl ∙ (rw z at h) ∙ solve K (k ∷ []) (v0 ⊠ (one ⊞ one)) nil refl)

  -- ---- at most three elements, where D2 is not zero

  -- y is a root of the moved locator of A
  abbrev pub RootOf : List F → F → Type 0
  RootOf A y = moved (det2 K (power1 K A) (power3 K A)) (slope (power1 K A) (power5 K A)) y ≡ 𝟘

  -- two roots and their sum, moved back by s
  abbrev pub three : F → F → F → List F
  three s x y = (s ⊕ x) ∷ (s ⊕ y) ∷ (s ⊕ (x ⊕ y)) ∷ []

  module _ (A : List F) (l : length A ≤ 3) (n : det2 K (power1 K A) (power3 K A) ≡ 𝟘 → ⊥) where
    -- each element, moved, is a root
    pub member_moved : (a : F) → Memᴰ a A → RootOf A (power1 K A ⊕ a)
    member_moved a m =
        sym (reverse3_moved (power1 K A) (power3 K A) (power5 K A) a)
        ∙ reverse3_of K A l a ∙ rw (root_of_member K A l a m) (K.⊗-zero (apart_of K A))

    module _ (x y : F) (apart : x ≡ y → ⊥) (hx : RootOf A x) (hy : RootOf A y) where
      abbrev L : List F
      L = three (power1 K A) x y

      reverse3_three : (w : F) → reverse3 K (power1 K A) (power3 K A) (power5 K A) w ≡ det2 K (power1 K A) (power3 K A) ⊗ roots_of K L w
      reverse3_three w =
          reverse3_moved s (power3 K A) (power5 K A) w
          ∙ moved_falls (det2 K s (power3 K A)) (slope s (power5 K A)) x y apart hx hy (s ⊕ w)
          ∙ ap (λ z. det2 K s (power3 K A) ⊗ z)
          (solve K (s ∷ w ∷ x ∷ y ∷ []) ((v0 ⊞ v1 ⊞ v2) ⊠ (v0 ⊞ v1 ⊞ v3) ⊠ (v0 ⊞ v1 ⊞ (v2 ⊞ v3)))
          ((v1 ⊞ (v0 ⊞ v2)) ⊠ (v1 ⊞ (v0 ⊞ v3)) ⊠ (v1 ⊞ (v0 ⊞ (v2 ⊞ v3)))) refl)
        where
          s : F
          s = power1 K A

      same : (w : F) → roots_of K A w ≡ roots_of K L w
      same w =
          cancel K (det2 K (power1 K A) (power3 K A)) (roots_of K A w) (roots_of K L w) n
          (ap (λ z. z ⊗ roots_of K A w) (det2_of K A l) ∙ sym (reverse3_of K A l w) ∙ reverse3_three w)

      -- the elements are those of the three that are not 0
      pub three_are : (a : F) → (a ≡ 𝟘 → ⊥) → Memᴰ a A ↔ Memᴰ a (three (power1 K A) x y)
      three_are a na = (
        λ k. member_of_root K L a na (sym (same a) ∙ root_of_member K A l a k),
        λ k. member_of_root K A a na (same a ∙ root_of_member K L (omega arith) a k),
      )

      -- D3 is D2 times the product of the three, ..
      pub three_product : det3 K (power1 K A) (power3 K A) (power5 K A)
          ≡ det2 K (power1 K A) (power3 K A) ⊗ ((power1 K A ⊕ x) ⊗ (power1 K A ⊕ y) ⊗ (power1 K A ⊕ (x ⊕ y)))
      three_product =
          solve K (D ∷ s ∷ delta K s (power3 K A) (power5 K A) ∷ det3 K s (power3 K A) (power5 K A) ∷ []) v3
          (v0 ⊠ CUBE nil ⊞ v1 ⊠ v0 ⊠ SQ nil ⊞ v2 ⊠ nil ⊞ v3) refl
          ∙ reverse3_three 𝟘
          ∙ solve K (D ∷ s ∷ x ∷ y ∷ []) (v0 ⊠ ((nil ⊞ (v1 ⊞ v2)) ⊠ (nil ⊞ (v1 ⊞ v3)) ⊠ (nil ⊞ (v1 ⊞ (v2 ⊞ v3)))))
          (v0 ⊠ ((v1 ⊞ v2) ⊠ (v1 ⊞ v3) ⊠ (v1 ⊞ (v2 ⊞ v3)))) refl
        where
          s : F
          s = power1 K A

          D : F
          D = det2 K s (power3 K A)

      -- .. so that one of them is 0 where D3 is: for two elements
      pub three_zero : det3 K (power1 K A) (power3 K A) (power5 K A) ≡ 𝟘 → Memᴰ 𝟘 (three (power1 K A) x y)
      three_zero z =
          pick (three_factors K (power1 K A ⊕ x) (power1 K A ⊕ y) (power1 K A ⊕ (x ⊕ y)) (two_factors K _ _ (sym three_product ∙ z) n))
        where
          pick : (power1 K A ⊕ x ≡ 𝟘) ⊎ ((power1 K A ⊕ y ≡ 𝟘) ⊎ (power1 K A ⊕ (x ⊕ y) ≡ 𝟘)) → Memᴰ 𝟘 (three (power1 K A) x y)
          pick (inl h) = Memᴰ.head (sym h)
          pick (inr (inl h)) = Memᴰ.tail (Memᴰ.head (sym h))
          pick (inr (inr h)) = Memᴰ.tail (Memᴰ.tail (Memᴰ.head (sym h)))
