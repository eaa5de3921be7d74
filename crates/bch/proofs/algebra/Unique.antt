-- At most t elements are fixed by their power sums S1, S3, .. (t = 1, 2, 3), over a field of characteristic 2; and so at
-- least 1 and at most 2t elements never have all of these 0. Assumes nothing.
use Prim.Native.Nat.{ℕ, zero, suc, ◌*◌, ◌≤◌, ◌<◌}
use native.Mathlib.Omega.{arith}
use mathlib.Core.Path.{◌≡◌, refl, sym, ◌∙◌}
use mathlib.Core.Logic.{◌⊎◌, inl, inr}
use mathlib.Core.List.Memᴰ
use mathlib.Core.List.{List, [], ◌∷◌, ◌++◌, Memᴰ}
use lib.ListN.{length, get_or, take, drop, take-append-drop, length-take, length-drop}
use Rattle.galois.proofs.Field2.{Field2, zero-⊕, zero-⊗, equal_of_sum, sum_of_equal, two_factors, three_factors}
use Rattle.bch.proofs.algebra.Ring2.{Exp, nil, v0, v1, v2, v3, ◌⊞◌, ◌⊠◌, solve}
use Rattle.bch.proofs.algebra.Peterson.{CUBE, FIFTH, DET2, DET3, REV2, REV3}
use Rattle.bch.proofs.algebra.Peterson.{cube, fifth, det2, det3, reverse2, reverse3, apart}

-- ---- sums over a list of expressions, in capitals, for `solve`

abbrev TOTAL : (Exp → Exp) → List Exp → Exp
TOTAL f [] = nil
TOTAL f (a ∷ A) = f a ⊞ TOTAL f A

abbrev SAME : Exp → Exp
SAME a = a

abbrev DET : List Exp → Exp
DET A = DET2 (TOTAL SAME A) (TOTAL CUBE A)

abbrev AP : Exp → Exp → Exp → Exp
AP x y z = (x ⊞ y) ⊠ (x ⊞ z) ⊠ (y ⊞ z)

abbrev DET3OF : List Exp → Exp
DET3OF A = DET3 (TOTAL SAME A) (TOTAL CUBE A) (TOTAL FIFTH A)

abbrev P : List Exp → Exp
P A = REV3 (TOTAL SAME A) (TOTAL CUBE A) (TOTAL FIFTH A) v3

abbrev Q : Exp → Exp → Exp → Exp
Q x y z = AP x y z ⊠ ((v3 ⊞ x) ⊠ (v3 ⊞ y) ⊠ (v3 ⊞ z))

abbrev P2 : List Exp → Exp
P2 A = v3 ⊠ REV2 (TOTAL SAME A) (TOTAL CUBE A) v3

abbrev Q2 : List Exp → Exp → Exp → Exp
Q2 A x y = TOTAL SAME A ⊠ ((v3 ⊞ x) ⊠ (v3 ⊞ y) ⊠ (v3 ⊞ nil))

module _ {F : Type 0} {𝟘 𝟙 : F} {◌⊕◌ ◌⊗◌ : F → F → F} (K : Field2 𝟘 𝟙 ◌⊕◌ ◌⊗◌) where
  infixl 65 ◌⊕◌
  infixl 70 ◌⊗◌
  -- ---- power sums

  -- the sum of f over a list
  abbrev pub total : (F → F) → List F → F
  total f [] = 𝟘
  total f (a ∷ A) = f a ⊕ total f A

  -- the power sums
  abbrev pub power1 : List F → F
  power1 A = total (λ a. a) A

  abbrev pub power3 : List F → F
  power3 A = total (cube K) A

  abbrev pub power5 : List F → F
  power5 A = total (fifth K) A

  -- not zero, and pairwise distinct
  abbrev pub Errors : List F → Type 0
  Errors [] = Unit {0}
  Errors (a ∷ A) = (a ≡ 𝟘 → ⊥) × (Memᴰ a A → ⊥) × Errors A

  -- the power sums that a code of t errors has
  pub record SameSums (t : ℕ) (A B : List F) : Type 0 where
    pub same1 : power1 A ≡ power1 B
    pub same3 : 2 ≤ t → power3 A ≡ power3 B
    pub same5 : 3 ≤ t → power5 A ≡ power5 B

  -- ---- at most three elements and the roots of their locator

  -- a list of at most three, with zeros behind it: the product of their differences
  abbrev pub apart_of : List F → F
  apart_of A = apart K (get_or A 0 𝟘) (get_or A 1 𝟘) (get_or A 2 𝟘)

  -- the product of the differences from w
  abbrev pub roots_of : List F → F → F
  roots_of A w = (w ⊕ get_or A 0 𝟘) ⊗ (w ⊕ get_or A 1 𝟘) ⊗ (w ⊕ get_or A 2 𝟘)

  -- D2 of at most three elements, ..
  pub det2_of : (A : List F) → length A ≤ 3 → det2 K (power1 A) (power3 A) ≡ apart_of A
  det2_of [] h = solve K [] (DET []) (AP nil nil nil) refl
  det2_of (x ∷ []) h = solve K (x ∷ []) (DET (v0 ∷ [])) (AP v0 nil nil) refl
  det2_of (x ∷ y ∷ []) h = solve K (x ∷ y ∷ []) (DET (v0 ∷ v1 ∷ [])) (AP v0 v1 nil) refl
  det2_of (x ∷ y ∷ z ∷ []) h = solve K (x ∷ y ∷ z ∷ []) (DET (v0 ∷ v1 ∷ v2 ∷ [])) (AP v0 v1 v2) refl
  det2_of (x ∷ y ∷ z ∷ u ∷ A) h = absurd (omega arith)

  -- .. D3, ..
  pub det3_of : (A : List F) → length A ≤ 3 → det3 K (power1 A) (power3 A) (power5 A) ≡ apart_of A ⊗ (get_or A 0 𝟘 ⊗ get_or A 1 𝟘 ⊗ get_or A 2 𝟘)
  det3_of [] h = solve K [] (DET3OF []) (AP nil nil nil ⊠ (nil ⊠ nil ⊠ nil)) refl
  det3_of (x ∷ []) h = solve K (x ∷ []) (DET3OF (v0 ∷ [])) (AP v0 nil nil ⊠ (v0 ⊠ nil ⊠ nil)) refl
  det3_of (x ∷ y ∷ []) h = solve K (x ∷ y ∷ []) (DET3OF (v0 ∷ v1 ∷ [])) (AP v0 v1 nil ⊠ (v0 ⊠ v1 ⊠ nil)) refl
  det3_of (x ∷ y ∷ z ∷ []) h = solve K (x ∷ y ∷ z ∷ []) (DET3OF (v0 ∷ v1 ∷ v2 ∷ [])) (AP v0 v1 v2 ⊠ (v0 ⊠ v1 ⊠ v2)) refl
  det3_of (x ∷ y ∷ z ∷ u ∷ A) h = absurd (omega arith)

  -- .. and the reverse locator, in factors
  pub reverse3_of : (A : List F) → length A ≤ 3 → (w : F) → reverse3 K (power1 A) (power3 A) (power5 A) w ≡ apart_of A ⊗ roots_of A w
  reverse3_of [] h w = solve K (𝟘 ∷ 𝟘 ∷ 𝟘 ∷ w ∷ []) (P []) (Q nil nil nil) refl
  reverse3_of (x ∷ []) h w = solve K (x ∷ 𝟘 ∷ 𝟘 ∷ w ∷ []) (P (v0 ∷ [])) (Q v0 nil nil) refl
  reverse3_of (x ∷ y ∷ []) h w = solve K (x ∷ y ∷ 𝟘 ∷ w ∷ []) (P (v0 ∷ v1 ∷ [])) (Q v0 v1 nil) refl
  reverse3_of (x ∷ y ∷ z ∷ []) h w = solve K (x ∷ y ∷ z ∷ w ∷ []) (P (v0 ∷ v1 ∷ v2 ∷ [])) (Q v0 v1 v2) refl
  reverse3_of (x ∷ y ∷ z ∷ u ∷ A) h w = absurd (omega arith)

  member_at : (A : List F) (i : ℕ) (w : F) → (w ≡ 𝟘 → ⊥) → w ⊕ get_or A i 𝟘 ≡ 𝟘 → Memᴰ w A
  member_at [] i w n e = absurd (n (sym (K.⊕-zero w) ∙ e))
  member_at (x ∷ A) zero w n e = Memᴰ.head (equal_of_sum K w x e)
  member_at (x ∷ A) (suc i) w n e = Memᴰ.tail (member_at A i w n e)

  -- a root but 0 of the factors is a member, ..
  pub member_of_root : (A : List F) (w : F) → (w ≡ 𝟘 → ⊥) → roots_of A w ≡ 𝟘 → Memᴰ w A
  member_of_root A w n e = pick (three_factors K (w ⊕ get_or A 0 𝟘) (w ⊕ get_or A 1 𝟘) (w ⊕ get_or A 2 𝟘) e)
    where
      pick : (w ⊕ get_or A 0 𝟘 ≡ 𝟘) ⊎ ((w ⊕ get_or A 1 𝟘 ≡ 𝟘) ⊎ (w ⊕ get_or A 2 𝟘 ≡ 𝟘)) → Memᴰ w A
      pick (inl h) = member_at A 0 w n h
      pick (inr (inl h)) = member_at A 1 w n h
      pick (inr (inr h)) = member_at A 2 w n h

  zero_first : (a b c : F) → a ≡ 𝟘 → a ⊗ b ⊗ c ≡ 𝟘
  zero_first a b c h = rw h (rw (zero-⊗ K b) (zero-⊗ K c))

  zero_second : (a b c : F) → b ≡ 𝟘 → a ⊗ b ⊗ c ≡ 𝟘
  zero_second a b c h = rw h (rw (K.⊗-zero a) (zero-⊗ K c))

  zero_third : (a b c : F) → c ≡ 𝟘 → a ⊗ b ⊗ c ≡ 𝟘
  zero_third a b c h = rw h (K.⊗-zero (a ⊗ b))

  at_of_member : (A : List F) (w : F) → Memᴰ w A → (i : ℕ) × (i < length A) × (w ⊕ get_or A i 𝟘 ≡ 𝟘)
  at_of_member [] w x' = elim x' [ ]
  at_of_member (x ∷ A) w (Memᴰ.head e) = (0, omega arith, sum_of_equal K e)
  at_of_member (x ∷ A) w (Memᴰ.tail m) = let r = at_of_member A w m in (suc r.0, omega arith, r.2)

  -- .. and a member is a root
  pub root_of_member : (A : List F) → length A ≤ 3 → (w : F) → Memᴰ w A → roots_of A w ≡ 𝟘
  root_of_member A l w m = go (at_of_member A w m)
    where
      a : F
      a = w ⊕ get_or A 0 𝟘

      b : F
      b = w ⊕ get_or A 1 𝟘

      c : F
      c = w ⊕ get_or A 2 𝟘

      at : (i : ℕ) → i < 3 → w ⊕ get_or A i 𝟘 ≡ 𝟘 → a ⊗ b ⊗ c ≡ 𝟘
      at zero h e = zero_first a b c e
      at (suc zero) h e = zero_second a b c e
      at (suc (suc zero)) h e = zero_third a b c e
      at (suc (suc (suc i))) h e = absurd (omega arith)

      go : (i : ℕ) × (i < length A) × (w ⊕ get_or A i 𝟘 ≡ 𝟘) → a ⊗ b ⊗ c ≡ 𝟘
      go r = at r.0 (omega arith) r.2

  not_apart : (x y z : F) → (x ≡ y → ⊥) → (x ≡ z → ⊥) → (y ≡ z → ⊥) → apart K x y z ≡ 𝟘 → ⊥
  not_apart x y z f g h e = pick (three_factors K (x ⊕ y) (x ⊕ z) (y ⊕ z) e)
    where
      pick : (x ⊕ y ≡ 𝟘) ⊎ ((x ⊕ z ≡ 𝟘) ⊎ (y ⊕ z ≡ 𝟘)) → ⊥
      pick (inl d) = f (equal_of_sum K x y d)
      pick (inr (inl d)) = g (equal_of_sum K x z d)
      pick (inr (inr d)) = h (equal_of_sum K y z d)

  -- D2 is zero only for at most one element
  pub few : (A : List F) → Errors A → length A ≤ 3 → apart_of A ≡ 𝟘 → length A ≤ 1
  few [] ok l e = omega arith
  few (x ∷ []) ok l e = omega arith
  few (x ∷ y ∷ []) ok l e = absurd (not_apart x y 𝟘 (λ d. ok.1 (Memᴰ.head d)) ok.0 ok.2.0 e)
  few (x ∷ y ∷ z ∷ []) ok l e =
      absurd (not_apart x y z (λ d. ok.1 (Memᴰ.head d)) (λ d. ok.1 (Memᴰ.tail (Memᴰ.head d))) (λ d. ok.2.1 (Memᴰ.head d)) e)
  few (x ∷ y ∷ z ∷ u ∷ A) ok l e = absurd (omega arith)

  -- a member is not 0
  pub not_zero : (A : List F) → Errors A → (a : F) → Memᴰ a A → a ≡ 𝟘 → ⊥
  not_zero [] ok a x3 e = elim x3 [ ]
  not_zero (x ∷ A) ok a (Memᴰ.head d) e = ok.0 (sym d ∙ e)
  not_zero (x ∷ A) ok a (Memᴰ.tail m) e = not_zero A ok.2 a m e

  -- ---- the power sums fix the elements

  -- t = 1
  pub unique1 : (A B : List F) → Errors A → length A ≤ 1 → length B ≤ 1 → power1 A ≡ power1 B → (a : F) → Memᴰ a A → Memᴰ a B
  unique1 [] B ok l k e a m = absurd (Memᴰ.not-nil m)
  unique1 (x ∷ []) [] ok l k e a m = absurd (ok.0 (sym (K.⊕-zero x) ∙ e))
  unique1 (x ∷ []) (y ∷ []) ok l k e a (Memᴰ.head d) = Memᴰ.head (d ∙ sym (K.⊕-zero x) ∙ e ∙ K.⊕-zero y)
  unique1 (x ∷ []) (y ∷ []) ok l k e a (Memᴰ.tail m) = absurd (Memᴰ.not-nil m)
  unique1 (x ∷ []) (y ∷ z ∷ B) ok l k e a m = absurd (omega arith)
  unique1 (x ∷ y ∷ A) B ok l k e a m = absurd (omega arith)

  -- t = 3
  pub unique3 :
      (A B : List F) → Errors A → Errors B → length A ≤ 3 → length B ≤ 3 →
      power1 A ≡ power1 B → power3 A ≡ power3 B → power5 A ≡ power5 B → (a : F) → Memᴰ a A → Memᴰ a B
  unique3 A B okA okB l k s1 s3 s5 a m = go (K.equal? (apart_of A) 𝟘)
    where
      same : apart_of B ≡ apart_of A
      same = sym (det2_of B k) ∙ rw (← s1, ← s3) (det2_of A l)

      zero_at : apart_of B ⊗ roots_of B a ≡ 𝟘
      zero_at = sym (reverse3_of B k a) ∙ rw (← s1, ← s3, ← s5) (reverse3_of A l a ∙ rw (root_of_member A l a m) (K.⊗-zero (apart_of A)))

      go : Dec (apart_of A ≡ 𝟘) → Memᴰ a B
      go (yes e) = unique1 A B okA (few A okA l e) (few B okB k (same ∙ e)) s1 a m
      go (no n) = member_of_root B a (not_zero A okA a m) (two_factors K (apart_of B) (roots_of B a) zero_at (λ e. n (sym same ∙ e)))

  -- the reverse locator of at most two elements, in factors
  pub reverse2_of : (A : List F) → length A ≤ 2 → (w : F) → w ⊗ reverse2 K (power1 A) (power3 A) w ≡ power1 A ⊗ roots_of A w
  reverse2_of [] h w = solve K (𝟘 ∷ 𝟘 ∷ 𝟘 ∷ w ∷ []) (P2 []) (Q2 [] nil nil) refl
  reverse2_of (x ∷ []) h w = solve K (x ∷ 𝟘 ∷ 𝟘 ∷ w ∷ []) (P2 (v0 ∷ [])) (Q2 (v0 ∷ []) v0 nil) refl
  reverse2_of (x ∷ y ∷ []) h w = solve K (x ∷ y ∷ 𝟘 ∷ w ∷ []) (P2 (v0 ∷ v1 ∷ [])) (Q2 (v0 ∷ v1 ∷ []) v0 v1) refl
  reverse2_of (x ∷ y ∷ z ∷ A) h w = absurd (omega arith)

  -- S1 is zero only for no element
  pub no_element : (A : List F) → Errors A → length A ≤ 2 → power1 A ≡ 𝟘 → A ≡ []
  no_element [] ok l e = refl
  no_element (x ∷ []) ok l e = absurd (ok.0 (sym (K.⊕-zero x) ∙ e))
  no_element (x ∷ y ∷ []) ok l e = absurd (ok.1 (Memᴰ.head (equal_of_sum K x (y ⊕ 𝟘) e ∙ K.⊕-zero y)))
  no_element (x ∷ y ∷ z ∷ A) ok l e = absurd (omega arith)

  -- t = 2
  pub unique2 :
      (A B : List F) → Errors A → Errors B → length A ≤ 2 → length B ≤ 2 →
      power1 A ≡ power1 B → power3 A ≡ power3 B → (a : F) → Memᴰ a A → Memᴰ a B
  unique2 A B okA okB l k s1 s3 a m = go (K.equal? (power1 A) 𝟘)
    where
      zero_at : power1 B ⊗ roots_of B a ≡ 𝟘
      zero_at = sym (reverse2_of B k a) ∙ rw (← s1, ← s3) (reverse2_of A l a ∙ rw (root_of_member A (omega arith) a m) (K.⊗-zero (power1 A)))

      go : Dec (power1 A ≡ 𝟘) → Memᴰ a B
      go (yes e) = absurd (Memᴰ.not-nil (rw (no_element A okA l e) at m))
      go (no n) = member_of_root B a (not_zero A okA a m) (two_factors K (power1 B) (roots_of B a) zero_at (λ e. n (s1 ∙ e)))

  -- at most t elements with the same power sums are the same elements
  pub unique :
      (t : ℕ) → t ≤ 3 → (A B : List F) → Errors A → Errors B → length A ≤ t → length B ≤ t → SameSums t A B →
      (a : F) → Memᴰ a A → Memᴰ a B
  unique zero h A B okA okB l k s a m = unique1 A B okA (omega arith) (omega arith) s.same1 a m
  unique (suc zero) h A B okA okB l k s a m = unique1 A B okA l k s.same1 a m
  unique (suc (suc zero)) h A B okA okB l k s a m = unique2 A B okA okB l k s.same1 (s.same3 (omega arith)) a m
  unique (suc (suc (suc zero))) h A B okA okB l k s a m =
      unique3 A B okA okB l k s.same1 (s.same3 (omega arith)) (s.same5 (omega arith)) a m
  unique (suc (suc (suc (suc t)))) h A B okA okB l k s a m = absurd (omega arith)

  -- ---- the distance

  -- a sum over a joined list
  pub total_append : (f : F → F) (A B : List F) → total f (A ++ B) ≡ total f A ⊕ total f B
  total_append f [] B = sym (zero-⊕ K (total f B))
  total_append f (x ∷ A) B = rw (total_append f A B) (sym (K.⊕-assoc (f x) (total f A) (total f B)))

  member_take : (n : ℕ) (A : List F) (a : F) → Memᴰ a (take n A) → Memᴰ a A
  member_take zero A a m = absurd (Memᴰ.not-nil m)
  member_take (suc n) [] a m = m
  member_take (suc n) (x ∷ A) a (Memᴰ.head d) = Memᴰ.head d
  member_take (suc n) (x ∷ A) a (Memᴰ.tail m) = Memᴰ.tail (member_take n A a m)

  member_drop : (n : ℕ) (A : List F) (a : F) → Memᴰ a (drop n A) → Memᴰ a A
  member_drop zero A a m = m
  member_drop (suc n) [] a m = m
  member_drop (suc n) (x ∷ A) a m = Memᴰ.tail (member_drop n A a m)

  -- the first of a list of errors are one
  pub errors_take : (n : ℕ) (A : List F) → Errors A → Errors (take n A)
  errors_take zero A ok = tt
  errors_take (suc n) [] ok = tt
  errors_take (suc n) (x ∷ A) ok = (ok.0, λ m. ok.1 (member_take n A x m), errors_take n A ok.2)

  -- the rest of a list of errors is one
  pub errors_drop : (n : ℕ) (A : List F) → Errors A → Errors (drop n A)
  errors_drop zero A ok = ok
  errors_drop (suc n) [] ok = tt
  errors_drop (suc n) (x ∷ A) ok = errors_drop n A ok.2

  halves : (f : F → F) (n : ℕ) (C : List F) → total f C ≡ 𝟘 → total f (take n C) ≡ total f (drop n C)
  halves f n C e = equal_of_sum K (total f (take n C)) (total f (drop n C)) (sym (total_append f (take n C) (drop n C)) ∙ rw (take-append-drop n C) e)

  -- at least 1 and at most 2t elements do not have all their power sums zero
  pub distance :
      (t : ℕ) → 1 ≤ t → t ≤ 3 → (C : List F) → Errors C → 1 ≤ length C → length C ≤ 2 * t →
      power1 C ≡ 𝟘 → (2 ≤ t → power3 C ≡ 𝟘) → (3 ≤ t → power5 C ≡ 𝟘) → ⊥
  distance zero low high C ok some most s1 s3 s5 = omega arith
  distance (suc t) low high [] ok some most s1 s3 s5 = omega arith
  distance (suc t) low high (x ∷ C) ok some most s1 s3 s5 = ok.1 (member_drop t C x inside)
    where
      A : List F
      A = take (suc t) (x ∷ C)

      B : List F
      B = drop (suc t) (x ∷ C)

      same : SameSums (suc t) A B
      same =
          record {
            same1 = halves (λ a. a) (suc t) (x ∷ C) s1;
            same3 = λ h. halves (cube K) (suc t) (x ∷ C) (s3 h);
            same5 = λ h. halves (fifth K) (suc t) (x ∷ C) (s5 h);
          }

      inside : Memᴰ x (drop t C)
      inside =
          unique (suc t) high A B (errors_take (suc t) (x ∷ C) ok) (errors_drop (suc t) (x ∷ C) ok)
          (omega (arith, length-take (suc t) (x ∷ C))) (omega (arith, length-drop (suc t) (x ∷ C))) same x (Memᴰ.head refl)
