-- The elements by κ need no check of their sums: where the entries of the tables are right, two or three elements that are
-- computed add up to the syndromes by themselves, so that their logarithms need only be below n. Assumes nothing.
use Prim.Native.Nat.{ℕ, ◌*◌, ◌^◌, ◌<◌}
use native.Mathlib.Nat.{one-mul, pos_of_ne-zero}
use native.Mathlib.Omega.{arith}
use native.Mathlib.Decide.{ℕ_discrete}
use mathlib.Core.Path.{◌≡◌, refl, sym, ap, ap₂, ◌∙◌}
use mathlib.Core.Logic.{◌≢◌}
use mathlib.Core.Bool.{Bool, true, false, ◌&&◌}
use mathlib.Core.List.{List, [], ◌∷◌, map}
use mathlib.Core.Option.{Option}
use lib.Bits.{bit_xor}
use lib.Dec.{T}
use lib.ListN.{length-map}
use Rattle.galois.specs.Field.{mul, alpha, log}
use Rattle.galois.proofs.Primitive.{Primitive}
use Rattle.galois.proofs.Field2.{Field2, ⊕-cancel_self}
use Rattle.galois.proofs.FieldLaws.{alpha_log, mul_zero_r}
use Rattle.galois.proofs.FieldOf.{El, same, none, one, plus, product, field}
use Rattle.bch.specs.Locator.{square, cubed, d2, delta2, d3}
use Rattle.bch.proofs.algebra.Ring2.{nil, v0, v1, v2, ◌⊞◌, ◌⊠◌, solve}
use Rattle.bch.proofs.algebra.Peterson.{SQ, CUBE, FIFTH}
use Rattle.bch.proofs.algebra.Peterson.{sq, cube, fifth, det2}
use Rattle.bch.proofs.algebra.Unique.{total}
use Rattle.bch.proofs.codes.Positions.{sum_at}
use Rattle.bch.proofs.decoding.Located.{Summed}
use Rattle.bch.proofs.algebra.Kappa.{slope, moved, reverse3_moved, slope_by, det_by, three}
use Rattle.bch.proofs.decoding.Decoder.{is_below, is_summed, →is_summed, when, attempted}
use Rattle.bch.proofs.decoding.Elements.{if_zero, zero_is, zero_not}
use Rattle.bch.proofs.decoding.KappaDecoder.{e5, nonzero, trio, cubed_log, fifthed_log, trio_short}

-- ---- the locator moved by S1, in numbers

-- with Y = X + S1, D2-as-X³ + S1·D2·X² + δ2·X + D3 = D2-as-Y³ + E-as-Y + D2², where E = S1⁵ + S5 (`e5_is`: it is S1²-as-D2 + δ2). No
-- code cites the two laws: they tie what is solved to document 01's locator
pub moved_is : (m : ℕ) → Primitive m → (s1 s3 s5 x : ℕ) → s1 < 2 ^ m → s3 < 2 ^ m → s5 < 2 ^ m → x < 2 ^ m
    → bit_xor (bit_xor (bit_xor (mul m (d2 m s1 s3) (cubed m x)) (mul m (mul m s1 (d2 m s1 s3)) (square m x))) (mul m (delta2 m s1 s3 s5) x))
    (d3 m s1 s3 s5)
    ≡ bit_xor (bit_xor (mul m (d2 m s1 s3) (cubed m (bit_xor s1 x))) (mul m (e5 m s1 s5) (bit_xor s1 x))) (square m (d2 m s1 s3))
moved_is m g s1 s3 s5 x h1 h3 h5 h = λ i. (reverse3_moved (field m g) (s1, h1) (s3, h3) (s5, h5) (x, h) i).0

-- ---- the power sums of two roots and their sum, moved back

module _ {F : Type 0} {𝟘 𝟙 : F} {◌⊕◌ ◌⊗◌ : F → F → F} (K : Field2 𝟘 𝟙 ◌⊕◌ ◌⊗◌) (s1 s3 s5 x y : F) where
  infixl 65 ◌⊕◌
  infixl 70 ◌⊗◌
  pub three_sum1 : total K (λ a. a) (three K s1 x y) ≡ s1
  three_sum1 = solve K (s1 ∷ x ∷ y ∷ []) ((v0 ⊞ v1) ⊞ ((v0 ⊞ v2) ⊞ ((v0 ⊞ (v1 ⊞ v2)) ⊞ nil))) v0 refl

  module _ (n : det2 K s1 s3 ≡ 𝟘 → ⊥) (apart : x ≡ y → ⊥) (hx : moved K (det2 K s1 s3) (slope K s1 s5) x ≡ 𝟘)
      (hy : moved K (det2 K s1 s3) (slope K s1 s5) y ≡ 𝟘) where
    by_det : det2 K s1 s3 ≡ x ⊗ y ⊗ (x ⊕ y)
    by_det = det_by K (det2 K s1 s3) (slope K s1 s5) x y apart hx hy n

    by_slope : x ⊗ y ⊗ (x ⊕ y) ⊗ (sq K x ⊕ x ⊗ y ⊕ sq K y) ≡ slope K s1 s5
    by_slope = ap (λ z. z ⊗ (sq K x ⊕ x ⊗ y ⊕ sq K y)) (sym by_det) ∙ sym (slope_by K (det2 K s1 s3) (slope K s1 s5) x y apart hx hy)

    pub three_sum3 : total K (cube K) (three K s1 x y) ≡ s3
    three_sum3 =
        solve K (s1 ∷ x ∷ y ∷ []) (CUBE (v0 ⊞ v1) ⊞ (CUBE (v0 ⊞ v2) ⊞ (CUBE (v0 ⊞ (v1 ⊞ v2)) ⊞ nil))) (CUBE v0 ⊞ v1 ⊠ v2 ⊠ (v1 ⊞ v2)) refl
        ∙ ap (λ z. cube K s1 ⊕ z) (sym by_det) ∙ ⊕-cancel_self K (cube K s1) s3

    pub three_sum5 : total K (fifth K) (three K s1 x y) ≡ s5
    three_sum5 =
        solve K (s1 ∷ x ∷ y ∷ []) (FIFTH (v0 ⊞ v1) ⊞ (FIFTH (v0 ⊞ v2) ⊞ (FIFTH (v0 ⊞ (v1 ⊞ v2)) ⊞ nil)))
        (FIFTH v0 ⊞ v1 ⊠ v2 ⊠ (v1 ⊞ v2) ⊠ (SQ v1 ⊞ v1 ⊠ v2 ⊞ SQ v2)) refl
        ∙ ap (λ z. fifth K s1 ⊕ z) by_slope ∙ ⊕-cancel_self K (fifth K s1) s5

-- ---- positions below n, with no check of their sums

-- the positions, where all are below n
unfoldable pub within : ℕ → List ℕ → Option (List ℕ)
unfolding when is_below
within n P = when (is_below n P) P

and_true : (a b : Bool) → T b → a && b ≡ a
and_true true true h = refl
and_true true false h = absurd h
and_true false b h = refl

-- elements whose sums are known to be right are refused only where one is beyond n
pub attempted_within : (m t n s1 s3 s5 : ℕ) (E : List ℕ) → Summed m t s1 s3 s5 (map (log m) E)
    → within n (map (log m) E) ≡ attempted m t n s1 s3 s5 E
unfolding within attempted
attempted_within m t n s1 s3 s5 E s =
    let P = map (log m) E in
    ap (λ (b : Bool). when b P) (sym (and_true (is_below n P) (is_summed m t s1 s3 s5 P) (→is_summed m t s1 s3 s5 P s)))

module _ (m : ℕ) (g : Primitive m) where
  abbrev K : Field2 (none m) (one m g) (plus m) (product m g)
  K = field m g

  -- ---- the sums over logarithms

  pub sum_logs : (i : ℕ) (f : El m → El m) → ((f (none m)).0 ≡ 0) → ((a : El m) → a.0 ≢ 0 → alpha m (i * log m a.0) ≡ (f a).0) → (A : List (El m))
      → sum_at m i (map (log m) (nonzero (map (λ (a : El m). a.0) A))) ≡ (total (field m g) f A).0
  unfolding sum_at nonzero
  sum_logs i f z h [] = refl
  sum_logs i f z h (a ∷ A) = go (ℕ_discrete a.0 0) (sum_logs i f z h A)
    where
      L : List ℕ
      L = nonzero (map (λ (a : El m). a.0) A)

      go : Dec (a.0 ≡ 0) → sum_at m i (map (log m) L) ≡ (total K f A).0
          → sum_at m i (map (log m) (if_zero a.0 L (a.0 ∷ L))) ≡ bit_xor (f a).0 (total K f A).0
      go (yes e) k =
          let q : (f a).0 ≡ 0 = (let p : a ≡ none m = same m e in ap (λ (b : El m). (f b).0) p ∙ z) in
          ap (λ (l : List ℕ). sum_at m i (map (log m) l)) (zero_is a.0 L (a.0 ∷ L) e) ∙ k ∙ ap (λ (x : ℕ). bit_xor x (total K f A).0) (sym q)
      go (no n) k =
          ap (λ (l : List ℕ). sum_at m i (map (log m) l)) (zero_not a.0 L (a.0 ∷ L) n) ∙ ap₂ bit_xor (h a n) k

  module _ (s1 s3 s5 : El m) (n : det2 K s1 s3 ≡ none m → ⊥) where
    abbrev D : El m
    D = det2 K s1 s3

    abbrev E : El m
    E = slope K s1 s5

    -- two different roots of the moved locator and their sum, moved back
    pub trio_sums : (x y : El m) → (x ≡ y → ⊥) → moved (field m g) (det2 (field m g) s1 s3) (slope (field m g) s1 s5) x ≡ none m
        → moved (field m g) (det2 (field m g) s1 s3) (slope (field m g) s1 s5) y ≡ none m
        → Summed m 3 s1.0 s3.0 s5.0 (map (log m) (trio s1.0 x.0 y.0))
    unfolding trio
    trio_sums x y d hx hy =
        record {
          few = omega (arith, length-map C (log m), trio_short s1.0 x.0 y.0);
          sum1 =
              sum_logs 1 (λ a. a) refl (λ a k. ap (alpha m) (one-mul (log m a.0)) ∙ alpha_log m g a.0 (pos_of_ne-zero k) a.1) A
              ∙ (λ i. (three_sum1 K s1 s3 s5 x y i).0);
          sum3 = λ h.
              sum_logs 3 (cube K) (mul_zero_r m g (mul m 0 0)) (λ a k. sym (cubed_log m g a.0 k a.1)) A
              ∙ (λ i. (three_sum3 K s1 s3 s5 x y n d hx hy i).0);
          sum5 = λ h.
              sum_logs 5 (fifth K) (mul_zero_r m g (mul m (mul m (mul m 0 0) 0) 0)) (λ a k. sym (fifthed_log m g a.0 k a.1)) A
              ∙ (λ i. (three_sum5 K s1 s3 s5 x y n d hx hy i).0);
        }
      where
        C : List ℕ
        C = trio s1.0 x.0 y.0

        A : List (El m)
        A = plus m s1 x ∷ plus m s1 y ∷ plus m s1 (plus m x y) ∷ []
