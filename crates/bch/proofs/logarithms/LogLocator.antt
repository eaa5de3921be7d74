-- The positions to flip by logarithms, read from a code's tables in one list: what the closed form locates, with no check of the
-- sums. Assumes nothing.
use Prim.Native.Nat.{ℕ, zero, suc, ◌+◌, ◌-◌, ◌*◌, ◌/◌, ◌%◌, ◌^◌, ◌≤◌, ◌<◌}
use native.Mathlib.Nat.{one-mul}
use native.Mathlib.Omega.{arith}
use native.Mathlib.Decide.{ℕ_discrete}
use mathlib.Core.Path.{◌≡◌, refl, sym, ap, ap₂, ◌∙◌, subst}
use mathlib.Core.Logic.{◌≢◌}
use mathlib.Core.Bool.{cond}
use mathlib.Core.List.{List, [], ◌∷◌, map}
use mathlib.Core.Option
use mathlib.Core.Option.{Option, none as lost, some}
use lib.Bits.{bit_xor, xor_zero_r, xor_self}
use lib.Dec.{ltb}
use lib.ListN.{length}
use Rattle.galois.specs.Field.{alpha, log, mul}
use Rattle.galois.proofs.Xor.{xor_zero→eq}
use Rattle.galois.proofs.Primitive.{Primitive}
use Rattle.galois.proofs.FieldLaws.{alpha_log, mul_zero_r}
use Rattle.bch.specs.Words.{Below}
use Rattle.bch.specs.Locator.{cubed, d2}
use Rattle.bch.proofs.codes.Positions.{sum_at}
use Rattle.bch.proofs.decoding.Located.{Summed}
use Rattle.bch.proofs.decoding.Decoder.{attempted, attempted_logs, attempted_sound}
use Rattle.bch.proofs.decoding.Elements.{if_zero, zero_is, zero_not, single}
use Rattle.bch.proofs.decoding.KappaDecoder.{fifthed, e5, nonzero, cubed_log, fifthed_log}
use Rattle.bch.proofs.decoding.KappaSums.{within}
use Rattle.bch.proofs.decoding.Sorting.{sorted}
use Rattle.bch.proofs.tables.CodeTables.{log_in, powers_in, roots_in, folded, reduced}

-- ---- the locator, branch by branch

-- S1 w and S1 (w + 1), where w² + w = D2 / S1³
unfoldable pub pair_in : ℕ → ℕ → List ℕ → ℕ → ℕ → Option (List ℕ)
unfolding if_zero within reduced folded
pair_in m n ts l1 d =
    let p = 2 ^ m - 1 in
    let r = roots_in m ts (folded m (log_in ts d + 3 * (p - l1))) in
    if_zero r lost (within n (reduced p (l1 + r % 1024) ∷ reduced p (l1 + r / 1024) ∷ []))

-- two roots and their sum, moved by s1
unfoldable pub trio_in : ℕ → List ℕ → ℕ → ℕ → ℕ → Option (List ℕ)
unfolding if_zero within
trio_in n ts s1 y1 y2 =
    let x1 = bit_xor s1 y1 in
    let x2 = bit_xor s1 y2 in
    let x3 = bit_xor x1 y2 in
    let p1 = log_in ts x1 in
    let p2 = log_in ts x2 in
    let p3 = log_in ts x3 in
    if_zero x1 (within n (p2 ∷ p3 ∷ []))
    (if_zero x2 (within n (p1 ∷ p3 ∷ []))
    (if_zero x3 (within n (p1 ∷ p2 ∷ []))
    (within n (p1 ∷ p2 ∷ p3 ∷ []))))

-- where E is 0
unfoldable pub cubes_in : ℕ → ℕ → List ℕ → ℕ → ℕ → Option (List ℕ)
unfolding if_zero trio_in
cubes_in m n ts s1 d =
    let p = 2 ^ m - 1 in
    let l = log_in ts d in
    if_zero (p % 3) (if_zero (l % 3) (trio_in n ts s1 (powers_in m ts (l / 3) % 1024) (powers_in m ts (l / 3 + p / 3) % 1024)) lost) lost

-- elsewhere
unfoldable pub kappa_in : ℕ → ℕ → List ℕ → ℕ → ℕ → ℕ → Option (List ℕ)
unfolding trio_in folded
kappa_in m n ts s1 d e =
    let p = 2 ^ m - 1 in
    let ld = log_in ts d in
    let le = log_in ts e in
    let r = roots_in m ts (folded m (3 * le + 5 * (p - ld))) in
    let s = 2 * ld + (p - le) in
    cond (ltb r 1024) lost
    (trio_in n ts s1 (powers_in m ts (folded m (s + r % 1024)) % 1024) (powers_in m ts (folded m (s + r / 1024)) % 1024))

-- where there is more than one error: from S1, its logarithm and the rest
unfoldable pub more_in : ℕ → ℕ → ℕ → List ℕ → ℕ → ℕ → ℕ → Option (List ℕ)
unfolding if_zero pair_in cubes_in kappa_in
more_in m zero n ts s1 l1 r = lost
more_in m (suc zero) n ts s1 l1 r = lost
more_in m (suc (suc zero)) n ts s1 l1 r = if_zero s1 lost (pair_in m n ts l1 (r / 1024 % 1024))
more_in m (suc (suc (suc t))) n ts s1 l1 r =
    if_zero (r / 1024 % 1024) lost
    (if_zero (r / 1048576) (cubes_in m n ts s1 (r / 1024 % 1024)) (kappa_in m n ts s1 (r / 1024 % 1024) (r / 1048576)))

-- the positions to flip for the syndromes s
unfoldable pub locate_in : ℕ → ℕ → ℕ → List ℕ → ℕ → Option (List ℕ)
unfolding if_zero within more_in
locate_in m t n ts s =
    let s1 = s % 1024 in
    let l1 = log_in ts s1 in
    let r = bit_xor s (powers_in m ts l1) in
    if_zero s (some []) (if_zero r (within n (l1 ∷ [])) (more_in m t n ts s1 l1 r))

-- and in order
abbrev pub rising_in : ℕ → ℕ → ℕ → List ℕ → ℕ → Option (List ℕ)
rising_in m t n ts s = Option.map sorted (locate_in m t n ts s)

-- ---- elements that are refused

-- elements that cannot be right are refused
pub attempted_lost : (m t n s1 s3 s5 : ℕ) (E : List ℕ) → length E ≤ t
    → (Below n (map (log m) E) → Summed m t s1 s3 s5 (map (log m) E) → ⊥) → lost ≡ attempted m t n s1 s3 s5 E
attempted_lost m t n s1 s3 s5 E l h = go (attempted m t n s1 s3 s5 E) refl
  where
    go : (o : Option (List ℕ)) → attempted m t n s1 s3 s5 E ≡ o → lost ≡ o
    go lost e = refl
    go (some P) e =
        let (b, s) = attempted_sound m t n s1 s3 s5 E l P e in
        let q = attempted_logs m t n s1 s3 s5 E P e in
        absurd (h (subst (Below n) (sym q) b) (subst (Summed m t s1 s3 s5) (sym q) s))

-- ---- one error

module _ (m : ℕ) (g : Primitive m) (t s1 s3 s5 : ℕ) (h1 : s1 < 2 ^ m) where
  pub single_zero : s1 ≡ 0 → single s1 ≡ []
  unfolding single
  single_zero z = zero_is s1 [] (s1 ∷ []) z

  pub single_some : s1 ≢ 0 → single s1 ≡ s1 ∷ []
  unfolding single
  single_some n = zero_not s1 [] (s1 ∷ []) n

  -- it adds up to the syndromes where D2 and E are 0
  pub single_summed : 1 ≤ t → (2 ≤ t → d2 m s1 s3 ≡ 0) → (3 ≤ t → e5 m s1 s5 ≡ 0) → Summed m t s1 s3 s5 (map (log m) (single s1))
  unfolding sum_at
  single_summed l h k = go (ℕ_discrete s1 0)
    where
      go : Dec (s1 ≡ 0) → Summed m t s1 s3 s5 (map (log m) (single s1))
      go (yes z) =
          let c : cubed m s1 ≡ 0 = ap (mul m (mul m s1 s1)) z ∙ mul_zero_r m g (mul m s1 s1) in
          let v : fifthed m s1 ≡ 0 = ap (mul m (mul m (mul m (mul m s1 s1) s1) s1)) z ∙ mul_zero_r m g (mul m (mul m (mul m s1 s1) s1) s1) in
          subst (λ (E : List ℕ). Summed m t s1 s3 s5 (map (log m) E)) (sym (single_zero z))
          (record {
            few = omega arith;
            sum1 = sym z;
            sum3 = λ u. sym c ∙ xor_zero→eq (cubed m s1) s3 (h u);
            sum5 = λ u. sym v ∙ xor_zero→eq (fifthed m s1) s5 (k u);
          })
      go (no n) =
          subst (λ (E : List ℕ). Summed m t s1 s3 s5 (map (log m) E)) (sym (single_some n))
          (record {
            few = omega arith;
            sum1 = xor_zero_r (alpha m (1 * log m s1)) ∙ ap (alpha m) (one-mul (log m s1)) ∙ alpha_log m g s1 (omega arith) h1;
            sum3 = λ u. xor_zero_r (alpha m (3 * log m s1)) ∙ sym (cubed_log m g s1 n h1) ∙ xor_zero→eq (cubed m s1) s3 (h u);
            sum5 = λ u. xor_zero_r (alpha m (5 * log m s1)) ∙ sym (fifthed_log m g s1 n h1) ∙ xor_zero→eq (fifthed m s1) s5 (k u);
          })

  -- .. and only there
  pub single_flat : 3 ≤ t → e5 m s1 s5 ≢ 0 → Summed m t s1 s3 s5 (map (log m) (single s1)) → ⊥
  unfolding sum_at
  single_flat u n s = go (ℕ_discrete s1 0)
    where
      go : Dec (s1 ≡ 0) → ⊥
      go (yes z) =
          let v : fifthed m s1 ≡ 0 = ap (mul m (mul m (mul m (mul m s1 s1) s1) s1)) z ∙ mul_zero_r m g (mul m (mul m (mul m s1 s1) s1) s1) in
          let q : 0 ≡ s5 = subst (λ (E : List ℕ). sum_at m 5 (map (log m) E) ≡ s5) (single_zero z) (s.sum5 u) in
          n (ap₂ bit_xor v (sym q))
      go (no k) =
          let q : bit_xor (alpha m (5 * log m s1)) 0 ≡ s5 = subst (λ (E : List ℕ). sum_at m 5 (map (log m) E) ≡ s5) (single_some k) (s.sum5 u) in
          n (ap (λ (x : ℕ). bit_xor x s5) (fifthed_log m g s1 k h1 ∙ sym (xor_zero_r (alpha m (5 * log m s1))) ∙ q) ∙ xor_self s5)

-- ---- elements but 0

pub nonzero_skip : (a : ℕ) (l : List ℕ) → a ≡ 0 → nonzero (a ∷ l) ≡ nonzero l
unfolding nonzero
nonzero_skip a l z = zero_is a (nonzero l) (a ∷ nonzero l) z

pub nonzero_take : (a : ℕ) (l L : List ℕ) → a ≢ 0 → nonzero l ≡ L → nonzero (a ∷ l) ≡ a ∷ L
unfolding nonzero
nonzero_take a l L n e = zero_not a (nonzero l) (a ∷ nonzero l) n ∙ ap (λ (k : List ℕ). a ∷ k) e

pub nothing : nonzero [] ≡ []
unfolding nonzero
nothing = refl

pub nonzero_two : (a b : ℕ) → a ≢ 0 → b ≢ 0 → nonzero (a ∷ b ∷ []) ≡ a ∷ b ∷ []
unfolding nonzero
nonzero_two a b na nb = nonzero_take a (b ∷ []) (b ∷ []) na (nonzero_take b [] [] nb refl)
