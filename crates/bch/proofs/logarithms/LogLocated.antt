-- The locator by logarithms gives what the closed form locates, in the same order; so the hard stage's answer is the word flipped
-- there. Assumes nothing but what the list is asked to hold.
use Prim.Native.Nat.{ℕ, zero, suc, ◌-◌, ◌/◌, ◌%◌, ◌^◌, ◌≤◌, ◌<◌}
use native.Mathlib.Omega.{arith}
use native.Mathlib.Decide.{ℕ_discrete}
use mathlib.Core.Path.{◌≡◌, refl, sym, ap, ap₂, ◌∙◌}
use mathlib.Core.Logic.{◌≢◌}
use mathlib.Core.List.{List, [], ◌∷◌, map}
use mathlib.Core.Option.{Option, none as lost, some}
use lib.Bits.{bit_xor, xor_lt, xor_zero_r}
use lib.ListN.{length}
use Rattle.galois.specs.Field.{log, mul}
use Rattle.galois.specs.Packed.{packed}
use Rattle.galois.proofs.Packed.{element_lt}
use Rattle.galois.proofs.Primitive.{Primitive}
use Rattle.galois.proofs.FieldLaws.{mul_lt, mul_zero_r}
use Rattle.galois.proofs.FieldOf.{same}
use Rattle.bch.specs.Locator.{cubed, d2}
use Rattle.bch.proofs.codes.Positions.{sum_at}
use Rattle.bch.proofs.decoding.Decoder.{is_below, when, attempted}
use Rattle.bch.proofs.decoding.Elements.{if_zero, zero_is, zero_not, single, elements}
use Rattle.bch.proofs.decoding.KappaDecoder.{e5, by_cubes, by_kappa, kappas}
use Rattle.bch.proofs.decoding.ElementLists.{pair_by, pair_zero, all_one, all_flat, all_two, all_cubes, all_kappa}
use Rattle.bch.proofs.decoding.ClosedForm.{located, located_from}
use Rattle.bch.proofs.tables.Placing.{lower_part}
use Rattle.bch.proofs.decoding.KappaSums.{within, attempted_within}
use Rattle.bch.proofs.tables.CodeTables.{CodeTables, log_in, powers_in, roots_in, primitive_code, lower_one, lower_two, lower_three, lower_first, rest_is}
use Rattle.bch.proofs.logarithms.LogRoots.{quad_in, first_in, second_in}
use Rattle.bch.proofs.logarithms.LogLocator.{pair_in, cubes_in, kappa_in, more_in, locate_in, attempted_lost, single_summed, single_flat}
use Rattle.bch.proofs.logarithms.LogLocator.{single_zero, single_some}
use Rattle.bch.proofs.logarithms.LogPairs.{pair_located}
use Rattle.bch.proofs.logarithms.LogTrios.{cubes_located, kappa_located}

-- what the closed form locates, with the tables that the list holds
abbrev pub located_in : ℕ → ℕ → ℕ → List ℕ → ℕ → ℕ → ℕ → Option (List ℕ)
located_in m t n ts s1 s3 s5 = located m t n (quad_in m (roots_in m ts)) (first_in m (roots_in m ts)) (second_in m (roots_in m ts)) s1 s3 s5

-- where the first t parts of a number are 0
lower_zero : (t : ℕ) → 1 ≤ t → t ≤ 3 → (d e : ℕ) → d < 1024 → lower_part t (packed 0 d e) ≡ 0 → (2 ≤ t → d ≡ 0) × (3 ≤ t → e ≡ 0)
lower_zero zero l u d e h z = absurd (omega arith)
lower_zero (suc zero) l u d e h z = (λ k. absurd (omega arith), λ k. absurd (omega arith))
lower_zero (suc (suc zero)) l u d e h z =
    let q : packed 0 d 0 ≡ 0 = sym (lower_two 0 d e (omega arith) h) ∙ z in
    (λ k. omega arith, λ k. absurd (omega arith))
lower_zero (suc (suc (suc zero))) l u d e h z =
    let q : packed 0 d e ≡ 0 = sym (lower_three 0 d e (omega arith) h) ∙ z in
    (λ k. omega arith, λ k. omega arith)
lower_zero (suc (suc (suc (suc t)))) l u d e h z = absurd (omega arith)

module _ (m t : ℕ) (ts : List ℕ) (f : CodeTables m t ts) (n s s1 s3 s5 : ℕ) (fits : n ≤ 2 ^ m - 1) (h1 : s1 < 2 ^ m) (h3 : s3 < 2 ^ m) (h5 : s5 < 2 ^ m)
    (is : s ≡ lower_part t (packed s1 s3 s5)) where
  abbrev g : Primitive m
  g = primitive_code m t ts f

  abbrev d : ℕ
  d = d2 m s1 s3

  abbrev e : ℕ
  e = e5 m s1 s5

  abbrev quad : ℕ → ℕ
  quad = quad_in m (roots_in m ts)

  abbrev first : ℕ → ℕ
  first = first_in m (roots_in m ts)

  abbrev second : ℕ → ℕ
  second = second_in m (roots_in m ts)

  abbrev r : ℕ
  r = bit_xor s (powers_in m ts (log_in ts (s % 1024)))

  d_lt : d < 2 ^ m
  d_lt = xor_lt m (cubed m s1) s3 (mul_lt m g (mul m s1 s1) s1 h1) h3

  d_small : d < 1024
  d_small = element_lt m d f.most d_lt

  first_part : s % 1024 ≡ s1
  first_part =
      ap (λ (x : ℕ). x % 1024) is ∙ lower_first s1 s3 s5 (element_lt m s1 f.most h1) (element_lt m s3 f.most h3) t f.t_least f.t_most

  rest : r ≡ lower_part t (packed 0 d e)
  rest = rest_is m t ts f s s1 s3 s5 h1 h3 h5 is

  -- by their list of elements
  by_list : (E : List ℕ) {o : Option (List ℕ)} → o ≡ attempted m t n s1 s3 s5 E → E ≡ elements m quad (kappas m first second) t s1 s3 s5
      → o ≡ located_in m t n ts s1 s3 s5
  by_list E h q = located_from m t n quad first second s1 s3 s5 s1 s3 s5 E h q refl refl refl

  flat_list : (2 ≤ t → d ≡ 0) → single s1 ≡ elements m quad (kappas m first second) t s1 s3 s5
  flat_list z = go (ℕ_discrete t 1)
    where
      go : Dec (t ≡ 1) → single s1 ≡ elements m quad (kappas m first second) t s1 s3 s5
      go (yes q) = all_one m quad first second s1 s3 s5 t q
      go (no k) = all_flat m quad first second s1 s3 s5 t d f.t_least f.t_most k refl (z (omega (arith, f.t_least)))

  -- at most one error
  flat : (2 ≤ t → d ≡ 0) × (3 ≤ t → e ≡ 0) → within n (map (log m) (single s1)) ≡ located_in m t n ts s1 s3 s5
  flat z =
      by_list (single s1) (attempted_within m t n s1 s3 s5 (single s1) (single_summed m g t s1 s3 s5 h1 f.t_least z.0 z.1)) (flat_list z.0)

  flat_if : r ≡ 0 → (2 ≤ t → d ≡ 0) × (3 ≤ t → e ≡ 0)
  flat_if z = lower_zero t f.t_least f.t_most d e d_small (sym rest ∙ z)

  none_is : s ≡ 0 → some [] ≡ located_in m t n ts s1 s3 s5
  unfolding within when is_below
  none_is z =
      let z1 : s1 ≡ 0 = sym first_part ∙ ap (λ (x : ℕ). x % 1024) z in
      let p : powers_in m ts (log_in ts (s % 1024)) ≡ 0 = ap (λ (x : ℕ). powers_in m ts (log_in ts x)) (first_part ∙ z1)
      ∙ ap (powers_in m ts) f.log_none ∙ f.power_none in
      let zr : r ≡ 0 = ap₂ bit_xor z p in
      ap (λ (E : List ℕ). within n (map (log m) E)) (sym (single_zero m g t s1 s3 s5 h1 z1)) ∙ flat (flat_if zr)

  one_is : s ≢ 0 → r ≡ 0 → within n (log_in ts (s % 1024) ∷ []) ≡ located_in m t n ts s1 s3 s5
  one_is k zr =
      let n1 : s1 ≢ 0 = λ z1.
      let p : powers_in m ts (log_in ts (s % 1024)) ≡ 0 = ap (λ (x : ℕ). powers_in m ts (log_in ts x)) (first_part ∙ z1)
      ∙ ap (powers_in m ts) f.log_none ∙ f.power_none in
      k (sym (xor_zero_r s) ∙ ap (bit_xor s) (sym p) ∙ zr) in
      ap (λ (x : ℕ). within n (x ∷ [])) (ap (log_in ts) first_part ∙ f.logs s1 n1 h1)
      ∙ ap (λ (E : List ℕ). within n (map (log m) E)) (sym (single_some m g t s1 s3 s5 h1 n1)) ∙ flat (flat_if zr)

  -- the rest is left to the cases of t
  pub by_rest : (r ≢ 0 → more_in m t n ts s1 (log_in ts s1) r ≡ located_in m t n ts s1 s3 s5) → locate_in m t n ts s ≡ located_in m t n ts s1 s3 s5
  unfolding locate_in
  by_rest more = go (ℕ_discrete s 0) (ℕ_discrete r 0)
    where
      one : Option (List ℕ)
      one = within n (log_in ts (s % 1024) ∷ [])

      others : Option (List ℕ)
      others = more_in m t n ts (s % 1024) (log_in ts (s % 1024)) r

      go : Dec (s ≡ 0) → Dec (r ≡ 0) → if_zero s (some []) (if_zero r one others) ≡ located_in m t n ts s1 s3 s5
      go (yes z) k = zero_is s (some []) (if_zero r one others) z ∙ none_is z
      go (no k) (yes z) = zero_not s (some []) (if_zero r one others) k ∙ zero_is r one others z ∙ one_is k z
      go (no k) (no j) =
          zero_not s (some []) (if_zero r one others) k ∙ zero_not r one others j ∙ ap (λ (x : ℕ). more_in m t n ts x (log_in ts x) r) first_part ∙ more j

-- ---- the cases of t

module _ (m : ℕ) (ts : List ℕ) (n s s1 s3 s5 : ℕ) (fits : n ≤ 2 ^ m - 1) (h1 : s1 < 2 ^ m) (h3 : s3 < 2 ^ m) (h5 : s5 < 2 ^ m) where
  locate_one : CodeTables m 1 ts → s ≡ lower_part 1 (packed s1 s3 s5) → locate_in m 1 n ts s ≡ located_in m 1 n ts s1 s3 s5
  locate_one f is =
      by_rest m 1 ts f n s s1 s3 s5 fits h1 h3 h5 is
      (λ k. absurd (k (rest m 1 ts f n s s1 s3 s5 fits h1 h3 h5 is
      ∙ lower_one 0 (d2 m s1 s3) (e5 m s1 s5) (omega arith) (d_small m 1 ts f n s s1 s3 s5 fits h1 h3 h5 is))))

  locate_two : CodeTables m 2 ts → s ≡ lower_part 2 (packed s1 s3 s5) → locate_in m 2 n ts s ≡ located_in m 2 n ts s1 s3 s5
  unfolding more_in sum_at
  locate_two f is = by_rest m 2 ts f n s s1 s3 s5 fits h1 h3 h5 is more
    where
      D : ℕ
      D = d2 m s1 s3

      rr : ℕ
      rr = bit_xor s (powers_in m ts (log_in ts (s % 1024)))

      prim : Primitive m
      prim = primitive_code m 2 ts f

      small : D < 1024
      small = d_small m 2 ts f n s s1 s3 s5 fits h1 h3 h5 is

      parts : rr ≡ packed 0 D 0
      parts = rest m 2 ts f n s s1 s3 s5 fits h1 h3 h5 is ∙ lower_two 0 D (e5 m s1 s5) (omega arith) small

      part : rr / 1024 % 1024 ≡ D
      part = omega (arith, parts, small)

      quad2 : ℕ → ℕ
      quad2 = quad_in m (roots_in m ts)

      pick : D ≢ 0 → Dec (s1 ≡ 0) → if_zero s1 lost (pair_in m n ts (log_in ts s1) D) ≡ attempted m 2 n s1 s3 s5 (pair_by m quad2 s1 D)
      pick nD (yes z) =
          zero_is s1 lost (pair_in m n ts (log_in ts s1) D) z
          ∙ attempted_lost m 2 n s1 s3 s5 [] (omega arith)
          (λ b q. nD (ap₂ (λ (u v : ℕ). bit_xor (cubed m u) v) z (sym (q.sum3 (omega arith))) ∙ xor_zero_r (cubed m 0) ∙ mul_zero_r m prim (mul m 0 0)))
          ∙ ap (attempted m 2 n s1 s3 s5) (pair_zero m quad2 s1 D z)
      pick nD (no k) = zero_not s1 lost (pair_in m n ts (log_in ts s1) D) k ∙ pair_located m ts f n s1 s3 s5 fits h1 h3 k nD

      more : rr ≢ 0 → if_zero s1 lost (pair_in m n ts (log_in ts s1) (rr / 1024 % 1024)) ≡ located_in m 2 n ts s1 s3 s5
      more k =
          let nD : D ≢ 0 = λ z. k (parts ∙ ap (λ (x : ℕ). packed 0 x 0) z) in
          by_list m 2 ts f n s s1 s3 s5 fits h1 h3 h5 is (pair_by m quad2 s1 D)
          (ap (λ (x : ℕ). if_zero s1 lost (pair_in m n ts (log_in ts s1) x)) part ∙ pick nD (ℕ_discrete s1 0))
          (all_two m quad2 (first_in m (roots_in m ts)) (second_in m (roots_in m ts)) s1 s3 s5 2 D refl refl nD)

  locate_three : CodeTables m 3 ts → s ≡ lower_part 3 (packed s1 s3 s5) → locate_in m 3 n ts s ≡ located_in m 3 n ts s1 s3 s5
  unfolding more_in
  locate_three f is = by_rest m 3 ts f n s s1 s3 s5 fits h1 h3 h5 is (λ k. more k (ℕ_discrete D 0) (ℕ_discrete E 0))
    where
      D : ℕ
      D = d2 m s1 s3

      E : ℕ
      E = e5 m s1 s5

      rr : ℕ
      rr = bit_xor s (powers_in m ts (log_in ts (s % 1024)))

      prim : Primitive m
      prim = primitive_code m 3 ts f

      small : D < 1024
      small = d_small m 3 ts f n s s1 s3 s5 fits h1 h3 h5 is

      parts : rr ≡ packed 0 D E
      parts = rest m 3 ts f n s s1 s3 s5 fits h1 h3 h5 is ∙ lower_three 0 D E (omega arith) small

      part3 : rr / 1024 % 1024 ≡ D
      part3 = omega (arith, parts, small)

      part5 : rr / 1048576 ≡ E
      part5 = omega (arith, parts, small)

      quad3 : ℕ → ℕ
      quad3 = quad_in m (roots_in m ts)

      first3 : ℕ → ℕ
      first3 = first_in m (roots_in m ts)

      second3 : ℕ → ℕ
      second3 = second_in m (roots_in m ts)

      branch : ℕ → ℕ → Option (List ℕ)
      branch x y = if_zero x lost (if_zero y (cubes_in m n ts s1 x) (kappa_in m n ts s1 x y))

      more : rr ≢ 0 → Dec (D ≡ 0) → Dec (E ≡ 0) → branch (rr / 1024 % 1024) (rr / 1048576) ≡ located_in m 3 n ts s1 s3 s5
      more k (yes zD) (yes zE) = absurd (k (parts ∙ ap₂ (packed 0) zD zE))
      more k (yes zD) (no nE) =
          by_list m 3 ts f n s s1 s3 s5 fits h1 h3 h5 is (single s1)
          (ap₂ branch part3 part5 ∙ zero_is D lost (if_zero E (cubes_in m n ts s1 D) (kappa_in m n ts s1 D E)) zD
          ∙ attempted_lost m 3 n s1 s3 s5 (single s1) short (λ b q. single_flat m prim 3 s1 s3 s5 h1 (omega arith) nE q))
          (flat_list m 3 ts f n s s1 s3 s5 fits h1 h3 h5 is (λ _. zD))
        where
          short : length (single s1) ≤ 3
          short = go (ℕ_discrete s1 0)
            where
              go : Dec (s1 ≡ 0) → length (single s1) ≤ 3
              go (yes z) = omega (arith, ap length (single_zero m prim 3 s1 s3 s5 h1 z))
              go (no z) = omega (arith, ap length (single_some m prim 3 s1 s3 s5 h1 z))
      more k (no nD) (yes zE) =
          by_list m 3 ts f n s s1 s3 s5 fits h1 h3 h5 is (by_cubes m s1 D)
          (ap₂ branch part3 part5 ∙ zero_not D lost (if_zero E (cubes_in m n ts s1 D) (kappa_in m n ts s1 D E)) nD
          ∙ zero_is E (cubes_in m n ts s1 D) (kappa_in m n ts s1 D E) zE
          ∙ cubes_located m ts f n (s1, h1) (s3, h3) (s5, h5) (λ z. nD (λ i. (z i).0)) (same m zE))
          (all_cubes m quad3 first3 second3 s1 s3 s5 3 D E refl refl nD refl zE)
      more k (no nD) (no nE) =
          by_list m 3 ts f n s s1 s3 s5 fits h1 h3 h5 is (by_kappa m first3 second3 s1 D E)
          (ap₂ branch part3 part5 ∙ zero_not D lost (if_zero E (cubes_in m n ts s1 D) (kappa_in m n ts s1 D E)) nD
          ∙ zero_not E (cubes_in m n ts s1 D) (kappa_in m n ts s1 D E) nE
          ∙ kappa_located m ts f n (s1, h1) (s3, h3) (s5, h5) (λ z. nD (λ i. (z i).0)) (λ z. nE (λ i. (z i).0)))
          (all_kappa m quad3 first3 second3 s1 s3 s5 3 D E refl refl nD refl nE)

-- the positions by logarithms are those of the closed form
pub locate_is : (m t : ℕ) (ts : List ℕ) → CodeTables m t ts → (n s s1 s3 s5 : ℕ) → n ≤ 2 ^ m - 1 → s1 < 2 ^ m → s3 < 2 ^ m → s5 < 2 ^ m
    → s ≡ lower_part t (packed s1 s3 s5) → locate_in m t n ts s ≡ located_in m t n ts s1 s3 s5
locate_is m zero ts f n s s1 s3 s5 fits h1 h3 h5 is = absurd (omega (arith, f.t_least))
locate_is m (suc zero) ts f n s s1 s3 s5 fits h1 h3 h5 is = locate_one m ts n s s1 s3 s5 fits h1 h3 h5 f is
locate_is m (suc (suc zero)) ts f n s s1 s3 s5 fits h1 h3 h5 is = locate_two m ts n s s1 s3 s5 fits h1 h3 h5 f is
locate_is m (suc (suc (suc zero))) ts f n s s1 s3 s5 fits h1 h3 h5 is = locate_three m ts n s s1 s3 s5 fits h1 h3 h5 f is
locate_is m (suc (suc (suc (suc t)))) ts f n s s1 s3 s5 fits h1 h3 h5 is = absurd (omega (arith, f.t_most))
