-- What is read from a code's tables is small enough: elements, exponents, and the parts of packed syndromes. Assumes nothing.
use Prim.Native.Nat.{ℕ, zero, suc, ◌+◌, ◌-◌, ◌/◌, ◌%◌, ◌^◌, ◌≤◌, ◌<◌}
use native.Mathlib.Nat.{pos_of_ne-zero}
use native.Mathlib.Omega.{arith}
use mathlib.Core.Path.{◌≡◌, refl, sym, ap, ◌∙◌, subst}
use mathlib.Core.List.{List}
use lib.Bits.{bit_xor, xor_lt}
use lib.Pow.{pow_pos}
use Rattle.galois.specs.Field.{alpha, log, mul}
use Rattle.galois.specs.Packed.{packed}
use Rattle.galois.proofs.Packed.{element_lt, packed_second}
use Rattle.galois.proofs.Primitive.{Primitive}
use Rattle.galois.proofs.FieldLaws.{alpha_lt, alpha_nonzero, log_lt, mul_lt}
use Rattle.bch.specs.Locator.{d2}
use Rattle.bch.proofs.decoding.KappaDecoder.{e5}
use Rattle.bch.proofs.tables.Placing.{lower_part}
use Rattle.bch.proofs.tables.CodeTables.{CodeTables, log_in, powers_in, roots_in, primitive_code, power_at, roots_at, lower_one, lower_two, rest_is}

-- the first t syndromes in one number, each an element
pub record Syndromes (m t s : ℕ) : Type 0 where
  pub first : s % 1024 < 2 ^ m
  pub third : s / 1024 % 1024 < 2 ^ m
  pub fifth : s / 1048576 < 2 ^ m
  pub lower : lower_part t s ≡ s

-- the parts of the first t of three elements are elements
lower_parts : (m t : ℕ) → m ≤ 10 → 1 ≤ t → t ≤ 3 → (a b c : ℕ) → a < 2 ^ m → b < 2 ^ m → c < 2 ^ m
    → let s = lower_part t (packed a b c) in (s % 1024 < 2 ^ m) × (s / 1024 % 1024 < 2 ^ m) × (s / 1048576 < 2 ^ m) × (lower_part t s ≡ s)
unfolding lower_part
lower_parts m zero most l u a b c ha hb hc = absurd (omega arith)
lower_parts m (suc zero) most l u a b c ha hb hc =
    let la = element_lt m a most ha in
    let lb = element_lt m b most hb in
    let e = lower_one a b c la lb in
    let k = pow_pos m in
    (omega arith, omega arith, omega arith, omega arith)
lower_parts m (suc (suc zero)) most l u a b c ha hb hc =
    let la = element_lt m a most ha in
    let lb = element_lt m b most hb in
    let e = lower_two a b c la lb in
    let k = pow_pos m in
    (omega arith, omega arith, omega arith, omega arith)
lower_parts m (suc (suc (suc zero))) most l u a b c ha hb hc =
    let la = element_lt m a most ha in
    let lb = element_lt m b most hb in
    (omega arith, omega arith, omega arith, refl)
lower_parts m (suc (suc (suc (suc t)))) most l u a b c ha hb hc = absurd (omega arith)

pub syndromes_of_lem : (m t : ℕ) → m ≤ 10 → 1 ≤ t → t ≤ 3 → (a b c s : ℕ) → a < 2 ^ m → b < 2 ^ m → c < 2 ^ m → s ≡ lower_part t (packed a b c) → Syndromes m t s
syndromes_of_lem m t most l u a b c s ha hb hc e =
    let (p, q, r, z) = lower_parts m t most l u a b c ha hb hc in
    subst (Syndromes m t) (sym e) (record { first = p; third = q; fifth = r; lower = z })

-- they are their parts
pub syndromes_are : (m t s : ℕ) → Syndromes m t s → s ≡ lower_part t (packed (s % 1024) (s / 1024 % 1024) (s / 1048576))
syndromes_are m t s h =
    let e : packed (s % 1024) (s / 1024 % 1024) (s / 1048576) ≡ s = omega arith in
    sym h.lower ∙ ap (lower_part t) (sym e)

module _ (m t : ℕ) (ts : List ℕ) (f : CodeTables m t ts) where
  abbrev g : Primitive m
  g = primitive_code m t ts f

  -- a power is an element
  pub power_lt : (e : ℕ) → e < 2 ^ m + 7 → powers_in m ts e % 1024 < 2 ^ m
  power_lt e h = rw (power_at m t ts f e h) (alpha_lt m g e)

  -- the logarithms of two roots are below the period
  pub roots_lt : t ≡ 3 → (e r : ℕ) → e < 2 ^ m + 7 → r ≡ roots_in m ts e → 1024 ≤ r → (r % 1024 < 2 ^ m - 1) × (r / 1024 < 2 ^ m - 1)
  roots_lt z e r h q l =
      let i = log m (alpha m e) in
      let hi : i < 2 ^ m - 1 = log_lt m g (alpha m e) (pos_of_ne-zero (alpha_nonzero m g e)) (alpha_lt m g e) in
      let k : r ≡ roots_in m ts i = q ∙ sym (roots_at m t ts f e h) in
      let l' : 1024 ≤ roots_in m ts i = subst (λ (x : ℕ). 1024 ≤ x) k l in
      let n : roots_in m ts i ≡ 0 → ⊥ = λ o. omega arith in
      subst (λ (x : ℕ). (x % 1024 < 2 ^ m - 1) × (x / 1024 < 2 ^ m - 1)) (sym k)
      (((f.trios z).one i hi n).0.below, ((f.trios z).two i hi l').0.below)

  module _ (s l r : ℕ) (hl : l ≡ log_in ts (s % 1024)) (hr : r ≡ bit_xor s (powers_in m ts l)) (h : Syndromes m t s) where
    abbrev a : ℕ
    a = s % 1024

    abbrev b : ℕ
    b = s / 1024 % 1024

    abbrev c : ℕ
    c = s / 1048576

    rest_by : r ≡ lower_part t (packed 0 (d2 m a b) (e5 m a c))
    rest_by =
        hr ∙ ap (λ (x : ℕ). bit_xor s (powers_in m ts x)) hl
        ∙ rest_is m t ts f s a b c h.first h.third h.fifth (syndromes_are m t s h)

    d_lt : d2 m a b < 2 ^ m
    d_lt = xor_lt m (mul m (mul m a a) a) b (mul_lt m g (mul m a a) a h.first) h.third

    -- the rest's parts are elements
    pub rest_lt : (r / 1024 % 1024 < 2 ^ m) × (r / 1048576 < 2 ^ m)
    rest_lt =
        let he : e5 m a c < 2 ^ m =
        xor_lt m (mul m (mul m (mul m (mul m a a) a) a) a) c (mul_lt m g (mul m (mul m (mul m a a) a) a) a h.first) h.fifth in
        let (p, q, u, z) = lower_parts m t f.most f.t_least f.t_most 0 (d2 m a b) (e5 m a c) (pow_pos m) d_lt he in
        rw rest_by (q, u)

    -- for t = 2 the rest is D2 alone
    pub rest_two : t ≡ 2 → (r ≡ 0 → ⊥) → r / 1024 % 1024 ≡ 0 → ⊥
    rest_two e n z =
        let l2 = element_lt m (d2 m a b) f.most d_lt in
        let q : r ≡ packed 0 (d2 m a b) 0 = rest_by ∙ ap (λ (x : ℕ). lower_part x (packed 0 (d2 m a b) (e5 m a c))) e
        ∙ lower_two 0 (d2 m a b) (e5 m a c) (omega arith) l2 in
        let k : d2 m a b ≡ 0 = sym (packed_second 0 (d2 m a b) 0 (omega arith) l2) ∙ ap (λ (x : ℕ). x / 1024 % 1024) (sym q) ∙ z in
        n (q ∙ ap (λ (x : ℕ). packed 0 x 0) k)
