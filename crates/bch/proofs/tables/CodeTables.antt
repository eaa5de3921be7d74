-- The tables of a code in one list of 3·2^m + 16 numbers: by element the logarithm; from 2^m on by exponent the powers that a
-- position adds to the syndromes; from 2·2^m + 8 on by exponent the logarithms of two roots. What they hold, and what is read
-- there. Assumes nothing.
use Prim.Native.Nat.{ℕ, zero, suc, ◌+◌, ◌-◌, ◌*◌, ◌/◌, ◌%◌, ◌^◌, ◌≤◌, ◌<◌}
use native.Mathlib.Nat.{mod-lt, div-lt_iff_lt-mul, one-mul}
use native.Mathlib.Omega.{arith}
use native.Mathlib.Decide.{ℕ_discrete}
use mathlib.Core.Path.{◌≡◌, refl, sym, ap, ap₂, ◌∙◌}
use mathlib.Core.Logic.{◌≢◌, ◌⊎◌, inl, inr}
use mathlib.Core.Bool.{cond}
use mathlib.Core.List.{List}
use borrow.Author.Tests.{lt-ltb, le-ltb}
use lib.Bits.{bit_xor, bit_and, and_mask, xor_comm, xor_self, xor_lt}
use lib.Dec.{ltb}
use lib.Pow.{pow_pos}
use lib.ListN.{length, get_or}
use Rattle.galois.specs.Field.{alpha, log, mul}
use Rattle.galois.specs.Packed.{packed}
use Rattle.galois.proofs.Tests.{lt_or_le}
use Rattle.galois.proofs.Packed.{element_lt, xor_packed}
use Rattle.galois.proofs.Primitive.{Primitive, primitive_5_10}
use Rattle.galois.proofs.FieldLaws.{alpha_lt, alpha_log, log_lt, log_alpha, mul_lt, mul_zero_r}
use Rattle.galois.proofs.FieldTables.{powers_of}
use Rattle.galois.proofs.Logs.{alpha_period, alpha_fold}
use Rattle.bch.specs.Locator.{cubed, d2}
use Rattle.bch.proofs.decoding.KappaDecoder.{kappa_at, fifthed, e5, cubed_log, fifthed_log}
use Rattle.bch.proofs.tables.RootTables.{quadratic}
use Rattle.bch.proofs.tables.Placing.{lower_part}

-- ---- where the tables stand

-- the logarithm of x
abbrev pub log_in : List ℕ → ℕ → ℕ
log_in ts x = get_or ts x 0

-- the powers of exponent e
abbrev pub powers_in : ℕ → List ℕ → ℕ → ℕ
powers_in m ts e = get_or ts (2 ^ m + e) 0

-- the roots of exponent e
abbrev pub roots_in : ℕ → List ℕ → ℕ → ℕ
roots_in m ts e = get_or ts (2 * 2 ^ m + 8 + e) 0

-- ---- what the roots are

-- r % 1024 and r / 1024 are the logarithms of w and w + 1, where w² + w = α^e
pub record PairRoot (m e r : ℕ) : Type 0 where
  pub first_lt : r % 1024 < 2 ^ m - 1
  pub second_lt : r / 1024 < 2 ^ m - 1
  pub next : alpha m (r / 1024) ≡ bit_xor (alpha m (r % 1024)) 1
  pub solves : quadratic m (alpha m (r % 1024)) ≡ alpha m e

-- t = 2: each entry but 0 is right, and those of the elements below j are not 0
pub record PairRoots (m j : ℕ) (R : ℕ → ℕ) : Type 0 where
  pub right : (e : ℕ) → e < 2 ^ m - 1 → R e ≢ 0 → PairRoot m e (R e)
  pub there : (w : ℕ) → 2 ≤ w → w < j → R (log m (quadratic m w)) ≢ 0

-- l is the logarithm of a w where w³ = α^e (w + 1)
pub record TrioRoot (m e l : ℕ) : Type 0 where
  pub least : 1 ≤ l
  pub below : l < 2 ^ m - 1
  pub solves : kappa_at m (alpha m l) ≡ alpha m e

-- the exponent of the κ of α^l
abbrev pub kappa_log : ℕ → ℕ → ℕ
kappa_log m l = log m (kappa_at m (alpha m l))

-- t = 3, once the exponents below j are written: what an entry has is right, and it has those exponents, or two others
pub record TrioRoots (m j : ℕ) (R : ℕ → ℕ) : Type 0 where
  pub one : (e : ℕ) → e < 2 ^ m - 1 → R e ≢ 0 → TrioRoot m e (R e % 1024) × (R e % 1024 < j)
  pub two : (e : ℕ) → e < 2 ^ m - 1 → 1024 ≤ R e → TrioRoot m e (R e / 1024) × (R e / 1024 ≢ R e % 1024)
  pub there : (l : ℕ) → 1 ≤ l → l < j → R (kappa_log m l) ≢ 0
  pub other : (l : ℕ) → 1 ≤ l → l < j → l ≢ R (kappa_log m l) % 1024 → 1024 ≤ R (kappa_log m l)

-- ---- what the list holds

pub record CodeTables (m t : ℕ) (ts : List ℕ) : Type 0 where
  pub least : 5 ≤ m
  pub most : m ≤ 10
  pub size_least : 32 ≤ 2 ^ m
  pub size_most : 2 ^ m ≤ 1024
  pub t_least : 1 ≤ t
  pub t_most : t ≤ 3
  pub long : 3 * 2 ^ m + 16 ≤ length ts
  pub logs : (x : ℕ) → x ≢ 0 → x < 2 ^ m → log_in ts x ≡ log m x
  pub log_none : log_in ts 0 ≡ 2 ^ m + 7
  pub powers : (i : ℕ) → i < 2 ^ m + 7 → powers_in m ts i ≡ lower_part t (powers_of m i)
  pub power_none : powers_in m ts (2 ^ m + 7) ≡ 0
  pub again : (i : ℕ) → i < 8 → roots_in m ts (2 ^ m - 1 + i) ≡ roots_in m ts i
  pub pairs : t ≡ 2 → PairRoots m (2 ^ m) (roots_in m ts)
  pub trios : t ≡ 3 → TrioRoots m (2 ^ m - 1) (roots_in m ts)

-- ---- a folded exponent

unfoldable pub folded : ℕ → ℕ → ℕ
folded m x = x % 2 ^ m + x / 2 ^ m

-- as it is computed
pub folded_by : (m x p : ℕ) → p ≡ 2 ^ m - 1 → bit_and x p + x / 2 ^ m ≡ folded m x
unfolding folded
folded_by m x p e = ap (λ (y : ℕ). bit_and x y + x / 2 ^ m) e ∙ ap (λ (y : ℕ). y + x / 2 ^ m) (and_mask x m)

-- of less than eight periods it is at most the period and seven, ..
pub folded_lt : (m x : ℕ) → x < 8 * (2 ^ m - 1) → folded m x < 2 ^ m + 7
unfolding folded
folded_lt m x h =
    let a : x % 2 ^ m < 2 ^ m = mod-lt x (pow_pos m) in
    let b : x / 2 ^ m < 8 = (div-lt_iff_lt-mul (pow_pos m)).1 (omega arith) in
    omega arith

-- .. and the same power
pub folded_power : (m : ℕ) → Primitive m → (x : ℕ) → alpha m (folded m x) ≡ alpha m x
unfolding folded
folded_power m g x = alpha_fold m g x

-- an exponent below two periods, below one
unfoldable pub reduced : ℕ → ℕ → ℕ
reduced p e = cond (ltb e p) e (e - p)

pub reduced_small : (p e : ℕ) → e < p → e ≡ reduced p e
unfolding reduced
reduced_small p e h = rw (lt-ltb e p h) refl

pub reduced_large : (p e : ℕ) → p ≤ e → e - p ≡ reduced p e
unfolding reduced
reduced_large p e h = rw (le-ltb e p h) refl

-- it is the logarithm of its power
pub log_reduced : (m : ℕ) → Primitive m → (e : ℕ) → e < 2 * (2 ^ m - 1) → log m (alpha m e) ≡ reduced (2 ^ m - 1) e
log_reduced m g e h = go (lt_or_le e (2 ^ m - 1))
  where
    go : (e < 2 ^ m - 1) ⊎ (2 ^ m - 1 ≤ e) → log m (alpha m e) ≡ reduced (2 ^ m - 1) e
    go (inl l) = log_alpha m g e l ∙ reduced_small (2 ^ m - 1) e l
    go (inr l) =
        let q : e ≡ e - (2 ^ m - 1) + (2 ^ m - 1) = omega arith in
        let k : e - (2 ^ m - 1) < 2 ^ m - 1 = omega arith in
        ap (λ (x : ℕ). log m (alpha m x)) q ∙ ap (log m) (alpha_period m g (e - (2 ^ m - 1))) ∙ log_alpha m g (e - (2 ^ m - 1)) k
        ∙ reduced_large (2 ^ m - 1) e l

-- ---- the parts of a packed number, the first t of them

module _ (a b c : ℕ) (ha : a < 1024) (hb : b < 1024) where
  -- t = 1, 2 and 3
  pub lower_one : lower_part 1 (packed a b c) ≡ packed a 0 0
  unfolding lower_part
  lower_one = omega arith

  pub lower_two : lower_part 2 (packed a b c) ≡ packed a b 0
  unfolding lower_part
  lower_two = omega arith

  pub lower_three : lower_part 3 (packed a b c) ≡ packed a b c
  unfolding lower_part
  lower_three = refl

  -- the first part
  pub lower_first : (t : ℕ) → 1 ≤ t → t ≤ 3 → lower_part t (packed a b c) % 1024 ≡ a
  lower_first zero l u = absurd (omega arith)
  lower_first (suc zero) l u = omega (arith, lower_one)
  lower_first (suc (suc zero)) l u = omega (arith, lower_two)
  lower_first (suc (suc (suc zero))) l u = omega (arith, lower_three)
  lower_first (suc (suc (suc (suc t)))) l u = absurd (omega arith)

-- sums, part by part
pub lower_xor : (t : ℕ) → 1 ≤ t → t ≤ 3 → (a b c x y z : ℕ) → a < 1024 → b < 1024 → x < 1024 → y < 1024
    → bit_xor (lower_part t (packed a b c)) (lower_part t (packed x y z)) ≡ lower_part t (packed (bit_xor a x) (bit_xor b y) (bit_xor c z))
lower_xor zero l u a b c x y z ha hb hx hy = absurd (omega arith)
lower_xor (suc zero) l u a b c x y z ha hb hx hy =
    ap₂ bit_xor (lower_one a b c ha hb) (lower_one x y z hx hy) ∙ xor_packed a 0 0 x 0 0 ha (omega arith) hx (omega arith)
    ∙ sym (lower_one (bit_xor a x) (bit_xor b y) (bit_xor c z) (xor_lt 10 a x ha hx) (xor_lt 10 b y hb hy))
lower_xor (suc (suc zero)) l u a b c x y z ha hb hx hy =
    ap₂ bit_xor (lower_two a b c ha hb) (lower_two x y z hx hy) ∙ xor_packed a b 0 x y 0 ha hb hx hy
    ∙ sym (lower_two (bit_xor a x) (bit_xor b y) (bit_xor c z) (xor_lt 10 a x ha hx) (xor_lt 10 b y hb hy))
lower_xor (suc (suc (suc zero))) l u a b c x y z ha hb hx hy =
    ap₂ bit_xor (lower_three a b c ha hb) (lower_three x y z hx hy) ∙ xor_packed a b c x y z ha hb hx hy
    ∙ sym (lower_three (bit_xor a x) (bit_xor b y) (bit_xor c z) (xor_lt 10 a x ha hx) (xor_lt 10 b y hb hy))
lower_xor (suc (suc (suc (suc t)))) l u a b c x y z ha hb hx hy = absurd (omega arith)

-- ---- reading

module _ (m t : ℕ) (ts : List ℕ) (f : CodeTables m t ts) where
  pub primitive_code : Primitive m
  primitive_code = primitive_5_10 m f.least f.most

  abbrev g : Primitive m
  g = primitive_code

  -- a logarithm but that of 0 is below the period
  pub log_below : (x : ℕ) → x ≢ 0 → x < 2 ^ m → log_in ts x < 2 ^ m - 1
  log_below x n h = rw (f.logs x n h) (log_lt m g x (omega arith) h)

  element : (e : ℕ) → alpha m e < 1024
  element e = element_lt m (alpha m e) f.most (alpha_lt m g e)

  -- the powers of an exponent that is folded
  pub power_at : (e : ℕ) → e < 2 ^ m + 7 → powers_in m ts e % 1024 ≡ alpha m e
  power_at e h =
      rw (f.powers e h)
      (lower_first (alpha m (1 * e)) (alpha m (3 * e)) (alpha m (5 * e)) (element (1 * e)) (element (3 * e)) t f.t_least f.t_most
      ∙ ap (alpha m) (one-mul e))

  -- the roots of an exponent that is folded are those of its power
  pub roots_at : (e : ℕ) → e < 2 ^ m + 7 → roots_in m ts (log m (alpha m e)) ≡ roots_in m ts e
  roots_at e h = go (lt_or_le e (2 ^ m - 1))
    where
      go : (e < 2 ^ m - 1) ⊎ (2 ^ m - 1 ≤ e) → roots_in m ts (log m (alpha m e)) ≡ roots_in m ts e
      go (inl l) = ap (roots_in m ts) (log_alpha m g e l)
      go (inr l) =
          let i = e - (2 ^ m - 1) in
          let q : 2 ^ m - 1 + i ≡ e = omega arith in
          let k : i + (2 ^ m - 1) ≡ e = omega arith in
          let s : i < 2 ^ m - 1 = omega (arith, f.size_least) in
          let u : i < 8 = omega (arith, f.size_least) in
          ap (λ (x : ℕ). roots_in m ts (log m (alpha m x))) (sym k) ∙ ap (λ (x : ℕ). roots_in m ts (log m x)) (alpha_period m g i)
          ∙ ap (roots_in m ts) (log_alpha m g i s) ∙ sym (f.again i u) ∙ ap (roots_in m ts) q

  -- ---- the syndromes without those of one error of the same S1

  abbrev pub rest_in : ℕ → ℕ
  rest_in s = bit_xor s (powers_in m ts (log_in ts (s % 1024)))

  pub rest_is : (s s1 s3 s5 : ℕ) → s1 < 2 ^ m → s3 < 2 ^ m → s5 < 2 ^ m → s ≡ lower_part t (packed s1 s3 s5)
      → rest_in s ≡ lower_part t (packed 0 (d2 m s1 s3) (e5 m s1 s5))
  rest_is s s1 s3 s5 h1 h3 h5 e = go (ℕ_discrete s1 0)
    where
      l1 : s1 < 1024
      l1 = element_lt m s1 f.most h1

      l3 : s3 < 1024
      l3 = element_lt m s3 f.most h3

      first : s % 1024 ≡ s1
      first = ap (λ (x : ℕ). x % 1024) e ∙ lower_first s1 s3 s5 l1 l3 t f.t_least f.t_most

      entry : rest_in s ≡ bit_xor (lower_part t (packed s1 s3 s5)) (powers_in m ts (log_in ts s1))
      entry = ap₂ (λ (x y : ℕ). bit_xor x (powers_in m ts (log_in ts y))) e first

      go : Dec (s1 ≡ 0) → rest_in s ≡ lower_part t (packed 0 (d2 m s1 s3) (e5 m s1 s5))
      go (yes z) =
          let p : powers_in m ts (log_in ts s1) ≡ 0 = ap (λ (x : ℕ). powers_in m ts (log_in ts x)) z ∙ ap (powers_in m ts) f.log_none ∙ f.power_none in
          let c : cubed m s1 ≡ 0 = ap (mul m (mul m s1 s1)) z ∙ mul_zero_r m g (mul m s1 s1) in
          let v : fifthed m s1 ≡ 0 = ap (mul m (mul m (mul m (mul m s1 s1) s1) s1)) z ∙ mul_zero_r m g (mul m (mul m (mul m s1 s1) s1) s1) in
          entry ∙ ap (bit_xor (lower_part t (packed s1 s3 s5))) p ∙ xor_comm (lower_part t (packed s1 s3 s5)) 0
          ∙ ap (λ (x : ℕ). lower_part t (packed x s3 s5)) z
          ∙ ap₂ (λ (x y : ℕ). lower_part t (packed 0 (bit_xor x s3) (bit_xor y s5))) (sym c) (sym v)
      go (no n) =
          let p : powers_in m ts (log_in ts s1) ≡ lower_part t (powers_of m (log m s1)) =
          ap (powers_in m ts) (f.logs s1 n h1) ∙ f.powers (log m s1) (omega (arith, log_lt m g s1 (omega arith) h1)) in
          let a : alpha m (1 * log m s1) ≡ s1 = ap (alpha m) (one-mul (log m s1)) ∙ alpha_log m g s1 (omega arith) h1 in
          let q : powers_of m (log m s1) ≡ packed s1 (cubed m s1) (fifthed m s1) =
          ap (λ (x : ℕ). packed x (alpha m (3 * log m s1)) (alpha m (5 * log m s1))) a
          ∙ ap₂ (packed s1) (sym (cubed_log m g s1 n h1)) (sym (fifthed_log m g s1 n h1)) in
          let c : cubed m s1 < 1024 = element_lt m (cubed m s1) f.most (mul_lt m g (mul m s1 s1) s1 h1) in
          entry ∙ ap (bit_xor (lower_part t (packed s1 s3 s5))) (p ∙ ap (lower_part t) q)
          ∙ lower_xor t f.t_least f.t_most s1 s3 s5 s1 (cubed m s1) (fifthed m s1) l1 l3 l1 c
          ∙ ap (λ (x : ℕ). lower_part t (packed x (bit_xor s3 (cubed m s1)) (bit_xor s5 (fifthed m s1)))) (xor_self s1)
          ∙ ap₂ (λ (x y : ℕ). lower_part t (packed 0 x y)) (xor_comm s3 (cubed m s1)) (xor_comm s5 (fifthed m s1))
