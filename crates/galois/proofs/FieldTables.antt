-- For tables of a field of 2^m elements, m at most 10: the three powers that a position adds to S1, S3 and S5, a table of zeros,
-- sizes, the next power, and quotients of powers. A table is a list. Assumes nothing.
use Prim.Native.Nat.{ℕ, zero, suc, ◌+◌, ◌-◌, ◌*◌, ◌%◌, ◌^◌, ◌≤◌, ◌<◌}
use native.Mathlib.Nat.{mul-le-mul, pow-succ'}
use native.Mathlib.Numerals.{add-one}
use native.Mathlib.Omega.{arith}
use mathlib.Core.Path.{◌≡◌, refl, sym, ap, ◌∙◌}
use mathlib.Core.Logic.{◌≢◌}
use mathlib.Core.List.{List}
use borrow.Author.Tests.{lt-ltb, le-ltb}
use lib.Bits.{bit_xor}
use lib.ListN.{get_or, replicate}
use lib.Pow.{pow_mono}
use Rattle.galois.specs.Field.{poly, double, alpha, log, mul, over}
use Rattle.galois.specs.Packed.{packed}
use Rattle.galois.proofs.Primitive.{Primitive}
use Rattle.galois.proofs.FieldLaws.{alpha_lt, alpha_nonzero, alpha_once, alpha_log, log_lt, mul_alpha}
use Rattle.galois.proofs.Logs.{alpha_period, alpha_periods}

-- ---- what the tables hold

-- what position i adds to S1, S3 and S5
abbrev pub powers_of : ℕ → ℕ → ℕ
powers_of m i = packed (alpha m (1 * i)) (alpha m (3 * i)) (alpha m (5 * i))

-- an empty table
abbrev pub Zeros : List ℕ → Type 0
Zeros xs = (i : ℕ) → get_or xs i 0 ≡ 0

pub zeros : (n : ℕ) → Zeros (replicate n 0)
zeros zero i = refl
zeros (suc n) zero = refl
zeros (suc n) (suc i) = zeros n i

-- ---- filling

-- the size of a field, between bounds
pub size_least : (m : ℕ) → 5 ≤ m → 32 ≤ 2 ^ m
size_least m h = pow_mono h

pub size_most : (m : ℕ) → m ≤ 10 → 2 ^ m ≤ 1024
size_most m h = pow_mono h

pub even_size : (m : ℕ) → 1 ≤ m → 2 ^ m % 2 ≡ 0
even_size zero h = absurd (omega arith)
even_size (suc m) h = omega (arith, pow-succ' 2 m)

-- α times a, by whether 2a is below 2^m
pub double_small : (m a : ℕ) → 2 * a < 2 ^ m → 2 * a ≡ double m a
unfolding double
double_small m a h = rw (double, lt-ltb (2 * a) (2 ^ m) h) refl

pub double_large : (m a : ℕ) → 2 ^ m ≤ 2 * a → bit_xor (2 * a) (poly m) ≡ double m a
unfolding double
double_large m a h = rw (double, le-ltb (2 * a) (2 ^ m) h) refl

pub alpha_next : (m i : ℕ) → alpha m (i + 1) ≡ double m (alpha m i)
unfolding alpha
alpha_next m i = ap (alpha m) (add-one i)

module _ (m : ℕ) (g : Primitive m) where
  -- no power comes twice below the period
  pub powers_apart : (i : ℕ) → i < 2 ^ m - 1 → (k : ℕ) → k < i → alpha m k ≢ alpha m i
  powers_apart i h k l q = let e = alpha_once m g k i (omega arith) h q in omega arith

  shift : (a b d : ℕ) → alpha m a ≡ alpha m b → alpha m (a + d) ≡ alpha m (b + d)
  shift a b d q = sym (mul_alpha m g a d) ∙ ap (λ (x : ℕ). mul m x (alpha m d)) q ∙ mul_alpha m g b d

  -- equal powers are equal d before
  cancel : (a b d : ℕ) → 0 < 2 ^ m - 1 → alpha m (a + d) ≡ alpha m (b + d) → alpha m a ≡ alpha m b
  cancel a b d h q =
      sym (full a) ∙ shift (a + d) (b + d) (d * (2 ^ m - 1) - d) q ∙ full b
    where
      full : (x : ℕ) → alpha m (x + d + (d * (2 ^ m - 1) - d)) ≡ alpha m x
      full x =
          let more : d * 1 ≤ d * (2 ^ m - 1) = mul-le-mul {n₂ = d} {m₂ = 2 ^ m - 1} (omega arith) h in
          let e : x + d + (d * (2 ^ m - 1) - d) ≡ d * (2 ^ m - 1) + x = omega arith in
          ap (alpha m) e ∙ alpha_periods m g d x

-- ---- quotients

over_log : (m a b : ℕ) → a ≢ 0 → alpha m (log m a + (2 ^ m - 1 - log m b)) ≡ over m a b
unfolding over
over_log m zero b n = absurd (n refl)
over_log m (suc a) b n = refl

-- a quotient of powers is the power at the difference of the exponents, in whatever period
pub over_alpha : (m : ℕ) → Primitive m → (i j x q : ℕ) → x + j ≡ q * (2 ^ m - 1) + i → over m (alpha m i) (alpha m j) ≡ alpha m x
over_alpha m g i j x q e =
    let la = log m (alpha m i) in
    let lb = log m (alpha m j) in
    let pa : 0 < alpha m i = omega (arith, alpha_nonzero m g i) in
    let pb : 0 < alpha m j = omega (arith, alpha_nonzero m g j) in
    let hb = log_lt m g (alpha m j) pb (alpha_lt m g j) in
    let k : la + (2 ^ m - 1 - lb) + lb ≡ la + (2 ^ m - 1) = omega (arith, hb) in
    let old : alpha m (la + (2 ^ m - 1 - lb) + lb) ≡ alpha m i = ap (alpha m) k ∙ alpha_period m g la ∙ alpha_log m g (alpha m i) pa (alpha_lt m g i) in
    let new : alpha m (x + lb) ≡ alpha m i =
    sym (mul_alpha m g x lb) ∙ ap (mul m (alpha m x)) (alpha_log m g (alpha m j) pb (alpha_lt m g j)) ∙ mul_alpha m g x j ∙ ap (alpha m) e
    ∙ alpha_periods m g q i in
    sym (over_log m (alpha m i) (alpha m j) (alpha_nonzero m g i)) ∙ cancel m g (la + (2 ^ m - 1 - lb)) x lb (omega (arith, hb)) (old ∙ sym new)
