-- The syndromes are linear, are evaluated by Horner's rule, and of a joined word are had from those of its parts; and a
-- word passes the test of a codeword exactly where its first t odd syndromes are 0. Assumes nothing.
use Prim.Native.Nat.{ℕ, zero, suc, ◌+◌, ◌*◌, ◌^◌, ◌≤◌, ◌<◌}
use native.Mathlib.Nat.{zero-mul, one-mul, mul-zero, mul-suc, mul-one, add_comm}
use native.Mathlib.Omega.{arith}
use mathlib.Core.Path.{◌≡◌, refl, sym, ap, ap₂, ◌∙◌, subst}
use mathlib.Core.Bool.{Bool, ◌&&◌, ◌||◌}
use mathlib.Core.List.{List, [], ◌∷◌, ◌++◌}
use lib.Bits.{bit_xor, xor_lt}
use lib.Dec.{T, eqb, ltb, eqb→eq, ltb→lt, nltb→le}
use lib.ListN.{length}
use lib.Pow.{pow_pos}
use Rattle.galois.specs.Field.{alpha, times}
use Rattle.galois.proofs.Tests.{and_left, and_right, and_intro, or_right, or_intro, eq→eqb}
use Rattle.galois.proofs.Primitive.{Primitive}
use Rattle.galois.proofs.Xor.{bit_cases, xor_assoc, xor_swap, xor_bits_mul}
use Rattle.galois.proofs.FieldLaws.{times_add, times_bit, times_zero, times_alpha, times_lt, times_xor, alpha_lt}
use Rattle.bch.specs.Words.{Below, Bits}
use Rattle.bch.specs.Code.{Code, power_sum_from, syndrome, is_codeword}
use Rattle.bch.proofs.codes.Entries.{below_append}

-- ---- linearity

-- the bitwise sum, without carry, of two words
unfoldable pub word_sum : List ℕ → List ℕ → List ℕ
word_sum [] ys = []
word_sum (x ∷ xs) [] = []
word_sum (x ∷ xs) (y ∷ ys) = bit_xor x y ∷ word_sum xs ys

-- a sum of words has the sum of their power sums, ..
pub power_sum_sum : (m i at : ℕ) (xs ys : List ℕ) → Bits xs → Bits ys → length xs ≡ length ys
    → power_sum_from m i at (word_sum xs ys) ≡ bit_xor (power_sum_from m i at xs) (power_sum_from m i at ys)
unfolding power_sum_from Below word_sum
power_sum_sum m i at [] [] hx hy e = refl
power_sum_sum m i at [] (y ∷ ys) hx hy e = absurd (omega arith)
power_sum_sum m i at (x ∷ xs) [] hx hy e = absurd (omega arith)
power_sum_sum m i at (x ∷ xs) (y ∷ ys) hx hy e =
    ap₂ bit_xor (xor_bits_mul x y (alpha m (i * at)) hx.0 hy.0) (power_sum_sum m i (suc at) xs ys hx.1 hy.1 (omega arith))
    ∙ xor_swap (x * alpha m (i * at)) (y * alpha m (i * at)) (power_sum_from m i (suc at) xs) (power_sum_from m i (suc at) ys)

-- .. and of their syndromes
pub syndrome_sum : (m i : ℕ) (xs ys : List ℕ) → Bits xs → Bits ys → length xs ≡ length ys
    → syndrome m i (word_sum xs ys) ≡ bit_xor (syndrome m i xs) (syndrome m i ys)
unfolding syndrome
syndrome_sum m i xs ys hx hy e = power_sum_sum m i 0 xs ys hx hy e

-- ---- Horner's rule

module _ (m : ℕ) (prim : Primitive m) where
  bit_alpha_lt : (b e : ℕ) → b < 2 → b * alpha m e < 2 ^ m
  bit_alpha_lt b e h =
      bit_cases (λ (b : ℕ). b * alpha m e < 2 ^ m) (subst (λ (x : ℕ). x < 2 ^ m) (sym (zero-mul (alpha m e))) (pow_pos m))
      (subst (λ (x : ℕ). x < 2 ^ m) (sym (one-mul (alpha m e))) (alpha_lt m prim e)) b h

  -- a power sum is an element, ..
  pub power_sum_lt : (i at : ℕ) (bs : List ℕ) → Bits bs → power_sum_from m i at bs < 2 ^ m
  unfolding power_sum_from Below
  power_sum_lt i at [] h = pow_pos m
  power_sum_lt i at (b ∷ bs) h =
      xor_lt m (b * alpha m (i * at)) (power_sum_from m i (suc at) bs) (bit_alpha_lt b (i * at) h.0) (power_sum_lt i (suc at) bs h.1)

  -- .. and so is a syndrome
  pub syndrome_lt : (i : ℕ) (bs : List ℕ) → Bits bs → syndrome m i bs < 2 ^ m
  unfolding syndrome
  syndrome_lt i bs h = power_sum_lt i 0 bs h

  next_power : (i at : ℕ) → alpha m (i * suc at) ≡ times m i (alpha m (i * at))
  next_power i at = ap (alpha m) (mul-suc i at ∙ add_comm (i * at) i) ∙ sym (times_alpha m i (i * at))

  -- to stand one position higher is to be multiplied by α^i
  pub power_sum_shift : (i at : ℕ) (bs : List ℕ) → Bits bs → power_sum_from m i (suc at) bs ≡ times m i (power_sum_from m i at bs)
  unfolding power_sum_from Below
  power_sum_shift i at [] h = sym (times_zero m i)
  power_sum_shift i at (b ∷ bs) h =
      ap₂ bit_xor (ap (λ (x : ℕ). b * x) (next_power i at) ∙ sym (times_bit m i b (alpha m (i * at)) h.0)) (power_sum_shift i (suc at) bs h.1)
      ∙ sym (times_xor m prim i (b * alpha m (i * at)) (power_sum_from m i (suc at) bs) (bit_alpha_lt b (i * at) h.0)
      (power_sum_lt i (suc at) bs h.1))

  -- the syndrome of a word from that of the word without its first bit
  pub syndrome_cons : (i b : ℕ) (bs : List ℕ) → Bits (b ∷ bs) → syndrome m i (b ∷ bs) ≡ bit_xor b (times m i (syndrome m i bs))
  unfolding syndrome Below
  syndrome_cons i b bs h =
      ap₂ bit_xor (ap (λ (x : ℕ). b * alpha m x) (mul-zero i) ∙ mul-one b) (power_sum_shift i 0 bs h.1)

  -- the syndrome of a joined word
  pub syndrome_append : (i : ℕ) (xs ys : List ℕ) → Bits xs → Bits ys
      → syndrome m i (xs ++ ys) ≡ bit_xor (syndrome m i xs) (times m (i * length xs) (syndrome m i ys))
  unfolding Below syndrome times
  syndrome_append i [] ys hx hy = ap (λ (x : ℕ). times m x (syndrome m i ys)) (sym (mul-zero i))
  syndrome_append i (x ∷ xs) ys hx hy =
      syndrome_cons i x (xs ++ ys) (hx.0, below_append 2 xs ys hx.1 hy)
      ∙ ap (λ (z : ℕ). bit_xor x (times m i z)) (syndrome_append i xs ys hx.1 hy)
      ∙ ap (bit_xor x) (times_xor m prim i (syndrome m i xs) (times m (i * length xs) (syndrome m i ys))
      (syndrome_lt i xs hx.1) (times_lt m prim (i * length xs) (syndrome m i ys) (syndrome_lt i ys hy)))
      ∙ sym (xor_assoc x (times m i (syndrome m i xs)) (times m i (times m (i * length xs) (syndrome m i ys))))
      ∙ ap₂ bit_xor (sym (syndrome_cons i x xs hx))
      (sym (times_add m i (i * length xs) (syndrome m i ys))
      ∙ ap (λ (z : ℕ). times m z (syndrome m i ys)) (add_comm i (i * length xs) ∙ sym (mul-suc i (length xs))))

-- ---- the test of a codeword, as equations

module _ (c : Code) (bs : List ℕ) where
  zero_test : ℕ → Bool
  zero_test i = eqb (syndrome c.m i bs) 0

  guarded : ℕ → ℕ → Bool
  guarded k i = ltb c.t k || zero_test i

  -- the first t odd syndromes of a word that passes are 0, ..
  pub passes→ : c.t ≤ 3 → T (is_codeword c bs) → (j : ℕ) → j < c.t → syndrome c.m (2 * j + 1) bs ≡ 0
  unfolding is_codeword zero_test guarded
  passes→ u h zero l =
      eqb→eq (syndrome c.m 1 bs) 0 (and_left (zero_test 1) (guarded 2 3) (and_left (zero_test 1 && guarded 2 3) (guarded 3 5) h))
  passes→ u h (suc zero) l =
      eqb→eq (syndrome c.m 3 bs) 0
      (or_right (ltb c.t 2) (zero_test 3) (and_right (zero_test 1) (guarded 2 3) (and_left (zero_test 1 && guarded 2 3) (guarded 3 5) h))
      (λ s. omega (arith, ltb→lt c.t 2 s)))
  passes→ u h (suc (suc zero)) l =
      eqb→eq (syndrome c.m 5 bs) 0
      (or_right (ltb c.t 3) (zero_test 5) (and_right (zero_test 1 && guarded 2 3) (guarded 3 5) h) (λ s. omega (arith, ltb→lt c.t 3 s)))
  passes→ u h (suc (suc (suc j))) l = absurd (omega arith)

  -- .. and where they are, it passes
  pub →passes : 1 ≤ c.t → ((j : ℕ) → j < c.t → syndrome c.m (2 * j + 1) bs ≡ 0) → T (is_codeword c bs)
  unfolding is_codeword zero_test guarded
  →passes u f =
      and_intro (zero_test 1 && guarded 2 3) (guarded 3 5)
      (and_intro (zero_test 1) (guarded 2 3) (eq→eqb (syndrome c.m 1 bs) 0 (f 0 (omega arith)))
      (or_intro (ltb c.t 2) (zero_test 3) (λ s. eq→eqb (syndrome c.m 3 bs) 0 (f 1 (nltb→le c.t 2 s)))))
      (or_intro (ltb c.t 3) (zero_test 5) (λ s. eq→eqb (syndrome c.m 5 bs) 0 (f 2 (nltb→le c.t 3 s))))
