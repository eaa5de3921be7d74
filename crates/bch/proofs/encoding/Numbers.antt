-- Words of bits as numbers and back: bit i of the number stands at position i; and the syndromes of a number's word.
-- Assumes nothing.
use Prim.Native.Nat.{ℕ, zero, suc, ◌+◌, ◌*◌, ◌/◌, ◌%◌, ◌^◌, ◌<◌}
use native.Mathlib.Nat.{zero-mul, mul-zero, mul-suc, add_comm, pow-succ', mul_left_comm, div-one, div-div-eq-div-mul}
use native.Mathlib.Omega.{arith}
use mathlib.Core.Path.{◌≡◌, refl, sym, ap, ap₂, ◌∙◌}
use mathlib.Core.List.{List, [], ◌∷◌}
use lib.Arith.{lt-one}
use lib.Bits.{bit_xor, xor_zero_r, xor_mod, xor_self}
use lib.ListN.{length, get_or}
use Rattle.galois.specs.Field.{alpha, times}
use Rattle.galois.proofs.Primitive.{Primitive}
use Rattle.galois.proofs.Xor.{odd_lt, xor_half}
use Rattle.galois.proofs.FieldLaws.{times_add, times_zero}
use Rattle.bch.specs.Words.{Below, Bits}
use Rattle.bch.specs.Code.{power_sum_from, syndrome}
use Rattle.bch.proofs.codes.SyndromeLaws.{word_sum, syndrome_sum, syndrome_cons}

-- ---- a word and its number

-- the number of a word
unfoldable pub number : List ℕ → ℕ
number [] = 0
number (b ∷ bs) = b + 2 * number bs

-- the k lowest bits of a number
unfoldable pub word : ℕ → ℕ → List ℕ
word zero a = []
word (suc k) a = a % 2 ∷ word k (a / 2)

-- it has k bits
pub length_word : (k a : ℕ) → length (word k a) ≡ k
unfolding word
length_word zero a = refl
length_word (suc k) a = ap suc (length_word k (a / 2))

-- they are bits
pub Bits-word : (k a : ℕ) → Bits (word k a)
unfolding word Below
Bits-word zero a = tt
Bits-word (suc k) a = (odd_lt a, Bits-word k (a / 2))

-- a word is known by its length and its number
pub number_inj : (xs ys : List ℕ) → Bits xs → Bits ys → length xs ≡ length ys → number xs ≡ number ys → xs ≡ ys
unfolding number Below
number_inj [] [] hx hy l e = refl
number_inj [] (y ∷ ys) hx hy l e = absurd (omega arith)
number_inj (x ∷ xs) [] hx hy l e = absurd (omega arith)
number_inj (x ∷ xs) (y ∷ ys) hx hy l e =
    let h : x < 2 = hx.0 in
    let k : y < 2 = hy.0 in
    let heads : x ≡ y = omega arith in
    ap₂ (λ (a : ℕ) (l : List ℕ). a ∷ l) heads (number_inj xs ys hx.1 hy.1 (omega arith) (omega arith))

-- a number below 2^k is that of its k lowest bits
pub number_word : (k a : ℕ) → a < 2 ^ k → number (word k a) ≡ a
unfolding number word
number_word zero a h = sym (lt-one h)
number_word (suc k) a h =
    let low : a / 2 < 2 ^ k = omega arith in
    let rest : number (word k (a / 2)) ≡ a / 2 = number_word k (a / 2) low in
    omega arith

-- bit i of a number
pub word_at : (k a i : ℕ) → i < k → get_or (word k a) i 0 ≡ a / 2 ^ i % 2
unfolding word
word_at zero a i h = absurd (omega arith)
word_at (suc k) a zero h = ap (λ (x : ℕ). x % 2) (sym (div-one a))
word_at (suc k) a (suc i) h = word_at k (a / 2) i (omega arith)
    ∙ ap (λ (x : ℕ). x % 2) (div-div-eq-div-mul a 2 (2 ^ i) ∙ ap (λ (x : ℕ). a / x) (sym (pow-succ' 2 i)))

-- the word of a sum, ..
pub word_xor : (k a b : ℕ) → word k (bit_xor a b) ≡ word_sum (word k a) (word k b)
unfolding word word_sum
word_xor zero a b = refl
word_xor (suc k) a b =
    ap₂ (λ (x : ℕ) (xs : List ℕ). x ∷ xs) (xor_mod a b 1)
    (ap (word k) (xor_half a b) ∙ word_xor k (a / 2) (b / 2))

-- .. and of a double
pub word_twice : (k a : ℕ) → word (suc k) (2 * a) ≡ 0 ∷ word k a
unfolding word
word_twice k a =
    let even : 2 * a % 2 ≡ 0 = omega arith in
    let half : 2 * a / 2 ≡ a = omega arith in
    ap₂ (λ (x y : ℕ). x ∷ word k y) even half

-- ---- the syndromes of a number's word

-- of a sum
pub value_xor : (m i k a b : ℕ) → syndrome m i (word k (bit_xor a b)) ≡ bit_xor (syndrome m i (word k a)) (syndrome m i (word k b))
value_xor m i k a b =
    ap (syndrome m i) (word_xor k a b)
    ∙ syndrome_sum m i (word k a) (word k b) (Bits-word k a) (Bits-word k b) (length_word k a ∙ sym (length_word k b))

-- the syndromes of 0
pub value_zero : (m i k : ℕ) → syndrome m i (word k 0) ≡ 0
value_zero m i k = value_xor m i k 0 0 ∙ xor_self (syndrome m i (word k 0))

high_from : (m i at k a : ℕ) → a < 2 ^ k → power_sum_from m i at (word (suc k) a) ≡ power_sum_from m i at (word k a)
unfolding power_sum_from word
high_from m i at zero a h =
    ap (λ (x : ℕ). bit_xor (x % 2 * alpha m (i * at)) 0) (lt-one h) ∙ ap (λ (x : ℕ). bit_xor x 0) (zero-mul (alpha m (i * at)))
high_from m i at (suc k) a h = ap (bit_xor (a % 2 * alpha m (i * at))) (high_from m i (suc at) k (a / 2) (omega arith))

module _ (m : ℕ) (prim : Primitive m) where
  -- to double the number is to multiply by α^i
  pub value_twice : (i k a : ℕ) → syndrome m i (word (suc k) (2 * a)) ≡ times m i (syndrome m i (word k a))
  unfolding Below
  value_twice i k a = ap (syndrome m i) (word_twice k a) ∙ syndrome_cons m prim i 0 (word k a) (lit, Bits-word k a)
    where
      lit : 0 < 2
      lit = omega arith

  -- a number below 2^k has no bit at position k
  pub value_high : (i k a : ℕ) → a < 2 ^ k → syndrome m i (word (suc k) a) ≡ syndrome m i (word k a)
  unfolding syndrome
  value_high i k a h = high_from m i 0 k a h

  -- the syndrome of a bit at position k
  pub value_power : (i k b : ℕ) → b < 2 → syndrome m i (word (suc k) (b * 2 ^ k)) ≡ times m (i * k) b
  unfolding times word Below syndrome
  value_power i zero b h =
      let same : b * 1 % 2 ≡ b = omega arith in
      syndrome_cons m prim i (b * 1 % 2) [] (odd_lt (b * 1), tt)
      ∙ ap₂ bit_xor same (times_zero m i) ∙ xor_zero_r b
      ∙ ap (λ (x : ℕ). times m x b) (sym (mul-zero i))
  value_power i (suc k) b h =
      ap (λ (x : ℕ). syndrome m i (word (suc (suc k)) x)) (ap (λ (x : ℕ). b * x) (pow-succ' 2 k) ∙ mul_left_comm b 2 (2 ^ k))
      ∙ value_twice i (suc k) (b * 2 ^ k)
      ∙ ap (times m i) (value_power i k b h)
      ∙ sym (times_add m i (i * k) b)
      ∙ ap (λ (x : ℕ). times m x b) (add_comm i (i * k) ∙ sym (mul-suc i k))
