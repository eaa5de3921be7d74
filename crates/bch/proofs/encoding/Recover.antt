-- A word of at most r bits is known by its syndromes, where a linear map gives back the bit of each position from that
-- position's powers of α. Assumes nothing.
use Prim.Native.Nat.{ℕ, suc, ◌+◌, ◌*◌, ◌/◌, ◌%◌, ◌^◌, ◌≤◌, ◌<◌}
use native.Mathlib.Nat.{zero-mul, one-mul, pow-succ', mul-one, add-zero}
use native.Mathlib.Omega.{arith}
use mathlib.Core.Path.{◌≡◌, refl, sym, ap, ap₂, ◌∙◌}
use mathlib.Core.Bool.{Bool}
use mathlib.Core.List.{List, [], ◌∷◌}
use lib.Bits.{bit_xor, xor_mod, xor_comm, xor_block, xor_shifted}
use lib.Dec.{T, eqb, eqb→eq}
use lib.ListN.{length}
use lib.Pow.{pow_pos}
use Rattle.galois.specs.Field.{alpha}
use Rattle.galois.proofs.Tests.{below, below→}
use Rattle.galois.proofs.Xor.{bit_cases, odd_lt, xor_half, xor_swap, xor_bits_mul}
use Rattle.bch.specs.Words.{Below, Bits}
use Rattle.bch.specs.Code.{power_sum_from, syndrome}
use Rattle.bch.proofs.encoding.Numbers.{number, number_inj}

-- ---- linear maps

-- the sum of the numbers of a list that stand at the set bits of s
unfoldable pub apply : List ℕ → ℕ → ℕ
apply [] s = 0
apply (c ∷ cs) s = bit_xor (s % 2 * c) (apply cs (s / 2))

-- the sum over several such lists, the j-th applied to f j
unfoldable pub recover : List (List ℕ) → ℕ → (ℕ → ℕ) → ℕ
unfolding apply
recover [] j f = 0
recover (c ∷ cs) j f = bit_xor (apply c (f j)) (recover cs (suc j) f)

apply_xor : (cs : List ℕ) (a b : ℕ) → apply cs (bit_xor a b) ≡ bit_xor (apply cs a) (apply cs b)
unfolding apply
apply_xor [] a b = refl
apply_xor (c ∷ cs) a b =
    ap₂ bit_xor (ap (λ (x : ℕ). x * c) (xor_mod a b 1) ∙ xor_bits_mul (a % 2) (b % 2) c (odd_lt a) (odd_lt b))
    (ap (apply cs) (xor_half a b) ∙ apply_xor cs (a / 2) (b / 2))
    ∙ xor_swap (a % 2 * c) (b % 2 * c) (apply cs (a / 2)) (apply cs (b / 2))

apply_zero : (cs : List ℕ) → apply cs 0 ≡ 0
unfolding apply
apply_zero [] = refl
apply_zero (c ∷ cs) = ap₂ bit_xor (zero-mul c) (apply_zero cs)

recover_xor : (cs : List (List ℕ)) (j : ℕ) (f h : ℕ → ℕ)
    → recover cs j (λ k. bit_xor (f k) (h k)) ≡ bit_xor (recover cs j f) (recover cs j h)
unfolding recover
recover_xor [] j f h = refl
recover_xor (c ∷ cs) j f h =
    ap₂ bit_xor (apply_xor c (f j) (h j)) (recover_xor cs (suc j) f h)
    ∙ xor_swap (apply c (f j)) (apply c (h j)) (recover cs (suc j) f) (recover cs (suc j) h)

recover_zero : (cs : List (List ℕ)) (j : ℕ) → recover cs j (λ k. 0) ≡ 0
unfolding recover
recover_zero [] j = refl
recover_zero (c ∷ cs) j = ap₂ bit_xor (apply_zero c) (recover_zero cs (suc j))

-- only the first of the values count
recover_cong : (cs : List (List ℕ)) (j : ℕ) (f h : ℕ → ℕ) → ((k : ℕ) → k < j + length cs → f k ≡ h k)
    → recover cs j f ≡ recover cs j h
unfolding recover
recover_cong [] j f h e = refl
recover_cong (c ∷ cs) j f h e =
    ap₂ bit_xor (ap (apply c) (e j (omega arith))) (recover_cong cs (suc j) f h (λ k l. e k (omega arith)))

recover_bit : (cs : List (List ℕ)) (j b : ℕ) (f : ℕ → ℕ) → b < 2 → recover cs j (λ k. b * f k) ≡ b * recover cs j f
recover_bit cs j b f h =
    bit_cases (λ (b : ℕ). recover cs j (λ k. b * f k) ≡ b * recover cs j f)
    (recover_cong cs j (λ k. 0 * f k) (λ k. 0) (λ k l. zero-mul (f k)) ∙ recover_zero cs j ∙ sym (zero-mul (recover cs j f)))
    (recover_cong cs j (λ k. 1 * f k) f (λ k l. one-mul (f k)) ∙ sym (one-mul (recover cs j f))) b h

-- ---- the test

-- every position's powers give back its bit
unfoldable pub recovers : ℕ → ℕ → List (List ℕ) → Bool
unfolding recover below
recovers m r cs = below r (λ at. eqb (recover cs 0 (λ j. alpha m ((2 * j + 1) * at))) (2 ^ at))

-- ---- what it shows

join_bit : (b n at : ℕ) → b < 2 → bit_xor (b * 2 ^ at) (n * 2 ^ suc at) ≡ (b + 2 * n) * 2 ^ at
join_bit b n at h =
    let e₁ : b * 2 ^ at ≡ b * 2 ^ at + 0 = omega arith in
    let e₂ : n * (2 * 2 ^ at) ≡ 2 * n * 2 ^ at + 0 = omega arith in
    let e₃ : 2 * n ≡ n * 2 = omega arith in
    let e₄ : n * 2 + b ≡ b + 2 * n = omega arith in
    let e₅ : bit_xor b (2 * n) ≡ b + 2 * n = xor_comm b (2 * n) ∙ ap (λ (x : ℕ). bit_xor x b) e₃ ∙ xor_shifted n 1 b h ∙ e₄ in
    ap₂ bit_xor e₁ (ap (λ (x : ℕ). n * x) (pow-succ' 2 at) ∙ e₂)
    ∙ xor_block at b (2 * n) 0 0 (pow_pos at) (pow_pos at)
    ∙ add-zero (bit_xor b (2 * n) * 2 ^ at)
    ∙ ap (λ (x : ℕ). x * 2 ^ at) e₅

module _ (m r : ℕ) (cs : List (List ℕ)) (test : T (recovers m r cs)) where
  position : (at : ℕ) → at < r → recover cs 0 (λ j. alpha m ((2 * j + 1) * at)) ≡ 2 ^ at
  unfolding recovers
  position at h =
      eqb→eq (recover cs 0 (λ j. alpha m ((2 * j + 1) * at))) (2 ^ at)
      (below→ r (λ at. eqb (recover cs 0 (λ j. alpha m ((2 * j + 1) * at))) (2 ^ at)) test at h)

  recover_from : (at : ℕ) (bs : List ℕ) → Bits bs → at + length bs ≤ r
      → recover cs 0 (λ j. power_sum_from m (2 * j + 1) at bs) ≡ number bs * 2 ^ at
  unfolding power_sum_from Below number
  recover_from at [] h l = recover_zero cs 0 ∙ sym (zero-mul (2 ^ at))
  recover_from at (b ∷ bs) h l =
      recover_xor cs 0 (λ j. b * alpha m ((2 * j + 1) * at)) (λ j. power_sum_from m (2 * j + 1) (suc at) bs)
      ∙ ap₂ bit_xor (recover_bit cs 0 b (λ j. alpha m ((2 * j + 1) * at)) h.0 ∙ ap (λ (x : ℕ). b * x) (position at (omega arith)))
      (recover_from (suc at) bs h.1 (omega arith))
      ∙ join_bit b (number bs) at h.0

  -- words of one length, at most r, with the same syndromes are equal
  pub determined : (xs ys : List ℕ) → Bits xs → Bits ys → length xs ≡ length ys → length xs ≤ r
      → ((j : ℕ) → j < length cs → syndrome m (2 * j + 1) xs ≡ syndrome m (2 * j + 1) ys) → xs ≡ ys
  unfolding syndrome
  determined xs ys hx hy l s e =
      number_inj xs ys hx hy l
      (sym (mul-one (number xs)) ∙ sym (recover_from 0 xs hx (omega arith))
      ∙ recover_cong cs 0 (λ j. syndrome m (2 * j + 1) xs) (λ j. syndrome m (2 * j + 1) ys) (λ k h. e k (omega arith))
      ∙ recover_from 0 ys hy (omega arith) ∙ mul-one (number ys))
