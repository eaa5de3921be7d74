-- Peterson's error locator without inversion (document 01, "Hard stage"; source document 000): what is computed from the
-- syndromes s1, s3 and s5 of a word. Assumes nothing.
-- (The hard stage is defined by its answer, in `Hard`. That the locator leads to it is a law: `LocatorLaws`.)
use Rattle.std.specs.Prelude.{ℕ, zero, suc}
use Rattle.std.specs.Int.Bits.{bit_xor}
use Rattle.galois.specs.Field.{mul}

-- the square and the cube of an element
abbrev pub square : ℕ → ℕ → ℕ
square m a = mul m a a

abbrev pub cubed : ℕ → ℕ → ℕ
cubed m a = mul m (mul m a a) a

-- D2 = S1^3 + S3
abbrev pub d2 : ℕ → ℕ → ℕ → ℕ
d2 m s1 s3 = bit_xor (cubed m s1) s3

-- δ2 = S1^2·S3 + S5
abbrev pub delta2 : ℕ → ℕ → ℕ → ℕ → ℕ
delta2 m s1 s3 s5 = bit_xor (mul m (square m s1) s3) s5

-- D3 = D2^2 + S1·δ2
abbrev pub d3 : ℕ → ℕ → ℕ → ℕ → ℕ
d3 m s1 s3 s5 = bit_xor (square m (d2 m s1 s3)) (mul m s1 (delta2 m s1 s3 s5))

-- the locator at x. For t = 1: 1 + S1·x; for t = 2: S1 + S1^2·x + D2·x^2; for t = 3: D2 + S1·D2·x + δ2·x^2 + D3·x^3
unfoldable pub locator : ℕ → ℕ → ℕ → ℕ → ℕ → ℕ → ℕ
locator m zero s1 s3 s5 x = 1
locator m (suc zero) s1 s3 s5 x = bit_xor 1 (mul m s1 x)
locator m (suc (suc zero)) s1 s3 s5 x = bit_xor (bit_xor s1 (mul m (square m s1) x)) (mul m (d2 m s1 s3) (square m x))
locator m (suc (suc (suc t))) s1 s3 s5 x =
    bit_xor (bit_xor (bit_xor (d2 m s1 s3) (mul m (mul m s1 (d2 m s1 s3)) x)) (mul m (delta2 m s1 s3 s5) (square m x))) (mul m (d3 m s1 s3 s5) (cubed m x))
