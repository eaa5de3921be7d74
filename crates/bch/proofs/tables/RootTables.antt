-- The polynomial w² + w, whose values the table for t = 2 is sorted by. Assumes nothing.
use Prim.Native.Nat.{ℕ, ◌^◌, ◌<◌}
use lib.Bits.{bit_xor, xor_lt}
use Rattle.galois.proofs.Primitive.{Primitive}
use Rattle.galois.proofs.FieldLaws.{mul_lt}
use Rattle.bch.specs.Locator.{square}

abbrev pub quadratic : ℕ → ℕ → ℕ
quadratic m w = bit_xor (square m w) w

-- it is an element
pub quadratic_lt : (m : ℕ) → Primitive m → (w : ℕ) → w < 2 ^ m → quadratic m w < 2 ^ m
quadratic_lt m g w h = xor_lt m (square m w) w (mul_lt m g w w h) h
