-- What flipping rests on: the bit at a position, and the positions one after the other. Assumes nothing.
use Prim.Native.Nat.{ℕ, ◌≤◌}
use native.Mathlib.Omega.{arith}
use mathlib.Core.List.{List}
use lib.ListN.{get_or}
use Rattle.std.proofs.lemmas.List.{at_drop_more}
use Rattle.bch.specs.Words.{Bits}
use Rattle.bch.proofs.codes.Behind.{bits_from, flip_before, flip_behind}
use Rattle.bch.proofs.codes.Entries.{below_at, below_in}

pub bit_most : (xs : List ℕ) (i : ℕ) → Bits xs → get_or xs i 0 ≤ 1
bit_most xs i h = omega (arith, below_at 1 xs i h)

pub ruleset flipping = (flip_before, flip_behind, bit_most, below_in, bits_from, at_drop_more)
