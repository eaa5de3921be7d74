-- The sum of the fields. Assumes nothing.
use native.Mathlib.Omega.{arith}
use Rattle.receiver_c.specs.Packed.{header_packed}
use Rattle.receiver_c.proofs.packed.header.Goals as goal

pub returns : goal.returns
unfolding header_packed
returns c = omega arith
