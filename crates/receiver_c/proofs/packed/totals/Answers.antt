-- The sum of the fields. Assumes nothing.
use native.Mathlib.Omega.{arith}
use Rattle.receiver_c.specs.Packed.{totals_packed}
use Rattle.receiver_c.proofs.packed.totals.Goals as goal

pub returns : goal.returns
unfolding totals_packed
returns c = omega arith
