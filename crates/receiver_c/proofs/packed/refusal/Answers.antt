-- The sum of the fields. Assumes nothing.
use native.Mathlib.Omega.{arith}
use Rattle.receiver_c.specs.Packed.{refusal_packed}
use Rattle.receiver_c.proofs.packed.refusal.Goals as goal

pub returns : goal.returns
unfolding refusal_packed
returns c = omega arith
