-- The refusal, or 0. Assumes nothing.
use mathlib.Core.Path.{refl}
use Rattle.refusal.specs.Checked.{checked}
use Rattle.receiver_c.specs.Packed.{check_packed}
use Rattle.receiver_c.proofs.packed.check.Goals as goal

pub returns-in-Ok : goal.returns-in-Ok
unfolding checked check_packed
returns-in-Ok c = rw c.in-Ok.is refl

pub returns-in-Err : goal.returns-in-Err
unfolding checked check_packed
returns-in-Err c = rw c.in-Err.is c.refusal.ensures
