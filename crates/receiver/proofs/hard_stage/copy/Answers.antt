-- The bits so far are copied. Assumes nothing.
use native.Mathlib.Omega.{arith}
use lib.Seq.{ext_get_or}
use Rattle.receiver.proofs.hard_stage.copy.Goals as goal

pub returns : goal.returns
returns c = ext_get_or 0 c.loop-i.out c.args.bits.now (omega arith) (λ k h. c.loop-i.invariant k (omega arith))
