-- The message so far is copied. Assumes nothing.
use native.Mathlib.Omega.{arith}
use lib.Seq.{ext_get_or}
use Rattle.encoder.proofs.division.write_message.Goals as goal

pub returns : goal.returns
returns c = ext_get_or 0 c.loop-i.out c.args.message.now (omega arith) (λ k h. c.loop-i.invariant k (omega arith))
