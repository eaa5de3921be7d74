-- The margin keeps its value in 32 signed bits when 2^15 is added, and is then no less than 0. Assumes nothing.
use Rattle.receiver_c.proofs.Raised.{raised_reads}
use Rattle.receiver_c.proofs.packed.raised.Goals as goal

pub returns : goal.returns
returns c = raised_reads c.args.x c.requires c.ranges.x
