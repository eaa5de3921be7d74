-- What is kept has room.
use Rattle.std.proofs.Common.{◌≤◌, length}
use Rattle.runner.proofs.lines.run_all.Given as goal

abbrev pub invariant-loop : goal.invariant-loop
invariant-loop g l = l.kept ≤ length l.buffer
