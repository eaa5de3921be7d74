-- A line begins within the text; with each turn less is left.
use Rattle.std.proofs.Common.{◌-◌, ◌≤◌, length}
use Rattle.runner.proofs.lines.run_lines.Given as goal

abbrev pub invariant-loop-long : goal.invariant-loop-long
invariant-loop-long g l = l.at ≤ length l.text

abbrev pub decreases-loop-long : goal.decreases-loop-long
decreases-loop-long g l = length l.text - l.at
