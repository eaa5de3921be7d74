-- The symbols are written one after the other. Assumes nothing.
use mathlib.Core.Path.{◌≡◌}
use lib.Seq.{paste}
use Rattle.take_format.specs.Samples.{quantised}
use Rattle.quantiser.proofs.samples.write.Given as goal

abbrev pub invariant-loop-i : goal.invariant-loop-i
invariant-loop-i l = l.symbols ≡ paste l.initial.symbols 0 (quantised l.edges l.kinds l.levels) l.i
