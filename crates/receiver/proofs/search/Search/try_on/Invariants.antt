-- What is left to try, with the best so far, gives what all tries give. Assumes nothing.
use Prim.Native.Nat.{◌-◌, ◌≤◌}
use mathlib.Core.Path.{◌≡◌}
use mathlib.Core.Bool.{false}
use lib.ListN.{length}
use Rattle.receiver.specs.Search.{is_sure, TriedOf}
use Rattle.receiver.proofs.search.Search.try_on.Given as goal

abbrev pub invariant-loop-o : goal.invariant-loop-o
invariant-loop-o l = TriedOf l.self.tables.now l.self.word.now l.o × (is_sure l.o.best ≡ false) × (l.o.tries ≤ length l.tests)

abbrev pub decreases-loop-o : goal.decreases-loop-o
decreases-loop-o l = length l.tests - l.o.tries
