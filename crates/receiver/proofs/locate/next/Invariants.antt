-- Nothing is located for the words passed. Assumes nothing.
use Prim.Native.Nat.{◌+◌}
use mathlib.Core.Path.{◌≡◌}
use Rattle.bch.proofs.logarithms.Seeking.{Missed}
use Rattle.receiver.specs.Located.{located_at}
use Rattle.receiver.specs.Held.{code_in, numbers_in}
use Rattle.receiver.proofs.locate.next.Given as goal

abbrev pub invariant-loop-test : goal.invariant-loop-test
invariant-loop-test l = (l.tries ≡ l.made + l.test-index) × Missed (located_at (code_in l.tables) (numbers_in l.tables) l.tests) l.made l.tries
