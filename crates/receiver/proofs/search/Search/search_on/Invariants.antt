-- Each weak position doubles the test words, and those that are new are tried. Assumes nothing.
use Prim.Native.Nat.{◌^◌, ◌≤◌}
use mathlib.Core.Path.{◌≡◌}
use mathlib.Core.Bool.{false}
use Rattle.receiver.specs.Search.{is_sure, TriedOf}
use Rattle.receiver.proofs.Turns.{Grown}
use Rattle.receiver.proofs.search.Search.search_on.Given as goal

abbrev pub invariant-loop-b : goal.invariant-loop-b
invariant-loop-b l = Grown l.self l.b l.to l.tests × TriedOf l.self.tables.now l.self.word.now l.o
    × (is_sure l.o.best ≡ false) × (l.o.tries ≤ 2 ^ l.b) × (l.b ≡ l.self.word.now.p → l.o.tries ≡ 2 ^ l.b)
