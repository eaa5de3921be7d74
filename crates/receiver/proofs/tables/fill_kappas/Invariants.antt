-- Roots l below the loop's are written; e is 3 l less a period for each turn, so that it is the place's exponent. Assumes nothing.
use Prim.Native.Nat.{◌+◌, ◌-◌, ◌*◌, ◌≤◌}
use mathlib.Core.Path.{◌≡◌}
use Rattle.bch.proofs.tables.CodeTables.{TrioRoots, roots_in}
use Rattle.bch.proofs.tables.TableLoops.{FieldFilled}
use Rattle.receiver.proofs.tables.fill_kappas.Given as goal

abbrev pub invariant-loop-e : goal.invariant-loop-e
invariant-loop-e l = (1 ≤ l.l)
    × (l.e + l.counter * l.c.period ≡ 3 * l.l)
    × (l.l ≤ l.c.period)
    × FieldFilled l.c.m l.c.t l.numbers
    × TrioRoots l.c.m l.l (roots_in l.c.m l.numbers)

abbrev pub decreases-loop-e : goal.decreases-loop-e
decreases-loop-e l = l.c.period - l.e

abbrev pub invariant-loop : goal.invariant-loop
invariant-loop l = (1 ≤ l.l)
    × (l.e + l.counter * l.c.period ≡ 3 * l.l)
    × (l.l ≤ l.c.period)
    × FieldFilled l.c.m l.c.t l.numbers
    × TrioRoots l.c.m l.l (roots_in l.c.m l.numbers)
