-- Below i the powers hold what is added, from i on what they held; e is d i less a period for each turn. Assumes nothing.
use Prim.Native.Nat.{◌+◌, ◌-◌, ◌*◌, ◌^◌, ◌≤◌}
use mathlib.Core.Path.{◌≡◌}
use Rattle.bch.proofs.tables.TableFills.{FieldPart, stage, mixed}
use Rattle.receiver.proofs.tables.add_powers.Given as goal

abbrev pub invariant-loop-e : goal.invariant-loop-e
invariant-loop-e l = (l.e + l.counter * l.c.period ≡ l.d * l.i)
    × (l.i ≤ l.c.period)
    × FieldPart l.c.m (mixed (stage l.c.m l.t) (stage l.c.m (l.t + 1)) l.i) (2 ^ l.c.m - 1) l.numbers

abbrev pub decreases-loop-e : goal.decreases-loop-e
decreases-loop-e l = l.c.period - l.e

abbrev pub invariant-loop : goal.invariant-loop
invariant-loop l = (l.e + l.counter * l.c.period ≡ l.d * l.i)
    × (l.i ≤ l.c.period)
    × FieldPart l.c.m (mixed (stage l.c.m l.t) (stage l.c.m (l.t + 1)) l.i) (2 ^ l.c.m - 1) l.numbers
