-- Below i the logarithms and the powers are written, and x is the power of i. Assumes nothing.
use Prim.Native.Nat.{◌^◌, ◌<◌}
use mathlib.Core.Path.{◌≡◌}
use Rattle.galois.specs.Field.{alpha}
use Rattle.bch.proofs.tables.TableFills.{LogPart}
use Rattle.receiver.proofs.tables.fill_logs.Given as goal

abbrev pub invariant-loop-i : goal.invariant-loop-i
invariant-loop-i l = (l.x ≡ alpha l.c.m l.i) × (l.x < 2 ^ l.c.m) × LogPart l.c.m l.i l.numbers
