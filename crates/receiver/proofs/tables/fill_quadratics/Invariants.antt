-- The entries of the elements below 2 h are written. Assumes nothing.
use Prim.Native.Nat.{◌*◌}
use Rattle.bch.proofs.tables.CodeTables.{PairRoots, roots_in}
use Rattle.bch.proofs.tables.TableLoops.{FieldFilled}
use Rattle.receiver.proofs.tables.fill_quadratics.Given as goal

abbrev pub invariant-loop-h : goal.invariant-loop-h
invariant-loop-h l = FieldFilled l.c.m l.c.t l.numbers × PairRoots l.c.m (2 * l.h) (roots_in l.c.m l.numbers)
