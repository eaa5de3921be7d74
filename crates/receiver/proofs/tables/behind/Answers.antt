-- The two cases of the difference below the period. Assumes nothing.
use native.Mathlib.Omega.{arith}
use Rattle.bch.proofs.tables.RootFills.{behind_small, behind_large}
use Rattle.receiver.proofs.tables.behind.Goals as goal

pub returns-then-d-e : goal.returns-then-d-e
returns-then-d-e c = let a = c.args in let e = behind_small a.period a.e a.d (omega arith) in (e, omega arith)

pub returns-else-d-e : goal.returns-else-d-e
returns-else-d-e c = let a = c.args in let e = behind_large a.period a.e a.d (omega arith) in (e, omega arith)
