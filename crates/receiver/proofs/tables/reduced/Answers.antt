-- Above the period, one period less. Assumes nothing.
use native.Mathlib.Omega.{arith}
use Rattle.bch.proofs.tables.CodeTables.{reduced_small, reduced_large}
use Rattle.receiver.proofs.tables.reduced.Goals as goal

pub returns-then-e-period : goal.returns-then-e-period
returns-then-e-period c = let a = c.args in (reduced_small a.period a.e (omega arith), λ h. omega arith)

pub returns-else-e-period : goal.returns-else-e-period
returns-else-e-period c = let a = c.args in (reduced_large a.period a.e (omega arith), λ h. omega arith)
