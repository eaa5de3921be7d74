-- The low bits and the rest, by the law of folded exponents. Assumes nothing.
use native.Mathlib.Omega.{arith}
use Rattle.bch.proofs.tables.CodeTables.{folded_by, folded_lt}
use Rattle.receiver.proofs.tables.Field.fold.Goals as goal

pub returns : goal.returns
returns c =
    let a = c.args in
    let f = a.self.now in
    let e = folded_by f.code.m a.x f.code.period f.fielded.made.is_period in
    (e, omega (arith, e, folded_lt f.code.m a.x c.requires))
