-- The symbols passed are not of the level. Assumes nothing.
use native.Mathlib.Omega.{arith}
use Rattle.ranking.proofs.Cursors.{sixteen_none, sixteen_found, seek_end}
use Rattle.ranking.proofs.seek.Goals as goal

pub returns-then-bits-ne0 : goal.returns-then-bits-ne0
returns-then-bits-ne0 c =
    let a = c.args in
    let l = c.loop-i in
    sixteen_found a.z a.from l.i a.s.now l.invariant c.sixteen-bits.result c.sixteen-bits.ensures.0 (omega arith) (omega (arith, c.if-bits-ne0.true))

pub loop-i-preserved : goal.loop-i-preserved
loop-i-preserved c =
    let a = c.args in
    let l = c.loop-i in
    sixteen_none a.z a.from l.i a.s.now l.invariant c.sixteen-bits.result c.sixteen-bits.ensures.0 (omega (arith, c.if-bits-ne0.false))

pub returns : goal.returns
returns c =
    let a = c.args in
    let l = c.loop-i in
    seek_end a.z a.from l.i a.s.now l.invariant (omega arith)
