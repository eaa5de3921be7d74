-- Whole sixteens and the last sixteen leave out no symbol. Assumes nothing.
use Prim.Native.Nat.{◌-◌, ◌%◌}
use native.Mathlib.Omega.{arith}
use lib.ListN.{length}
use Rattle.ranking.proofs.Steps.{next_parts}
use Rattle.ranking.proofs.next_above.Goals as goal

pub returns : goal.returns
returns c =
    let a = c.args in
    let ss = a.s.now in
    let y = c.least_above-2 in
    let x = c.least_above-3 in
    next_parts a.z y.result x.result c.min.result (length ss - length ss % 16) (length ss - 16) (length ss - (length ss - 16)) ss
    y.ensures x.ensures c.min.ensures (omega arith) (omega arith) (omega (arith, c.if-n-lt16.false))
