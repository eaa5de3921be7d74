-- The whole symbol of the level, once or 0 times. Assumes nothing.
use native.Mathlib.Omega.{arith}
use native.Mathlib.Nat.{mul-le-mul}
use Prim.Native.Nat.{◌+◌, ◌*◌, ◌≤◌}
use Rattle.quantiser.proofs.Symbols.{symbol_is}
use Rattle.quantiser.proofs.samples.symbol.Goals as goal

pub overflow_mul-result : goal.overflow_mul-result
overflow_mul-result c =
    let whole = c.hard_bit.result + c.count.result in
    let small : whole ≤ 31 = omega (arith, c.hard_bit.ensures.upper_bound, c.count.ensures.upper_bound) in
    let most : c.heard.result * whole ≤ 1 * 31 = mul-le-mul c.heard.ensures.upper_bound small in
    omega (arith, most)

pub returns : goal.returns
returns c =
    let a = c.args in
    symbol_is a.edges.now _ _ _ _ _ _ c.level_of-level.ensures c.hard_bit.ensures.value
    c.magnitude.ensures
    c.count.ensures.value c.heard.ensures.value
