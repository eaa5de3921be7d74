-- Each refusal, and the code where there is none, is that of the definition. Assumes nothing.
use Prim.Native.Nat.{◌*◌, ◌≤◌}
use native.Mathlib.Omega.{arith}
use native.Mathlib.Nat.{mul-le-mul}
use borrow.Author.Rules.{rules}
use borrow.Author.Tests.{tests}
use Rattle.take_format.specs.Refusal.{unless, first_of, settings as Refusal·settings}
use Rattle.take_format.specs.Calls.{answered}
use Rattle.refusal.specs.Checked.{answer_of}
use Rattle.refusal.proofs.over.Goals as goal
use Rattle.refusal.proofs.over.Goals.{then-t-lt1-via-then-t-lt1, then-t-lt1-via-else-t-lt1+then-t-gt3, then-n-r-via-then-n-r, then-n-r-via-else-n-r+then-size-n}

pub returns-then-t-lt1 : goal.returns-then-t-lt1
unfolding answer_of answered Refusal·settings first_of unless
returns-then-t-lt1 c = search (rules, tests)

pub overflow_mul-r : goal.overflow_mul-r
overflow_mul-r c = let a = c.args in
    let h : a.m * a.t ≤ 8 * 3 = mul-le-mul {n₂ = 8} {m₂ = 3} (omega arith) (omega arith) in
    omega arith

pub returns-then-n-r : goal.returns-then-n-r
unfolding answer_of answered Refusal·settings first_of unless
returns-then-n-r c = search (rules, tests)

pub returns : goal.returns
unfolding answer_of answered Refusal·settings first_of unless
returns c = search (rules, tests)
