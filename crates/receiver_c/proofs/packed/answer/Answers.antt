-- The sum of the fields. Assumes nothing.
use Prim.Native.Nat.{◌≤◌}
use native.Mathlib.Omega.{arith}
use borrow.Author.Rules.{rules}
use denote.Enum.Declared.{tag_of}
use mir.Syntax.{w32}
use mir.Val.{SFits}
use Rattle.receiver.specs.declared.Mark.{Mark}
use Rattle.receiver.specs.declared.Mark.TheVariants.{Lost, Fair, Sure}
use Rattle.receiver.specs.contracts.Mark.{the_type}
use Rattle.receiver_c.proofs.Raised.{margin_lt, same_margin}
use Rattle.receiver_c.proofs.packed.answer.Goals as goal

-- a mark's byte is small
mark_most : (k : Mark) → tag_of the_type k ≤ 2
mark_most Lost = omega arith
mark_most Fair = omega arith
mark_most Sure = omega arith

pub overflow_mul-result-2 : goal.overflow_mul-result-2
overflow_mul-result-2 c =
    let fits : SFits w32 c.args.f.margin = search rules in
    omega (arith, c.raised.ensures, same_margin c.args.f.margin fits, margin_lt c.args.f.margin c.requires.margin_bound)

pub overflow_add-result-2 : goal.overflow_add-result-2
overflow_add-result-2 c =
    let fits : SFits w32 c.args.f.margin = search rules in
    omega (
      arith,
      mark_most c.args.mark,
      c.raised.ensures,
      same_margin c.args.f.margin fits,
      margin_lt c.args.f.margin c.requires.margin_bound,
    )
