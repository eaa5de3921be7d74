-- What the ladder's check answers, packed. Assumes nothing.
use mathlib.Core.Path.{ap, ◌∙◌}
use Rattle.refusal.specs.Checked.{answer_of}
use Rattle.receiver_c.specs.Packed.{check_packed}
use Rattle.receiver_c.proofs.Sizes.{ladder_refused, ladder_passed}
use Rattle.receiver_c.proofs.receiver_check_ladder_packed.Goals as goal

pub returns-in-Ok : goal.returns-in-Ok
unfolding answer_of check_packed
returns-in-Ok c = ap check_packed (ladder_passed c.args.edges.now _ c.in-Ok.ensures).0

pub returns-in-Err : goal.returns-in-Err
unfolding answer_of check_packed
returns-in-Err c = c.refusal.ensures ∙ ap check_packed (ladder_refused c.args.edges.now _ c.in-Err.ensures)
