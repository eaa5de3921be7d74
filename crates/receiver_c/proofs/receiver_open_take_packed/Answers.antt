-- What opening a take answers, packed. Assumes nothing.
use mathlib.Core.Path.{ap, ◌∙◌}
use Rattle.refusal.specs.Checked.{answer_of}
use Rattle.receiver_c.specs.Packed.{open_packed}
use Rattle.receiver_c.proofs.receiver_open_take_packed.Goals as goal

pub returns-in-Ok : goal.returns-in-Ok
unfolding answer_of open_packed
returns-in-Ok c = c.header.ensures ∙ ap open_packed c.in-Ok.ensures

pub returns-in-Err : goal.returns-in-Err
unfolding answer_of open_packed
returns-in-Err c = c.refusal.ensures ∙ ap open_packed c.in-Err.ensures
