-- The ladder's check, and then what the quantiser answers. Assumes nothing.
use mathlib.Core.Path.{◌∙◌}
use Rattle.refusal.specs.Checked.{answer_of}
use Rattle.refusal.proofs.Laws.{check_handed_on}
use Rattle.receiver_c.proofs.Sizes.{ladder_refused, ladder_passed}
use Rattle.receiver_c.proofs.Laddered.{first_ladder, then_samples}
use Rattle.receiver_c.proofs.quantised.Goals as goal

pub returns-in_err-ladder : goal.returns-in_err-ladder
unfolding answer_of
returns-in_err-ladder c =
    let a = c.args in
    let r = c.in_err-ladder.field-0.0 in
    let e = first_ladder a.edges.now a.kinds.now a.levels.now a.symbols.now _ (ladder_refused a.edges.now _ c.in_err-ladder.ensures) in
    record { answer = check_handed_on _ r c.from_residual.ensures.1 ∙ e.0; symbols = e.1 }

pub returns : goal.returns
unfolding answer_of
returns c =
    let a = c.args in
    let l = ladder_passed a.edges.now _ c.in_ok-ladder.ensures in
    let q = c.quantise.ensures in
    let n = then_samples a.edges.now a.kinds.now a.levels.now a.symbols.now l.0 in
    record { answer = q.answer ∙ n.0; symbols = q.symbols ∙ n.1 _ l.1 }
