-- What printing a take answers, packed. Assumes nothing.
use native.Mathlib.Omega.{arith}
use mathlib.Core.Path.{ap, ◌∙◌}
use Rattle.refusal.specs.Checked.{answer_of}
use Rattle.receiver_c.specs.Packed.{take_packed}
use Rattle.receiver_c.proofs.Sizes.{few_words}
use Rattle.receiver_c.proofs.Strips.{strip_totals}
use Rattle.receiver_c.proofs.receiver_print_take_packed.Goals as goal

pub totals-requires : goal.totals-requires
unfolding answer_of
totals-requires c =
    let a = c.args in
    let bs = a.take.now in
    strip_totals bs a.strip.now _ c.in-Ok.ensures.answer (few_words bs (omega (arith, c.type_inv.take 0)) (omega (arith, c.type_inv.take 1)))

pub returns-in-Ok-clause-answer : goal.returns-in-Ok-clause-answer
unfolding answer_of take_packed
returns-in-Ok-clause-answer c = c.totals.ensures ∙ ap take_packed c.in-Ok.ensures.answer

pub returns-in-Err-clause-answer : goal.returns-in-Err-clause-answer
unfolding answer_of take_packed
returns-in-Err-clause-answer c = c.refusal.ensures ∙ ap take_packed c.in-Err.ensures.answer
