-- What reading a take answers, packed. Assumes nothing.
use native.Mathlib.Omega.{arith}
use mathlib.Core.Path.{refl, ap, ◌∙◌}
use Rattle.refusal.specs.Checked.{answer_of}
use Rattle.receiver_c.specs.Packed.{take_packed}
use Rattle.receiver_c.proofs.Sizes.{number_small, few_words, totals_room}
use Rattle.receiver_c.proofs.Promises.{refusal_promise, totals_promise}
use Rattle.receiver_c.proofs.receiver_read_take_packed.Goals as goal

pub totals-requires : goal.totals-requires
unfolding answer_of
totals-requires c =
    let bs = c.args.take.now in
    let promise = c.in-Ok.ensures.promise _ refl in
    totals_room bs _ _ _ promise (few_words bs (omega (arith, c.type_inv.take 0)) (omega (arith, c.type_inv.take 1)))

pub returns-in-Ok-clause-answer : goal.returns-in-Ok-clause-answer
unfolding answer_of take_packed
returns-in-Ok-clause-answer c = c.totals.ensures ∙ ap take_packed c.in-Ok.ensures.answer

pub returns-in-Ok-clause-promise : goal.returns-in-Ok-clause-promise
unfolding answer_of
returns-in-Ok-clause-promise c =
    let bs = c.args.take.now in
    let promise = c.in-Ok.ensures.promise _ refl in
    totals_promise _ _ _ _ _ promise (few_words bs (omega (arith, c.type_inv.take 0)) (omega (arith, c.type_inv.take 1))) c.totals.ensures

pub returns-in-Err-clause-answer : goal.returns-in-Err-clause-answer
unfolding answer_of take_packed
returns-in-Err-clause-answer c = c.refusal.ensures ∙ ap take_packed c.in-Err.ensures.answer

pub returns-in-Err-clause-promise : goal.returns-in-Err-clause-promise
returns-in-Err-clause-promise c = refusal_promise _ _ _ _ _ (number_small c.in-Err.r.cause) c.refusal.ensures
