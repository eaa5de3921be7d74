-- What the soft stage answers, packed. Assumes nothing.
use native.Mathlib.Omega.{arith}
use mathlib.Core.Path.{ap, ◌∙◌}
use Rattle.bch.specs.Code.{code}
use Rattle.chase.specs.Soft.{lost_answer}
use Rattle.refusal.specs.Checked.{answer_of}
use Rattle.receiver.specs.Answer.{found_of}
use Rattle.receiver_c.specs.Packed.{soft_packed, answer_packed}
use Rattle.receiver_c.proofs.Sizes.{soft_room}
use Rattle.receiver_c.proofs.receiver_decode_soft_packed.Goals as goal

pub answer-requires : goal.answer-requires
unfolding answer_of found_of
answer-requires c =
    let a = c.args in
    let e = rw c.in-Ok-Sure.field-0-is at c.in-Ok-Sure.ensures.answer in
    let room = soft_room (code a.m a.t a.n) a.depth a.symbols.now a.codeword.now _ e in
    record { bytes_bound = (omega arith, omega arith, omega arith, omega arith); margin_bound = room.margin }

pub answer-requires-in-Ok-Fair : goal.answer-requires-in-Ok-Fair
unfolding answer_of found_of
answer-requires-in-Ok-Fair c =
    let a = c.args in
    let e = rw c.in-Ok-Fair.field-0-is at c.in-Ok-Fair.ensures.answer in
    let room = soft_room (code a.m a.t a.n) a.depth a.symbols.now a.codeword.now _ e in
    record { bytes_bound = (omega arith, omega arith, omega arith, omega arith); margin_bound = room.margin }

pub answer-requires-in-Ok-Lost : goal.answer-requires-in-Ok-Lost
unfolding answer_of found_of lost_answer
answer-requires-in-Ok-Lost c =
    let a = c.args in
    let e = rw c.in-Ok-Lost.field-0-is at c.in-Ok-Lost.ensures.answer in
    let room = soft_room (code a.m a.t a.n) a.depth a.symbols.now a.codeword.now _ e in
    record { bytes_bound = (omega arith, omega arith, omega arith, omega arith); margin_bound = room.margin }

pub returns-in-Ok-Sure-clause-answer : goal.returns-in-Ok-Sure-clause-answer
unfolding answer_of found_of soft_packed answer_packed
returns-in-Ok-Sure-clause-answer c =
    let e = rw c.in-Ok-Sure.field-0-is at c.in-Ok-Sure.ensures.answer in
    c.answer.ensures ∙ ap soft_packed e

pub returns-in-Ok-Fair-clause-answer : goal.returns-in-Ok-Fair-clause-answer
unfolding answer_of found_of soft_packed answer_packed
returns-in-Ok-Fair-clause-answer c =
    let e = rw c.in-Ok-Fair.field-0-is at c.in-Ok-Fair.ensures.answer in
    c.answer-in-Ok-Fair.ensures ∙ ap soft_packed e

pub returns-in-Ok-Lost-clause-answer : goal.returns-in-Ok-Lost-clause-answer
unfolding answer_of found_of soft_packed answer_packed lost_answer
returns-in-Ok-Lost-clause-answer c =
    let e = rw c.in-Ok-Lost.field-0-is at c.in-Ok-Lost.ensures.answer in
    c.answer-in-Ok-Lost.ensures ∙ ap soft_packed e

pub returns-in-Err-clause-answer : goal.returns-in-Err-clause-answer
unfolding answer_of soft_packed
returns-in-Err-clause-answer c = c.refusal.ensures ∙ ap soft_packed c.in-Err.ensures.answer
