-- What the hard stage answers, packed. Assumes nothing.
use mathlib.Core.Path.{ap, ◌∙◌}
use Rattle.bch.specs.Code.{code}
use Rattle.receiver.specs.Answer.{hard_of}
use Rattle.receiver_c.specs.Packed.{hard_packed}
use Rattle.receiver_c.proofs.Sizes.{hard_room}
use Rattle.receiver_c.proofs.receiver_decode_hard_packed.Goals as goal

pub found-requires : goal.found-requires
unfolding hard_of
found-requires c =
    let a = c.args in
    let e = rw c.in-Ok-Some.field-0-is at c.in-Ok-Some.ensures.answer in
    let room = hard_room (code a.m a.t a.n) a.bits.now a.codeword.now _ e in
    (room.count, room.inside)

pub returns-in-Ok-Some-clause-answer : goal.returns-in-Ok-Some-clause-answer
unfolding hard_of hard_packed
returns-in-Ok-Some-clause-answer c =
    let e = rw c.in-Ok-Some.field-0-is at c.in-Ok-Some.ensures.answer in
    c.found.ensures ∙ ap hard_packed e

pub returns-in-Ok-None-clause-answer : goal.returns-in-Ok-None-clause-answer
unfolding hard_of hard_packed
returns-in-Ok-None-clause-answer c =
    let e = rw c.in-Ok-None.field-0-is at c.in-Ok-None.ensures.answer in
    ap hard_packed e

pub returns-in-Err-clause-answer : goal.returns-in-Err-clause-answer
unfolding hard_of hard_packed
returns-in-Err-clause-answer c = c.refusal.ensures ∙ ap hard_packed c.in-Err.ensures.answer
