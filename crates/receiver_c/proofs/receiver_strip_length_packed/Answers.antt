-- What the strip's length is answered as, packed. Assumes nothing.
use native.Mathlib.Omega.{arith}
use mathlib.Core.Path.{ap, ◌∙◌}
use Rattle.refusal.specs.Checked.{answer_of}
use Rattle.receiver_c.specs.Packed.{length_packed}
use Rattle.receiver_c.proofs.Sizes.{few_words}
use Rattle.receiver_c.proofs.Strips.{length_room}
use Rattle.receiver_c.proofs.receiver_strip_length_packed.Goals as goal

pub overflow_mul-result : goal.overflow_mul-result
unfolding answer_of
overflow_mul-result c =
    let bs = c.args.take.now in
    omega (arith, length_room bs _ c.in-Ok.ensures (few_words bs (omega (arith, c.type_inv.take 0)) (omega (arith, c.type_inv.take 1))))

pub returns-in-Ok : goal.returns-in-Ok
unfolding answer_of length_packed
returns-in-Ok c = ap length_packed c.in-Ok.ensures

pub returns-in-Err : goal.returns-in-Err
unfolding answer_of length_packed
returns-in-Err c = c.refusal.ensures ∙ ap length_packed c.in-Err.ensures
