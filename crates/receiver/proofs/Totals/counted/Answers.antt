-- By the answer's case. Assumes nothing.
use mathlib.Core.Path.{◌≡◌, refl}
use Rattle.chase.specs.Soft.{lost_answer}
use Rattle.take_format.specs.Batch.{counted_answer}
use Rattle.receiver.specs.Answer.{found_of, with_answer}
use Rattle.receiver.specs.declared.Soft.TheVariants.{Lost, Fair, Sure}
use Rattle.receiver.proofs.Totals.counted.Goals as goal

pub returns-in-Err : goal.returns-in-Err
unfolding with_answer
returns-in-Err g c = rw c.in-Err.is refl

pub returns-in-Ok-Lost : goal.returns-in-Ok-Lost
unfolding with_answer found_of lost_answer counted_answer
returns-in-Ok-Lost g c =
    let e : c.in-Ok-Lost.field-0 ≡ Lost c.in-Ok-Lost.tries = rw c.in-Ok-Lost.is at c.in-Ok-Lost.field-0-is in
    rw (c.in-Ok-Lost.is, e) c.add.ensures

pub returns-in-Ok-Fair : goal.returns-in-Ok-Fair
unfolding with_answer found_of lost_answer counted_answer
returns-in-Ok-Fair g c =
    let e : c.in-Ok-Fair.field-0 ≡ Fair c.in-Ok-Fair.found = rw c.in-Ok-Fair.is at c.in-Ok-Fair.field-0-is in
    rw (c.in-Ok-Fair.is, e) c.add-in-Ok-Fair.ensures

pub returns-in-Ok-Sure : goal.returns-in-Ok-Sure
unfolding with_answer found_of lost_answer counted_answer
returns-in-Ok-Sure g c =
    let e : c.in-Ok-Sure.field-0 ≡ Sure c.in-Ok-Sure.found = rw c.in-Ok-Sure.is at c.in-Ok-Sure.field-0-is in
    rw (c.in-Ok-Sure.is, e) c.add-in-Ok-Sure.ensures
