-- m picks the field's size and polynomial, and is refused where there is no field for it. Assumes nothing.
use borrow.Author.Rules.{rules}
use borrow.Author.Tests.{tests}
use Rattle.galois.specs.Field.{poly}
use Rattle.take_format.specs.Refusal.{unless, first_of, settings as Refusal·settings}
use Rattle.take_format.specs.Calls.{answered}
use Rattle.refusal.specs.Checked.{answer_of}
use Rattle.refusal.proofs.settings.Goals as goal

pub over-requires : goal.over-requires
unfolding poly
over-requires c = rw c.in-5.is (search rules)

pub over-requires-in-6 : goal.over-requires-in-6
unfolding poly
over-requires-in-6 c = rw c.in-6.is (search rules)

pub over-requires-in-7 : goal.over-requires-in-7
unfolding poly
over-requires-in-7 c = rw c.in-7.is (search rules)

pub over-requires-in-8 : goal.over-requires-in-8
unfolding poly
over-requires-in-8 c = rw c.in-8.is (search rules)

pub returns-in_default : goal.returns-in_default
unfolding answer_of answered Refusal·settings first_of unless
returns-in_default c = search (rules, tests)
