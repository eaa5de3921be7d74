-- Each answer is that of the definition, by what the tests found. Assumes nothing.
use borrow.Author.Rules.{rules}
use borrow.Author.Tests.{tests}
use Rattle.take_format.specs.Refusal.{unless}
use Rattle.take_format.specs.Samples.{ladder_check, is_ladder}
use Rattle.take_format.specs.Calls.{ladder_answer, answered}
use Rattle.refusal.specs.Checked.{answer_of}
use Rattle.quantiser.proofs.make_ladder.Goals as goal

pub returns-in_default : goal.returns-in_default
unfolding answer_of ladder_answer ladder_check is_ladder answered unless
returns-in_default c = search (rules, tests)

pub returns-then-rise : goal.returns-then-rise
unfolding answer_of ladder_answer ladder_check is_ladder answered unless
returns-then-rise c = search (rules, tests)

pub returns : goal.returns
unfolding answer_of ladder_answer ladder_check is_ladder answered unless
returns c = search (rules, tests)
