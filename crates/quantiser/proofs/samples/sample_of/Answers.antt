-- A kind of 1 is heard, and any other is blank. Assumes nothing.
use borrow.Author.Rules.{rules}
use borrow.Author.Tests.{tests}
use Rattle.take_format.specs.Samples.{sample_of}
use Rattle.quantiser.specs.Told.{sample_told}
use Rattle.quantiser.proofs.samples.sample_of.Goals as goal

pub returns-then-kind-eq1 : goal.returns-then-kind-eq1
unfolding sample_told sample_of
returns-then-kind-eq1 c = search (rules, tests)

pub returns-else-kind-eq1 : goal.returns-else-kind-eq1
unfolding sample_told sample_of
returns-else-kind-eq1 c = search (rules, tests)
