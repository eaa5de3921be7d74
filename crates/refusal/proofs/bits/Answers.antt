-- Each refusal, and their absence, is that of the definition. Assumes nothing.
use borrow.Author.Rules.{rules}
use borrow.Author.Tests.{tests}
use Rattle.take_format.specs.Refusal.{bits_check}
use Rattle.take_format.proofs.checks.RefusalLaws.{first_last}
use Rattle.refusal.specs.Checked.{checked}
use Rattle.refusal.proofs.bits.Goals as goal

pub returns-then-bits-k : goal.returns-then-bits-k
unfolding checked bits_check
returns-then-bits-k c = search (rules, tests)

pub returns-then-room-n : goal.returns-then-room-n
unfolding checked bits_check
returns-then-room-n c = search (rules, tests)

pub returns : goal.returns
unfolding checked bits_check
returns c = search (rules, tests, first_last)
