-- Each refusal, and their absence, is that of the definition. Assumes nothing.
use borrow.Author.Rules.{rules}
use borrow.Author.Tests.{tests}
use Rattle.take_format.specs.Refusal.{symbols_check}
use Rattle.take_format.proofs.checks.RefusalLaws.{first_last}
use Rattle.refusal.specs.Checked.{checked}
use Rattle.refusal.proofs.symbols.Goals as goal

pub returns-then-depth-gt6 : goal.returns-then-depth-gt6
unfolding checked symbols_check
returns-then-depth-gt6 c = search (rules, tests)

pub returns-then-symbols-n : goal.returns-then-symbols-n
unfolding checked symbols_check
returns-then-symbols-n c = search (rules, tests)

pub returns-then-room-n : goal.returns-then-room-n
unfolding checked symbols_check
returns-then-room-n c = search (rules, tests)

pub returns : goal.returns
unfolding checked symbols_check
returns c = search (rules, tests, first_last)
