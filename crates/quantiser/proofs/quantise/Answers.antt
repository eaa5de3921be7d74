-- The checks' answers are the call's, and where they refuse nothing the symbols are written. Assumes nothing.
use borrow.Author.Rules.{rules}
use borrow.Author.Tests.{tests}
use Rattle.take_format.specs.Refusal.{first_of, unless}
use Rattle.take_format.specs.Samples.{samples_refusal}
use Rattle.take_format.specs.Calls.{quantised_buffer, unless_refused}
use Rattle.take_format.proofs.checks.RefusalLaws.{first_last}
use Rattle.refusal.specs.Checked.{checked}
use Rattle.quantiser.proofs.quantise.Goals as goal

pub returns-then-levels-kinds : goal.returns-then-levels-kinds
unfolding checked quantised_buffer samples_refusal unless_refused first_of unless
returns-then-levels-kinds c = search (rules, tests)

pub returns-then-symbols-kinds : goal.returns-then-symbols-kinds
unfolding checked quantised_buffer samples_refusal unless_refused first_of unless
returns-then-symbols-kinds c = search (rules, tests)

pub returns-in_err-check : goal.returns-in_err-check
unfolding checked quantised_buffer samples_refusal unless_refused first_of unless
returns-in_err-check c = search (rules, tests)

pub returns : goal.returns
unfolding checked quantised_buffer samples_refusal unless_refused first_of unless
returns c = search (rules, tests, first_last)
