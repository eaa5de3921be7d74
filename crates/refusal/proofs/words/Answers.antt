-- Each refusal, and their absence, is that of the definition. Assumes nothing.
use native.Mathlib.Omega.{arith}
use mathlib.Core.Path.{◌≡◌}
use borrow.Author.Rules.{rules}
use borrow.Author.Tests.{tests}
use Rattle.bch.specs.Code.{message_length}
use Rattle.take_format.specs.Refusal.{symbol_bytes, words_check}
use Rattle.take_format.proofs.checks.RefusalLaws.{first_last}
use Rattle.refusal.specs.Checked.{checked}
use Rattle.refusal.specs.Named.{code_of}
use Rattle.refusal.proofs.words.Goals as goal
use Rattle.refusal.proofs.words.Goals.{then-messages-words-via-then-messages-words, then-messages-words-via-else-messages-words+then-marks-words}

pub returns-then-p-gt6 : goal.returns-then-p-gt6
unfolding checked words_check
returns-then-p-gt6 c = search (rules, tests)

pub returns-then-all-words : goal.returns-then-all-words
unfolding checked words_check
returns-then-all-words c = search (rules, tests)

pub returns-then-messages-words : goal.returns-then-messages-words
unfolding checked words_check
returns-then-messages-words c =
    let k : c.args.c.k ≡ message_length (code_of c.args.c) = omega (arith, c.requires.is_n) in
    search (rules, tests)

pub returns : goal.returns
unfolding checked words_check symbol_bytes
returns c =
    let k : c.args.c.k ≡ message_length (code_of c.args.c) = omega (arith, c.requires.is_n) in
    search (rules, tests, first_last)
