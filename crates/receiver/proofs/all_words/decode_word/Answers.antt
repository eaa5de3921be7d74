-- The message is that of the answer's codeword, or 0. Assumes nothing.
use Prim.Native.Nat.{ℕ, ◌+◌, ◌-◌}
use native.Mathlib.Omega.{arith}
use mathlib.Core.Path.{◌≡◌, ap, sym, ◌∙◌}
use borrow.Author.Tests.{eqb-true, eqb-false}
use lib.ListN.{length, replicate, drop}
use mathlib.Core.Logic.{◌≢◌}
use Rattle.std.proofs.lemmas.Grind.{common_steps}
use Rattle.bch.specs.Code.{parity_length, message_length}
use Rattle.take_format.specs.Batch.{mark_byte}
use Rattle.take_format.proofs.takes.Batches.{message_lost, message_found}
use Rattle.refusal.specs.Named.{code_of}
use Rattle.receiver.specs.Held.{code_in}
use Rattle.receiver.specs.Answer.{byte_of}
use Rattle.receiver.specs.Search.{stage_of}
use Rattle.receiver.specs.declared.Mark.TheVariants.{Lost}
use Rattle.receiver.proofs.Marks.{same_mark, outcome_told, word_written}
use Rattle.receiver.proofs.all_words.decode_word.Goals as goal

parity-long : (n k N K r : ℕ) → n ≡ N → k ≡ K → N ≡ r + K → n - k ≡ r
parity-long n k N K r e f h = omega arith

pub returns-then-eq-clause-answer : goal.returns-then-eq-clause-answer
returns-then-eq-clause-answer c =
    let w = c.args.search.now.word.now in
    outcome_told w.p w.symbols.now c.decode_word-o.result.tries c.decode_word-o.result.best _ c.decode_word-o.ensures.answer.0

pub returns-then-eq-clause-message : goal.returns-then-eq-clause-message
returns-then-eq-clause-message c =
    let s = c.args.search.now in
    let w = s.word.now in
    let b = code_of (code_in s.tables.now) in
    let stage = stage_of s.tables.now w in
    let d = c.decode_word-o in
    let told = outcome_told w.p w.symbols.now d.result.tries d.result.best stage d.ensures.answer.0 in
    let zero : 0 ≡ byte_of c.mark.result = eqb-true 0 _ (sym (same_mark c.mark.result Lost) ∙ sym c.eq.ensures ∙ c.if-eq.true) in
    let lost = sym told.0 ∙ sym (ap byte_of c.mark.ensures) ∙ sym zero in
    let long : length d.new.out ≡ message_length b = omega (arith, c.requires, s.tables.now.filled.fielded.made.is_n) in
    let filled : c.fill.new.self ≡ replicate (length d.new.out) 0 = grind (arith, common_steps) in
    cc (message_lost b stage lost)

pub returns-else-eq-clause-answer : goal.returns-else-eq-clause-answer
returns-else-eq-clause-answer c =
    let w = c.args.search.now.word.now in
    outcome_told w.p w.symbols.now c.decode_word-o.result.tries c.decode_word-o.result.best _ c.decode_word-o.ensures.answer.0

pub returns-else-eq-clause-message : goal.returns-else-eq-clause-message
returns-else-eq-clause-message c =
    let s = c.args.search.now in
    let w = s.word.now in
    let b = code_of (code_in s.tables.now) in
    let stage = stage_of s.tables.now w in
    let d = c.decode_word-o in
    let told = outcome_told w.p w.symbols.now d.result.tries d.result.best stage d.ensures.answer.0 in
    let n = c.length in
    let k = c.message_length in
    let found : mark_byte stage.mark ≢ 0 =
    λ z. eqb-false 0 _ (sym (same_mark c.mark.result Lost) ∙ sym c.eq.ensures ∙ c.if-eq.false)
    (sym (ap byte_of c.mark.ensures ∙ told.0 ∙ z)) in
    let from : n.result - k.result ≡ parity_length b = parity-long _ _ _ _ _ n.ensures k.ensures s.tables.now.filled.fielded.made.is_n in
    d.ensures.out ∙ word_written (n.result - k.result) stage _ found ∙ ap (λ (x : ℕ). drop x stage.word) from
    ∙ sym (message_found b stage found)
