-- By the length of the input, and by whether the take is opened. Assumes nothing.
use Rattle.std.proofs.Common.{◌≡◌, List, ℕ, ◌++◌, ap, sym, ◌∙◌, arith, rules, length, inl}
use lib.ListN.{length-append}
use Rattle.take_format.specs.Take.{open_answer, totals}
use Rattle.refusal.specs.Checked.{refusal_of, answer_of}
use Rattle.receiver.specs.Answer.{totals_told}
use Rattle.takes.specs.Answer.{header_of}
use Rattle.listing.specs.Text.{ascii, line, too_long, word_line, totals_line}
use Rattle.listing.specs.Rows.{opened_of, rows}
use Rattle.listing.proofs.Texts.{said, then}
use Rattle.listing.proofs.Rows.{Held, totals_long, refusal_long}
use Rattle.listing.proofs.Words.{reading}
use Rattle.listing.proofs.Outputs.{long_input, refused_input, take_input, rows_room}
use Rattle.listing.proofs.lines.output.Goals as goal

pub returns-then-input-gt65536-clause-text : goal.returns-then-input-gt65536-clause-text
unfolding too_long line ascii
returns-then-input-gt65536-clause-text c = said c.characters.ensures (long_input c.args.input.now c.if-input-gt65536.true)

pub returns-then-input-gt65536-clause-upper_bound : goal.returns-then-input-gt65536-clause-upper_bound
unfolding too_long line ascii
returns-then-input-gt65536-clause-upper_bound c = omega (arith, ap length (long_input c.args.input.now c.if-input-gt65536.true))

pub returns-in-Ok-clause-text : goal.returns-in-Ok-clause-text
returns-in-Ok-clause-text c =
    let same = c.in-Ok.ensures.bytes in
    let h = header_of c.in-Ok.take.header in
    let k = totals_told c.write-k.result in
    said (then c.write-k.ensures.text c.totals.ensures)
    (ap (λ (bs : List ℕ). rows word_line bs h h.words ++ totals_line k) same
    ∙ take_input c.args.input.now c.if-input-gt65536.false h k (ap open_answer (sym same) ∙ c.in-Ok.take.opened)
    (c.write-k.ensures.totals ∙ ap totals same))

pub returns-in-Ok-clause-upper_bound : goal.returns-in-Ok-clause-upper_bound
returns-in-Ok-clause-upper_bound c =
    let same = c.in-Ok.ensures.bytes in
    let h = header_of c.in-Ok.take.header in
    let k = totals_told c.write-k.result in
    let e = ap open_answer (sym same) ∙ c.in-Ok.take.opened in
    let held : Held k = record { words = omega arith; sures = omega arith; fairs = omega arith; losts = omega arith; tries = omega arith } in
    omega (
      arith,
      ap length (take_input c.args.input.now c.if-input-gt65536.false h k e (c.write-k.ensures.totals ∙ ap totals same)),
      length-append (rows word_line c.args.input.now h h.words) (totals_line k),
      rows_room c.args.input.now h (reading c.args.input.now h e) c.if-input-gt65536.false,
      totals_long k held,
    )

pub returns-in-Err-clause-text : goal.returns-in-Err-clause-text
unfolding answer_of
returns-in-Err-clause-text c =
    let e : open_answer c.args.input.now ≡ inl (refusal_of c.in-Err.r) = sym c.open.ensures.answer ∙ ap opened_of c.in-Err.is in
    said c.refused.ensures (refused_input c.args.input.now c.if-input-gt65536.false (refusal_of c.in-Err.r) e)

pub returns-in-Err-clause-upper_bound : goal.returns-in-Err-clause-upper_bound
unfolding answer_of
returns-in-Err-clause-upper_bound c =
    let e : open_answer c.args.input.now ≡ inl (refusal_of c.in-Err.r) = sym c.open.ensures.answer ∙ ap opened_of c.in-Err.is in
    omega (
      arith,
      ap length (refused_input c.args.input.now c.if-input-gt65536.false (refusal_of c.in-Err.r) e),
      refusal_long (refusal_of c.in-Err.r) (search rules) (search rules),
    )
