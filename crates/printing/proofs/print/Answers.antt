-- What is refused or too long is left to the listing; the strip of a take has room in the buffer. Assumes nothing.
use Rattle.std.proofs.Common.{rules, arith, ap, sym, ◌∙◌, inr, length, ◌≤◌, ◌≡◌}
use Rattle.take_format.specs.Take.{open_answer}
use Rattle.refusal.specs.Checked.{answer_of}
use Rattle.takes.specs.Answer.{header_of}
use Rattle.listing.specs.Rows.{opened_of}
use Rattle.listing.specs.Takelist.{over}
use Rattle.listing.proofs.Texts.{whole, said}
use Rattle.listing.proofs.Words.{reading}
use Rattle.printing.specs.Calls.{take_strip, strip_output}
use Rattle.printing.proofs.Layings.{Printable, take_long}
use Rattle.printing.proofs.Outputs.{as_listed, long_output, refused_output, strip_output_lem, strip_room}
use Rattle.printing.proofs.print.Goals as goal

pub returns-then-input-gt65536 : goal.returns-then-input-gt65536
returns-then-input-gt65536 c =
    let f = as_listed _ _ _ _ _ (long_output c.args.input.now c.if-input-gt65536.true) (c.list.ensures.value, (c.list.ensures.text, c.list.ensures.upper_bound)) in
    record { value = f.0; text = f.1.0; upper_bound = f.1.1 }

pub returns-in-Err : goal.returns-in-Err
unfolding answer_of
returns-in-Err c =
    let bs = c.args.input.now in
    let e = sym (ap opened_of c.in-Err.is) ∙ c.open.ensures.answer in
    let k = c.list-in-Err.ensures in
    let f = as_listed _ _ _ _ _ (refused_output bs c.if-input-gt65536.false _ e) (k.value, (k.text, k.upper_bound)) in
    record { value = f.0; text = f.1.0; upper_bound = f.1.1 }

pub returns-in-Ok : goal.returns-in-Ok
unfolding answer_of
returns-in-Ok c =
    let bs = c.args.input.now in
    let t = c.new-out in
    let h = header_of c.in-Ok.take.header in
    let same = c.in-Ok.ensures.bytes in
    let o : open_answer bs ≡ inr h = ap open_answer (sym same) ∙ c.in-Ok.take.opened in
    let ok : Printable bs h = record { reading = reading bs h o; few = search rules } in
    let room : 900000 ≤ length c.args.text.now = search rules in
    let p = said c.lay.ensures.text (ap take_strip same ∙ sym (strip_output_lem bs c.if-input-gt65536.false h (sym o))) in
    let f = whole t.result c.lay.new.text (strip_output bs) t.ensures.at p
    (omega (
      arith,
      room,
      ap length t.ensures.bytes,
      ap length (strip_output_lem bs c.if-input-gt65536.false h (sym o)),
      take_long bs h ok,
      strip_room bs h ok.reading c.if-input-gt65536.false,
    )) (search rules) in
    record { value = c.len.ensures.value ∙ f.0; text = f.1 ∙ ap (over (strip_output bs)) t.ensures.bytes; upper_bound = c.len.ensures.upper_bound }
