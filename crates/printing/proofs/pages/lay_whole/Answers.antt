-- The text is as long as its buffer. Assumes nothing.
use Rattle.std.proofs.Common.{rules, arith, ap, sym, ◌∙◌, length}
use Rattle.takes.specs.Answer.{header_of}
use Rattle.listing.proofs.Texts.{filled}
use Rattle.listing.proofs.Words.{reading}
use Rattle.printing.specs.Calls.{take_strip}
use Rattle.printing.proofs.Layings.{Printable, take_long}
use Rattle.printing.proofs.pages.lay_whole.Goals as goal

pub returns-clause-strip : goal.returns-clause-strip
returns-clause-strip c =
    let bs = c.args.take.bytes.now in
    let h = header_of c.args.take.header in
    let t = c.new-text in
    let ok : Printable bs h = record { reading = reading bs h c.args.take.opened; few = omega arith } in
    let all = filled t.result c.lay.new.text (take_strip bs) t.ensures.at c.lay.ensures.text
    (take_long bs h ok ∙ sym c.requires ∙ ap length (sym t.ensures.bytes)) (search rules) in
    let name = sym (c.lay.ensures.text.same ∙ t.ensures.same) in
    search rules
