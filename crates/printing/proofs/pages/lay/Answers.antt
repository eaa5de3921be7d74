-- By whether there are words. Assumes nothing.
use Rattle.std.proofs.Common.{arith, ◌∙◌, ◌≡◌, ◌<◌, subst}
use Rattle.takes.specs.Answer.{header_of}
use Rattle.listing.specs.Text.{ascii, line}
use Rattle.listing.specs.declared.text.Text.{Text}
use Rattle.listing.specs.Written.{Written}
use Rattle.listing.specs.Rows.{rows}
use Rattle.listing.proofs.Texts.{said, then}
use Rattle.listing.proofs.Words.{reading}
use Rattle.printing.specs.Layout.{heading}
use Rattle.printing.proofs.PageLaws.{not_zero}
use Rattle.printing.proofs.Layings.{Printable, row, strip_words, strip_empty}
use Rattle.printing.proofs.pages.lay.Goals.{then-words-eq0, else-words-eq0}
use Rattle.printing.proofs.pages.lay.Goals as goal

pub returns-clause-text : goal.returns-clause-text
unfolding heading ascii line
returns-clause-text c =
    let bs = c.args.take.bytes.now in
    let h = header_of c.args.take.header in
    let ok : Printable bs h = record { reading = reading bs h c.args.take.opened; few = omega arith } in
    elim c.if-words-eq0.branch [
      | then-words-eq0 w ↦
          let z : h.words ≡ 0 = omega (arith, w.if-words-eq0.true, c.words.ensures) in
          said (then w.characters.ensures (subst (λ (t : Text). Written t (rows row bs h h.words) c.write.new.text) w.text-is c.write.ensures.text))
          (strip_empty bs h ok z)
      | else-words-eq0 w ↦
          let some : 0 < h.words = not_zero h.words (λ z. w.if-words-eq0.false (c.words.ensures ∙ z)) in
          said (subst (λ (t : Text). Written t (rows row bs h h.words) c.write.new.text) w.text-is c.write.ensures.text) (strip_words bs h ok some)
    ]
