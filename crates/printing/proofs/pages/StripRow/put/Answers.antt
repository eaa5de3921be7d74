-- The fields one behind the other, each of its width. Assumes nothing.
use Rattle.std.proofs.Common.{rules, arith, List, ℕ, ◌++◌, ap, length, ◌∙◌}
use mir.Syntax.{w32}
use mir.Val.{SFits}
use mir.Facts.{to_z-of_z}
use Rattle.listing.proofs.Texts.{said, then}
use Rattle.listing.specs.Shown.{mark_of}
use Rattle.printing.specs.Layout.{heading_at}
use Rattle.printing.proofs.Fields.{row_text}
use Rattle.printing.proofs.Widths.{mark_long}
use Rattle.printing.proofs.pages.StripRow.put.Goals as goal

pub characters-requires : goal.characters-requires
characters-requires c = omega (arith, ap length c.name_of.ensures ∙ mark_long (mark_of c.args.shown.mark))

pub returns : goal.returns
returns c = λ a s b.
    let i = c.args.index in
    let fits : SFits w32 c.args.shown.margin = search rules in
    said (then c.page.ensures c.characters-2.ensures) (rw (
      c.text.ensures,
      c.number-3.ensures.text,
      c.characters.ensures.text,
      c.name_of.ensures,
      c.number-2.ensures.text,
      c.signed.ensures.text,
      to_z-of_z fits,
      c.number.ensures.text,
    ) (ap (λ (t : List ℕ). heading_at i ++ t) (row_text i c.args.shown a s)))
