-- By whether the word is the first of a page. Assumes nothing.
use mathlib.Core.Path.{sym}
use Rattle.listing.specs.Text.{ascii, line}
use Rattle.listing.proofs.Texts.{said, nothing}
use Rattle.printing.specs.Layout.{heading}
use Rattle.printing.proofs.PageLaws.{heading_at_lem, heading_none}
use Rattle.printing.proofs.pages.page.Goals as goal

pub returns-then-w-eq0 : goal.returns-then-w-eq0
unfolding heading ascii line
returns-then-w-eq0 c = said c.characters.ensures (sym (heading_at_lem c.args.w c.if-w-eq0.true))

pub returns-else-w-eq0 : goal.returns-else-w-eq0
returns-else-w-eq0 c = said (nothing _) (sym (heading_none c.args.w c.if-w-eq0.false))
