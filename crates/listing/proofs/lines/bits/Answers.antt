-- The bits so far are characters. Assumes nothing.
use Rattle.std.proofs.Common.{◌∙◌}
use Rattle.listing.proofs.Texts.{shown_none, bits_more, shown_all}
use Rattle.listing.proofs.lines.bits.Goals as goal

pub loop-b-init : goal.loop-b-init
loop-b-init c = λ b. shown_none c.args.bits.now

pub loop-b-preserved : goal.loop-b-preserved
loop-b-preserved c = λ b. bits_more c.args.bits.now c.loop-b.b-items c.loop-b.b-index b c.loop-b-test.true (c.loop-b.invariant b)

pub returns : goal.returns
returns c = λ b. c.loop-b.invariant b ∙ shown_all c.args.bits.now c.loop-b.b-index c.loop-b-test.false
