-- The pages of the words. Assumes nothing.
use Rattle.std.proofs.Common.{arith}
use Rattle.printing.specs.Layout.{strip_length}
use Rattle.printing.proofs.pages.length_of.Goals as goal

pub returns : goal.returns
unfolding strip_length
returns c = omega (arith, c.from-words.ensures, c.div_ceil.ensures, c.max.ensures)
