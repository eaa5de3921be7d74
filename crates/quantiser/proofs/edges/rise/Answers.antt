-- What is left rises above the last edge exactly where all rise. Assumes nothing.
use mathlib.Core.Path.{refl, sym, ◌∙◌}
use native.Mathlib.Omega.{arith}
use lib.Ieee.{of_bits}
use Rattle.take_format.proofs.quantisation.SampleSteps.{rising_more, rising_not, rising_end}
use Rattle.quantiser.proofs.edges.rise.Goals as goal

pub loop-edge-init : goal.loop-edge-init
unfolding of_bits
loop-edge-init c = refl

pub returns-else-below-edge : goal.returns-else-below-edge
returns-else-below-edge c =
    let l = c.loop-edge in
    sym (rising_not c.args.edges.now l.edge-index l.below (omega arith) c.if-below-edge.false) ∙ l.invariant

pub loop-edge-preserved : goal.loop-edge-preserved
loop-edge-preserved c =
    let l = c.loop-edge in
    sym (rising_more c.args.edges.now l.edge-index l.below (omega arith) c.if-below-edge.true) ∙ l.invariant

pub returns : goal.returns
returns c =
    let l = c.loop-edge in
    sym (rising_end c.args.edges.now l.edge-index l.below (omega arith)) ∙ l.invariant
