-- The symbols are written one after the other. Assumes nothing.
use mathlib.Core.Path.{refl, ap, sym, ◌∙◌}
use native.Mathlib.Omega.{arith}
use Rattle.bch.proofs.codes.Copies.{copied_more, copied_end}
use Rattle.take_format.specs.Samples.{quantised, symbol as Samples·symbol}
use Rattle.take_format.proofs.quantisation.SampleLaws.{length_quantised}
use Rattle.take_format.proofs.quantisation.SampleSteps.{quantised_at}
use Rattle.quantiser.proofs.samples.write.Goals as goal

pub loop-i-init : goal.loop-i-init
loop-i-init c = refl

pub loop-i-preserved : goal.loop-i-preserved
loop-i-preserved c =
    let a = c.args in
    let p = c.requires in
    let l = c.loop-i in
    let ks = a.kinds.now in
    let xs = a.levels.now in
    let es = a.edges.now in
    let told = c.symbol.ensures ∙ ap (Samples·symbol es) c.sample_of.ensures ∙ sym (quantised_at es ks xs l.i p.0 (omega arith)) in
    copied_more a.symbols.now 0 (quantised es ks xs) l.i l.i (omega arith) l.symbols l.invariant _ (omega arith)
    (omega (arith, length_quantised es ks xs p.0)) told

pub returns : goal.returns
returns c =
    let a = c.args in
    let p = c.requires in
    let l = c.loop-i in
    let ks = a.kinds.now in
    let xs = a.levels.now in
    let es = a.edges.now in
    copied_end a.symbols.now 0 (quantised es ks xs) l.i l.i (omega arith) l.symbols l.invariant (omega (arith, length_quantised es ks xs p.0))
    (omega arith)
