-- What is left to check is refused as all is. Assumes nothing.
use Prim.Native.Nat.{ℕ}
use mathlib.Core.Path.{ap, ap₂, sym, ◌∙◌}
use mathlib.Core.Logic.{⊎_elim, inl, inr}
use Rattle.take_format.specs.Refusal.{refused}
use Rattle.take_format.specs.Samples.{samples_check}
use Rattle.refusal.specs.Checked.{checked}
use Rattle.quantiser.proofs.Bad.{kind_refused, level_refused, passed, none_left}
use Rattle.quantiser.proofs.samples.check.Goals as goal

pub loop-place-init : goal.loop-place-init
loop-place-init c = cc

pub returns-then-kind-gt1 : goal.returns-then-kind-gt1
unfolding checked
returns-then-kind-gt1 c =
    let l = c.loop-place in
    let at = l.place-iterator.count in
    let s = c.in-Some.ensures.steps in
    ap (refused 10) s.1 ∙ kind_refused at _ _ _ _ c.if-kind-gt1.true ∙ sym (ap₂ (samples_check at) s.0.0 s.0.1) ∙ l.invariant

pub returns-else-kind-gt1 : goal.returns-else-kind-gt1
unfolding checked
returns-else-kind-gt1 c =
    let l = c.loop-place in
    let at = l.place-iterator.count in
    let s = c.in-Some.ensures.steps in
    ap (refused 11) s.1 ∙ level_refused at _ _ _ _ c.if-bad.ensures c.if-kind-gt1.false ∙ sym (ap₂ (samples_check at) s.0.0 s.0.1) ∙ l.invariant

pub loop-place-preserved : goal.loop-place-preserved
loop-place-preserved c =
    let l = c.loop-place in
    let at = l.place-iterator.count in
    let s = c.in-Some.ensures.steps in
    ap (λ (n : ℕ). samples_check n c.next.new.self.iter.a.rest.now c.next.new.self.iter.b.rest.now) s.2
    ∙ sym (passed at _ _ _ _ c.if-bad.ensures)
    ∙ sym (ap₂ (samples_check at) s.0.0 s.0.1)
    ∙ l.invariant

pub returns : goal.returns
unfolding checked
returns c =
    let l = c.loop-place in
    none_left l.place-iterator.count _ _ (⊎_elim (λ e. inl e.1.0) (λ e. inr e.1.0) c.in-None.ensures.steps.0) ∙ l.invariant
