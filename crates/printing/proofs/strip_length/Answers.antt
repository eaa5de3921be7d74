-- A take that is opened tells its words. Assumes nothing.
use mathlib.Core.Path.{ap, sym, ◌∙◌}
use mathlib.Core.Logic.{inr}
use Rattle.take_format.specs.Take.{Header, header, open_refusal, open_answer}
use Rattle.take_format.proofs.checks.CallLaws.{answered_some, answered_none, answered_inr}
use Rattle.refusal.specs.Checked.{answer_of}
use Rattle.refusal.proofs.Laws.{handed_on, refused_for}
use Rattle.takes.specs.Answer.{header_of}
use Rattle.listing.specs.declared.take.Take.{Take}
use Rattle.printing.specs.Layout.{strip_length}
use Rattle.printing.specs.Calls.{length_answer}
use Rattle.printing.proofs.strip_length.Goals as goal

pub returns-in_err-take : goal.returns-in_err-take
unfolding open_answer length_answer
returns-in_err-take c =
    let bs = c.args.take.now in
    let r = c.in_err-take.field-0.0 in
    let e = refused_for (λ (t : Take). header_of t.header) r (open_refusal bs) (header bs) c.in_err-take.ensures.answer in
    handed_on _ _ r c.from_residual.ensures.1 ∙ answered_some _ _ (strip_length (header bs).words) e

pub returns : goal.returns
unfolding answer_of open_answer length_answer
returns c =
    let bs = c.args.take.now in
    let (ok, e) = answered_inr (open_refusal bs) (header bs) _ c.in_ok-take.ensures.answer in
    ap inr (c.length_of.ensures ∙ ap strip_length (ap (λ (x : Header). x.words) e))
    ∙ answered_none _ (strip_length (header bs).words) (sym ok)
