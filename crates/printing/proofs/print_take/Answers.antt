-- The header is checked first, then the strip's length, then the symbols; and only then the strip is written. Assumes nothing.
use Rattle.std.proofs.Common.{ap, sym, ◌∙◌, inl, inr}
use Rattle.take_format.specs.Take.{Header, header, header_refusal, open_refusal, header_answer, open_answer, totals}
use Rattle.take_format.proofs.checks.CallLaws.{answered_some, answered_none, buffer_some, buffer_none, answered_inr}
use Rattle.refusal.specs.Checked.{answer_of, refusal_of}
use Rattle.refusal.specs.declared.Refusal as struct
use Rattle.refusal.proofs.Laws.{handed_on, refused_for}
use Rattle.takes.specs.Answer.{header_of}
use Rattle.listing.specs.declared.take.Take.{Take}
use Rattle.printing.specs.Layout.{strip_length}
use Rattle.printing.specs.Calls.{take_strip, strip_answer, strip_buffer}
use Rattle.printing.proofs.Refusing.{strip_first, strip_room, strip_last}
use Rattle.printing.proofs.print_take.Goals as goal

pub returns-in_err-header : goal.returns-in_err-header
unfolding header_answer strip_answer strip_buffer
returns-in_err-header c =
    let bs = c.args.take.now in
    let strip = c.args.strip.now in
    let r = c.in_err-header.field-0.0 in
    let e = strip_first bs strip _ (sym (refused_for header_of r (header_refusal bs) (header bs) c.in_err-header.ensures)) in
    record {
      answer = handed_on _ _ r c.from_residual.ensures.1 ∙ answered_some _ _ (totals bs) e;
      strip = buffer_some _ _ strip (take_strip bs) e;
    }

-- 7
pub returns-then-strip-length_of : goal.returns-then-strip-length_of
unfolding answer_of header_answer strip_answer strip_buffer
returns-then-strip-length_of c =
    let bs = c.args.take.now in
    let strip = c.args.strip.now in
    let (ok, e) = answered_inr (header_refusal bs) (header bs) _ c.in_ok-header.ensures in
    let long = c.length_of.ensures ∙ ap strip_length (ap (λ (x : Header). x.words) e) in
    let r = strip_room bs strip ok (λ z. c.if-strip-length_of.true (z ∙ sym long)) in
    record { answer = ap (λ (x : struct.Refusal). inl (refusal_of x)) c.into.ensures ∙ answered_some _ _ (totals bs) r; strip = buffer_some _ _ strip (take_strip bs) r }

pub returns-in_err-take : goal.returns-in_err-take
unfolding answer_of header_answer open_answer strip_answer strip_buffer
returns-in_err-take c =
    let bs = c.args.take.now in
    let strip = c.args.strip.now in
    let (headed, q) = answered_inr (header_refusal bs) (header bs) _ c.in_ok-header.ensures in
    let long = c.length_of.ensures ∙ ap strip_length (ap (λ (x : Header). x.words) q) in
    let r = c.in_err-take.field-0.0 in
    let o = refused_for (λ (t : Take). header_of t.header) r (open_refusal bs) (header bs) c.in_err-take.ensures.answer in
    let e = strip_last bs strip headed (c.if-strip-length_of.false ∙ long) ∙ o in
    record {
      answer = handed_on _ _ r c.from_residual-in_err-take.ensures.1 ∙ answered_some _ _ (totals bs) e;
      strip = buffer_some _ _ strip (take_strip bs) e;
    }

pub lay_whole-requires : goal.lay_whole-requires
unfolding answer_of header_answer open_answer
lay_whole-requires c =
    let bs = c.args.take.now in
    let (_, q) = answered_inr (header_refusal bs) (header bs) _ c.in_ok-header.ensures in
    let (_, e) = answered_inr (open_refusal bs) (header bs) _ c.in_ok-take.ensures.answer in
    c.if-strip-length_of.false ∙ c.length_of.ensures ∙ ap (λ (x : Header). strip_length x.words) (q ∙ sym e)

pub returns : goal.returns
unfolding answer_of header_answer open_answer strip_answer strip_buffer
returns c =
    let bs = c.args.take.now in
    let strip = c.args.strip.now in
    let (headed, q) = answered_inr (header_refusal bs) (header bs) _ c.in_ok-header.ensures in
    let long = c.length_of.ensures ∙ ap strip_length (ap (λ (x : Header). x.words) q) in
    let (ok, _) = answered_inr (open_refusal bs) (header bs) _ c.in_ok-take.ensures.answer in
    let e = strip_last bs strip headed (c.if-strip-length_of.false ∙ long) ∙ sym ok in
    let same = c.in_ok-take.ensures.bytes in
    let laid = c.lay_whole.ensures in
    record {
      answer = ap inr (laid.totals ∙ ap totals same) ∙ answered_none _ (totals bs) e;
      strip = laid.strip ∙ ap take_strip same ∙ buffer_none _ strip (take_strip bs) e;
    }
