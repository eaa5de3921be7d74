-- The check's refusal, or the soft stage's answer. Assumes nothing.
use Prim.Native.Nat.{◌≤◌}
use mathlib.Core.Path.{◌≡◌, ap, sym, ◌∙◌, subst}
use mathlib.Core.Logic.{inr}
use lib.ListN.{length}
use Rattle.std.proofs.lemmas.Result.{err_from_is_err_and}
use Rattle.bch.specs.Code.{code}
use Rattle.chase.specs.Soft.{soft_stage, soft_written}
use Rattle.chase.specs.Word.{Symbols}
use Rattle.take_format.specs.Refusal.{soft_refusal}
use Rattle.take_format.specs.Calls.{soft_answer, soft_buffer}
use Rattle.take_format.proofs.checks.RefusalLaws.{soft_accepted}
use Rattle.take_format.proofs.checks.CallLaws.{answered_inl, answered_some, answered_none, buffer_some, buffer_none}
use Rattle.refusal.specs.Checked.{answer_of}
use Rattle.refusal.specs.Named.{code_of, record_of, Made}
use Rattle.refusal.specs.declared.Code as struct
use Rattle.refusal.proofs.Laws.{named_code, made}
use Rattle.receiver.proofs.decode_soft.Goals as goal

pub returns-in_err-c : goal.returns-in_err-c
unfolding answer_of soft_refusal soft_answer soft_buffer
returns-in_err-c c =
    let a = c.args in
    let w = code a.m a.t a.n in
    let old = a.codeword.now in
    let r = soft_stage w a.depth a.symbols.now in
    let p = err_from_is_err_and c.from_residual.result c.from_residual.ensures.1 in
    let refused = sym (answered_inl (soft_refusal w a.depth a.symbols.now old) (record_of w) _ c.in_err-c.ensures) in
    record { answer = rw (p.1, p.2) (answered_some _ _ r refused); codeword = buffer_some _ _ old (soft_written r old) refused }

pub decode-requires : goal.decode-requires
unfolding soft_refusal
decode-requires c =
    let a = c.args in
    let w = code a.m a.t a.n in
    let p = a.depth in
    let ss = a.symbols.now in
    let old = a.codeword.now in
    let (ok, e) = named_code c.in_ok-c.c (soft_refusal w p ss old) w c.in_ok-c.ensures in
    let h = soft_accepted w p ss old ok in
    subst (λ (k : struct.Code). Made k × (p ≤ 6) × (length ss ≡ k.n) × (length old ≡ k.n) × Symbols ss) (sym e)
    (made a.m a.t a.n h.is_code, h.depth, h.long, h.room, h.are_symbols)

pub returns : goal.returns
unfolding soft_refusal soft_answer soft_buffer
returns c =
    let a = c.args in
    let w = code a.m a.t a.n in
    let p = a.depth in
    let ss = a.symbols.now in
    let old = a.codeword.now in
    let (ok, e) = named_code c.in_ok-c.c (soft_refusal w p ss old) w c.in_ok-c.ensures in
    let r = soft_stage w p ss in
    let d = c.decode.ensures in
    record {
      answer = d.answer ∙ ap (λ (k : struct.Code). inr (soft_stage (code_of k) p ss)) e ∙ answered_none _ r ok;
      codeword = d.codeword ∙ ap (λ (k : struct.Code). soft_written (soft_stage (code_of k) p ss) old) e ∙ buffer_none _ old (soft_written r old) ok;
    }
