-- The check's refusal, or the codeword. Assumes nothing.
use mathlib.Core.Path.{sym, ◌∙◌, subst}
use borrow.Author.Rules.{rules}
use Rattle.bch.specs.Code.{code, message_length}
use Rattle.bch.specs.Encode.{encoded}
use Rattle.take_format.specs.Refusal.{bits_refusal, encode_refusal}
use Rattle.take_format.specs.Calls.{answered, unless_refused, encode_buffer}
use Rattle.take_format.proofs.checks.RefusalLaws.{BitsAccepted, bits_accepted}
use Rattle.take_format.proofs.checks.CallLaws.{buffer_some}
use Rattle.refusal.specs.Checked.{answer_of, checked}
use Rattle.refusal.specs.Named.{code_of}
use Rattle.refusal.specs.declared.Code as struct
use Rattle.refusal.proofs.Laws.{named_code, named_refused, check_handed_on}
use Rattle.encoder.proofs.encode.Goals as goal

pub returns-in_err-c : goal.returns-in_err-c
unfolding bits_refusal encode_buffer
returns-in_err-c c =
    let a = c.args in
    let w = code a.m a.t a.n in
    let old = a.codeword.now in
    let r = c.in_err-c.field-0.0 in
    let refused = named_refused r (encode_refusal w a.message.now old) _ c.in_err-c.ensures in
    record {
      answer = check_handed_on _ r c.from_residual.ensures.1 ∙ sym refused;
      codeword = buffer_some _ _ old (encoded w a.message.now) refused;
    }

pub write-requires : goal.write-requires
unfolding bits_refusal
write-requires c =
    let a = c.args in
    let w = code a.m a.t a.n in
    let xs = a.message.now in
    let old = a.codeword.now in
    let (ok, e) = named_code c.in_ok-c.c (encode_refusal w xs old) w c.in_ok-c.ensures in
    subst (λ (k : struct.Code). BitsAccepted (code_of k) (message_length (code_of k)) xs old) (sym e) (bits_accepted w (message_length w) xs old ok)

pub returns : goal.returns
unfolding answer_of answered checked bits_refusal encode_buffer unless_refused
returns c = search (rules, named_code)
