-- The check's refusal, or the answers of all words. Assumes nothing.
use Prim.Native.Nat.{ℕ}
use native.Mathlib.Omega.{arith}
use mathlib.Core.Path.{◌≡◌, ap, sym, ◌∙◌, subst}
use mathlib.Core.Logic.{inr}
use mathlib.Core.List.{List}
use lib.ListN.{length}
use Rattle.std.proofs.lemmas.Result.{err_from_is_err_and}
use Rattle.bch.specs.Code.{Code, code}
use Rattle.chase.specs.Soft.{Answer}
use Rattle.take_format.specs.Refusal.{words_refusal}
use Rattle.take_format.specs.Batch.{answers_to, messages_of, marks_of, totals_of}
use Rattle.take_format.specs.Calls.{words_answer, messages_buffer, marks_buffer}
use Rattle.take_format.proofs.checks.RefusalLaws.{WordsChecked, words_accepted}
use Rattle.take_format.proofs.checks.CallLaws.{answered_inl, answered_some, answered_none, buffer_some, buffer_none}
use Rattle.refusal.specs.Checked.{answer_of}
use Rattle.refusal.specs.Named.{code_of, record_of, Made}
use Rattle.refusal.specs.declared.Code as struct
use Rattle.refusal.proofs.Laws.{named_code, made}
use Rattle.receiver.proofs.decode_words.Goals as goal

pub returns-in_err-c : goal.returns-in_err-c
unfolding answer_of words_refusal words_answer messages_buffer marks_buffer
returns-in_err-c c =
    let a = c.args in
    let w = code a.m a.t a.n in
    let ms = a.messages.now in
    let ks = a.marks.now in
    let r = answers_to w a.depth a.words a.symbols.now in
    let p = err_from_is_err_and c.from_residual.result c.from_residual.ensures.1 in
    let refused = sym (answered_inl (words_refusal w a.depth a.words a.symbols.now ms ks) (record_of w) _ c.in_err-c.ensures) in
    record {
      answer = rw (p.1, p.2) (answered_some _ _ (totals_of r) refused);
      messages = buffer_some _ _ ms (messages_of w r) refused;
      marks = buffer_some _ _ ks (marks_of r) refused;
    }

pub decode-requires : goal.decode-requires
unfolding words_refusal
decode-requires c =
    let a = c.args in
    let w = code a.m a.t a.n in
    let p = a.depth in
    let ss = a.symbols.now in
    let ms = a.messages.now in
    let ks = a.marks.now in
    let (ok, e) = named_code c.in_ok-c.c (words_refusal w p a.words ss ms ks) w c.in_ok-c.ensures in
    let (is, h) = words_accepted w p a.words ss ms ks ok in
    let as_many = subst (λ (W : ℕ). WordsChecked w p W ss ms ks) (sym h.marks_room) h in
    record {
      made = (subst Made (sym e) (made a.m a.t a.n is), omega (arith, h.marks_room));
      words_checked = subst (λ (k : struct.Code). WordsChecked (code_of k) p (length ks) ss ms ks) (sym e) as_many;
    }

pub returns : goal.returns
unfolding answer_of words_refusal words_answer messages_buffer marks_buffer
returns c =
    let a = c.args in
    let w = code a.m a.t a.n in
    let p = a.depth in
    let W = a.words in
    let ss = a.symbols.now in
    let ms = a.messages.now in
    let ks = a.marks.now in
    let (ok, e) = named_code c.in_ok-c.c (words_refusal w p W ss ms ks) w c.in_ok-c.ensures in
    let many = (words_accepted w p W ss ms ks ok).1.marks_room in
    let all = answers_to w p W ss in
    let same : (f : Code → List Answer → List ℕ) → f (code_of c.in_ok-c.c) (answers_to (code_of c.in_ok-c.c) p (length ks) ss) ≡ f w all
    = λ f.
    ap (λ (k : struct.Code). f (code_of k) (answers_to (code_of k) p (length ks) ss)) e ∙ ap (λ (n : ℕ). f w (answers_to w p n ss)) many in
    let totals =
    ap (λ (k : struct.Code). totals_of (answers_to (code_of k) p (length ks) ss)) e ∙ ap (λ (n : ℕ). totals_of (answers_to w p n ss)) many in
    let d = c.decode.ensures in
    record {
      answer = ap inr (d.answer ∙ totals) ∙ answered_none _ (totals_of all) ok;
      messages = d.messages ∙ same messages_of ∙ buffer_none _ ms (messages_of w all) ok;
      marks = d.marks ∙ same (λ k as'. marks_of as') ∙ buffer_none _ ks (marks_of all) ok;
    }
