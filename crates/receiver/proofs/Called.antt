-- The hard call: its check's refusal, or the hard stage's answer. Assumes nothing.
use Prim.Native.Nat.{ℕ}
use mathlib.Core.Path.{◌≡◌, ap, sym, ◌∙◌, subst}
use mathlib.Core.Logic.{inr}
use mathlib.Core.List.{List}
use lib.ListN.{length}
use Rattle.std.specs.Prelude.{Ok, Err}
use Rattle.bch.specs.Words.{Bits}
use Rattle.bch.specs.Code.{code}
use Rattle.bch.specs.Hard.{hard_stage, hard_written}
use Rattle.take_format.specs.Refusal.{bits_check, bits_refusal, hard_refusal}
use Rattle.take_format.specs.Calls.{hard_record, hard_answer, hard_buffer}
use Rattle.take_format.proofs.checks.RefusalLaws.{bits_accepted}
use Rattle.take_format.proofs.checks.CallLaws.{answered_inl, answered_some, answered_none, buffer_some, buffer_none}
use Rattle.refusal.specs.Checked.{answer_of}
use Rattle.refusal.specs.Named.{code_of, named_of, named_by, record_of, Made}
use Rattle.refusal.specs.declared.Code as struct
use Rattle.refusal.specs.declared.Refusal as refusal
use Rattle.refusal.proofs.Laws.{named_code, made}
use Rattle.receiver.specs.Answer.{hard_of}

module _ (m t n : ℕ) (xs old : List ℕ) where
  module _ (r : refusal.Refusal) (e : named_of (Err r) ≡ named_by (code m t n) (bits_check n n xs (length old))) where
    pub refused_told : hard_of (Err r) ≡ hard_answer (code m t n) xs old
    unfolding answer_of bits_refusal hard_of hard_record hard_answer
    refused_told =
        ap hard_record (answered_some _ _ (hard_stage (code m t n) xs) (sym (answered_inl (hard_refusal (code m t n) xs old) (record_of (code m t n)) _ e)))

    pub refused_left : old ≡ hard_buffer (code m t n) xs old
    unfolding answer_of bits_refusal hard_buffer
    refused_left =
        buffer_some _ _ old (hard_written (code m t n) xs old) (sym (answered_inl (hard_refusal (code m t n) xs old) (record_of (code m t n)) _ e))

  module _ (c : struct.Code) (e : named_of (Ok c) ≡ named_by (code m t n) (bits_check n n xs (length old))) where
    pub accepted : Made c × (length xs ≡ c.n) × (length old ≡ c.n) × Bits xs
    unfolding bits_refusal
    accepted =
        let (ok, is) = named_code c (hard_refusal (code m t n) xs old) (code m t n) e in
        let h = bits_accepted (code m t n) n xs old ok in
        subst (λ (k : struct.Code). Made k × (length xs ≡ k.n) × (length old ≡ k.n) × Bits xs) (sym is)
        (made m t n h.is_code, h.long, h.room, h.are_bits)

    pub accepted_told : hard_record (inr (hard_stage (code_of c) xs)) ≡ hard_answer (code m t n) xs old
    unfolding bits_refusal hard_answer
    accepted_told =
        let (ok, is) = named_code c (hard_refusal (code m t n) xs old) (code m t n) e in
        ap (λ (k : struct.Code). hard_record (inr (hard_stage (code_of k) xs))) is
        ∙ ap hard_record (answered_none _ (hard_stage (code m t n) xs) ok)

    pub accepted_written : hard_written (code_of c) xs old ≡ hard_buffer (code m t n) xs old
    unfolding bits_refusal hard_buffer
    accepted_written =
        let (ok, is) = named_code c (hard_refusal (code m t n) xs old) (code m t n) e in
        ap (λ (k : struct.Code). hard_written (code_of k) xs old) is ∙ buffer_none _ old (hard_written (code m t n) xs old) ok

pub ruleset hard_called = (refused_told, refused_left, accepted, accepted_told, accepted_written)
