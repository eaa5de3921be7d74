-- The settings' refusal, or that of what the call takes, or the code. Assumes nothing.
use Prim.Native.Nat.{ℕ}
use mathlib.Core.Path.{ap₂, ◌∙◌}
use Rattle.bch.specs.Code.{code}
use Rattle.take_format.specs.Refusal.{bits_check}
use Rattle.refusal.proofs.Laws.{named_first, named_later, later_err, later_ok}
use Rattle.refusal.proofs.of_word.Goals as goal

pub returns-in_err-c : goal.returns-in_err-c
returns-in_err-c c =
    let a = c.args in
    named_first _ c.in_err-c.field-0.0 (code a.m a.t a.n) _ c.from_residual.ensures.1 c.in_err-c.ensures

pub returns-in_err-bits : goal.returns-in_err-bits
returns-in_err-bits c =
    let a = c.args in
    let x = c.in_ok-c.c in
    let check = c.in_err-bits.ensures ∙ ap₂ (λ (k n : ℕ). bits_check k n a.word.now a.room) c.length.ensures c.length-2.ensures in
    named_later _ x (code a.m a.t a.n) (λ x. bits_check x.n x.n a.word.now a.room) c.in_ok-c.ensures
    (later_err _ c.in_err-bits.field-0.0 x _ c.from_residual-in_err-bits.ensures.1 check)

pub returns : goal.returns
returns c =
    let a = c.args in
    let x = c.in_ok-c.c in
    named_later _ x (code a.m a.t a.n) (λ x. bits_check x.n x.n a.word.now a.room) c.in_ok-c.ensures
    (later_ok x _ (c.in_ok-bits.ensures ∙ ap₂ (λ (k n : ℕ). bits_check k n a.word.now a.room) c.length.ensures c.length-2.ensures))
