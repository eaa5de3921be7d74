-- The settings' refusal, or that of what the call takes, or the code. Assumes nothing.
use mathlib.Core.Path.{sym, subst}
use Rattle.bch.specs.Code.{code}
use Rattle.take_format.specs.Refusal.{first_of, settings, words_check}
use Rattle.take_format.proofs.checks.RefusalLaws.{settings_code}
use Rattle.refusal.specs.Named.{code_of, Made}
use Rattle.refusal.proofs.Laws.{named_code, named_first, named_later, later_err, later_ok, made}
use Rattle.refusal.proofs.of_words.Goals as goal

pub words-requires : goal.words-requires
words-requires c =
    let a = c.args in
    let w = code a.m a.t a.n in
    let (ok, e) = named_code c.in_ok-c.c (first_of (settings w)) w c.in_ok-c.ensures in
    subst Made (sym e) (made a.m a.t a.n (settings_code w ok))

pub returns-in_err-c : goal.returns-in_err-c
returns-in_err-c c =
    let a = c.args in
    named_first _ c.in_err-c.field-0.0 (code a.m a.t a.n) _ c.from_residual.ensures.1 c.in_err-c.ensures

pub returns-in_err-words : goal.returns-in_err-words
returns-in_err-words c =
    let a = c.args in
    let x = c.in_ok-c.c in
    named_later _ x (code a.m a.t a.n) (λ x. words_check (code_of x) a.depth a.count a.all.now a.messages a.marks) c.in_ok-c.ensures
    (later_err _ c.in_err-words.field-0.0 x _ c.from_residual-in_err-words.ensures.1 (c.in_err-words.ensures))

pub returns : goal.returns
returns c =
    let a = c.args in
    let x = c.in_ok-c.c in
    named_later _ x (code a.m a.t a.n) (λ x. words_check (code_of x) a.depth a.count a.all.now a.messages a.marks) c.in_ok-c.ensures
    (later_ok x _ (c.in_ok-words.ensures))
