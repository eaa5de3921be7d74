-- The register and then the message are written, as the encoded message has them. Assumes nothing.
use Prim.Native.Nat.{ℕ, ◌*◌}
use native.Mathlib.Nat.{mul-le-mul}
use native.Mathlib.Omega.{arith}
use mathlib.Core.Path.{ap, ap₂, sym, ◌∙◌}
use mathlib.Core.List.{List, [], ◌++◌}
use Rattle.std.proofs.lemmas.List.{take_at}
use Rattle.bch.proofs.codes.Settings.{lawful}
use Rattle.bch.proofs.encoding.GeneratorLaws.{suits_all}
use Rattle.bch.proofs.encoding.EncodeLaws.{encoded_written}
use Rattle.bch.proofs.encoding.Numbers.{word, length_word}
use Rattle.refusal.specs.Named.{code_of}
use Rattle.encoder.proofs.division.write.Goals as goal

pub parity-register-requires : goal.parity-register-requires
parity-register-requires c =
    let a = c.args.c in
    let ok = c.requires.is_code in (
      omega (arith, mul-le-mul ok.m_most ok.t_most),
      rw c.generator_of.ensures (suits_all a.m a.t ok.m_least (omega arith) ok.t_least ok.t_most).degree,
      c.requires.are_bits,
    )

pub returns : goal.returns
returns c =
    let a = c.args in
    let r = a.c.m * a.c.t in
    let register = c.parity-register.result in
    let parity = c.write_parity.ensures ∙ ap (λ (k : ℕ). word k register) c.split_at_mut-low.ensures.front_len in
    ap₂ (λ (xs ys : List ℕ). xs ++ ys) parity c.write_message.ensures
    ∙ ap (λ (xs : List ℕ). xs ++ a.message.now) (sym (take_at (word r register) [] r (length_word r register)))
    ∙ encoded_written (code_of a.c) (lawful _ c.requires.is_code) (omega arith) a.message.now [] _ _ c.requires.are_bits c.requires.long
    c.generator_of.ensures
    c.parity-register.ensures
