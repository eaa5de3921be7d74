-- The register's bits are written from the lowest on. What is left of it is halved at each. Assumes nothing.
use Prim.Native.Nat.{ℕ, ◌/◌, ◌%◌}
use native.Mathlib.Nat.{div-one}
use native.Mathlib.Omega.{arith}
use mathlib.Core.Path.{ap, sym, ◌∙◌}
use mathlib.Core.List.{[]}
use lib.ListN.{length}
use lib.Pow.{shr-shr}
use lib.Seq.{paste-zero}
use Rattle.bch.proofs.codes.Copies.{copied_more, copied_end}
use Rattle.bch.proofs.encoding.Numbers.{word, length_word, word_at}
use Rattle.encoder.proofs.division.write_parity.Goals as goal

pub loop-bit-init : goal.loop-bit-init
loop-bit-init c = (sym (div-one _), paste-zero c.args.parity.now 0 [])

pub loop-bit-preserved : goal.loop-bit-preserved
loop-bit-preserved c =
    let l = c.loop-bit in
    let i = l.bit-index in
    let d = c.args.parity.now in
    let a = c.args.register in
    let bit = ap (λ (x : ℕ). x % 2) l.invariant.0 ∙ sym (word_at (length d) a i (omega arith)) in (
      ap (λ (x : ℕ). x / 2) l.invariant.0 ∙ shr-shr a i 1,
      copied_more d 0 (word (length d) a) i i (omega arith) l.bit-items l.invariant.1 _ (omega arith) (omega (arith, length_word (length d) a)) bit,
    )

pub returns : goal.returns
returns c =
    let l = c.loop-bit in
    let i = l.bit-index in
    let d = c.args.parity.now in
    let a = c.args.register in
    copied_end d 0 (word (length d) a) i i (omega arith) l.bit-items l.invariant.1 (omega (arith, length_word (length d) a)) (omega arith)
