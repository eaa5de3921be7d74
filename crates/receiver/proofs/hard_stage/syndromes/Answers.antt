-- What is added and what is left to add are the syndromes. Assumes nothing.
use native.Mathlib.Omega.{arith}
use mathlib.Core.Path.{sym, ◌∙◌}
use Rattle.bch.specs.Code.{syndrome}
use Rattle.bch.proofs.codes.Settings.{primitive_of}
use Rattle.bch.proofs.codes.Entries.{below_at}
use Rattle.bch.proofs.tables.SyndromeSums.{sums_acc, sums_end}
use Rattle.refusal.specs.Named.{code_of}
use Rattle.receiver.specs.Located.{bits_at}
use Rattle.receiver.proofs.HighBits.{bits_long, bit_at}
use Rattle.receiver.proofs.hard_stage.syndromes.Goals as goal

pub where_set-sum-requires : goal.where_set-sum-requires
where_set-sum-requires c =
    let a = c.args in
    let i = c.loop-i.i in
    omega (arith, below_at 1 (bits_at a.shift a.word.now) i c.requires.2, bit_at a.shift a.word.now i)

pub loop-i-preserved : goal.loop-i-preserved
loop-i-preserved c =
    let a = c.args in
    let f = a.field.now in
    let k = f.fielded.made.lawful in
    let l = c.loop-i in
    let xs = bits_at a.shift a.word.now in
    let power = c.powers_of.ensures ∙ f.fielded.field.powers l.i (omega (arith, k.n_most)) in
    rw c.where_set-sum.ensures
    (sums_acc f.code.m (primitive_of (code_of f.code) k) k.m_most f.code.t k.t_least k.t_most xs c.requires.2 l.i l.sum _ _
    (omega (arith, bits_long a.shift a.word.now)) (sym (bit_at a.shift a.word.now l.i)) power l.invariant)

pub returns : goal.returns
unfolding syndrome
returns c =
    let a = c.args in
    let f = a.field.now in
    sums_end f.code.m f.code.t c.loop-i.i _ (bits_at a.shift a.word.now)
    (omega (arith, bits_long a.shift a.word.now)) c.loop-i.invariant
