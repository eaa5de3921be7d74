-- What is located for the syndromes of the bits is where they are flipped. Assumes nothing.
use mathlib.Core.Path.{ap, ◌∙◌}
use Rattle.bch.proofs.logarithms.LogAnswers.{syndromes_of, syndromes_in}
use Rattle.refusal.specs.Named.{code_of}
use Rattle.receiver.proofs.HighBits.{low_bits}
use Rattle.receiver.proofs.hard_stage.decode_in.Goals as goal

pub located-requires : goal.located-requires
located-requires c =
    let a = c.args in
    let is = c.syndromes-s.ensures ∙ ap (syndromes_of (code_of a.c)) (low_bits a.bits.now) in
    let e = c.fill_field.ensures in
    (e.0, e.1, syndromes_in (code_of a.c) c.requires.made.0.lawful a.bits.now c.requires.bits_len.2 _ is)

pub write-requires-clause-repairs : goal.write-requires-clause-repairs
write-requires-clause-repairs c =
    let a = c.args in
    let is = c.syndromes-s.ensures ∙ ap (syndromes_of (code_of a.c)) (low_bits a.bits.now) in
    c.located.ensures a.bits.now c.requires.bits_len.0 c.requires.bits_len.2 is
