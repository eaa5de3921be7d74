-- What is added and what is left to add are the syndromes. Assumes nothing.
use mathlib.Core.Path.{◌≡◌}
use lib.Bits.{bit_xor}
use lib.ListN.{drop}
use Rattle.bch.proofs.tables.SyndromeSums.{sums}
use Rattle.receiver.specs.Located.{bits_at}
use Rattle.receiver.proofs.hard_stage.syndromes.Given as goal

abbrev pub invariant-loop-i : goal.invariant-loop-i
invariant-loop-i l =
    bit_xor l.sum (sums l.field.code.m l.field.code.t l.i (drop l.i (bits_at l.shift l.word)))
    ≡ sums l.field.code.m l.field.code.t 0 (bits_at l.shift l.word)
