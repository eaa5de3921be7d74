-- The register's bits are written from the lowest on. What is left of it is halved at each. Assumes nothing.
use Prim.Native.Nat.{◌/◌, ◌^◌}
use mathlib.Core.Path.{◌≡◌}
use lib.ListN.{length}
use lib.Seq.{paste}
use Rattle.bch.proofs.encoding.Numbers.{word}
use Rattle.encoder.proofs.division.write_parity.Given as goal

abbrev pub invariant-loop-bit : goal.invariant-loop-bit
invariant-loop-bit l =
    (l.left ≡ l.register / 2 ^ l.bit-index) × (l.bit-items ≡ paste l.initial.bit-items 0 (word (length l.initial.bit-items) l.register) l.bit-index)
