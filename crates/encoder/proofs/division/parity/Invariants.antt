-- The register is the remainder of the bits that were taken, and so ends as that of the message. Assumes nothing.
use Prim.Native.Nat.{◌≤◌}
use mathlib.Core.Path.{◌≡◌}
use lib.ListN.{length, take, drop}
use Rattle.bch.proofs.encoding.Division.{remainder}
use Rattle.encoder.proofs.division.parity.Given as goal

abbrev pub invariant-loop-bit : goal.invariant-loop-bit
invariant-loop-bit l =
    let left = l.bit-iterator.iter.rest.now in
    (length left ≤ length l.message) × (left ≡ take (length left) l.message) × (l.register ≡ remainder l.r l.g (drop (length left) l.message))
