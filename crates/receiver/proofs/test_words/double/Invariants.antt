-- Below i the back is each of the test words with one flip more. Assumes nothing.
use Prim.Native.Nat.{ℕ, ◌+◌, ◌<◌}
use mathlib.Core.Path.{◌≡◌}
use lib.Bits.{bit_xor}
use lib.ListN.{get_or}
use Rattle.receiver.proofs.test_words.double.Given as goal

abbrev pub invariant-loop-i : goal.invariant-loop-i
invariant-loop-i l = (k : ℕ) → k < l.i → get_or l.test-items k 0 ≡ bit_xor (get_or l.made k 0) l.v + l.w
