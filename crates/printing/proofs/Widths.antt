-- The answers of the soft stage have room in a line. Assumes nothing.
use Prim.Native.Nat.{ℕ, ◌+◌, ◌^◌, ◌≤◌, ◌<◌}
use native.Mathlib.Omega.{arith}
use mathlib.Core.Path.{◌≡◌, refl, ap}
use lib.IntN.{ℤ}
use lib.ListN.{length}
use lib.Pow.{pow_mono}
use lib.Signed.{mag}
use Rattle.chase.specs.Soft.{Answer, Mark, lost, fair, sure}
use Rattle.chase.proofs.weighing.Bounded.{BoundedAnswer}
use Rattle.listing.specs.Text.{ascii, signed, mark_name}
use Rattle.listing.proofs.Decimals.{decimal_long, signed_lem}
use Rattle.std.proofs.lemmas.Fmt.{length_signed_le}
use Rattle.printing.specs.Layout.{Narrow}

-- a number of up to k digits has room for its sign
pub signed_most : (k : ℕ) (z : ℤ) → mag z + 1 < 10 ^ k → mag z < 2 ^ 63 → length (signed z) ≤ k + 1
signed_most k z few small = omega (arith, length_signed_le k z few small, ap length (signed_lem z small))

-- a mark's name has 4 characters
pub mark_long : (m : Mark) → length (mark_name m) ≡ 4
unfolding mark_name ascii
mark_long lost = refl
mark_long fair = refl
mark_long sure = refl

-- the index has two bytes; a candidate has at most p + t flips, each of at most 15; and there are at most 2^p tries
pub answer_narrow : (i p : ℕ) → i < 65536 → p ≤ 6 → (a : Answer) → BoundedAnswer p a → Narrow i (mark_name a.mark) a.distance a.margin a.tries
answer_narrow i p few depth a s =
    let most : 2 ^ p ≤ 2 ^ 6 = pow_mono depth in
    record {
      index = decimal_long 4 i (omega arith);
      mark = mark_long a.mark;
      distance = decimal_long 3 a.distance (omega (arith, s.distance, s.flips));
      margin = signed_most 4 a.margin (omega (arith, s.margin)) (omega (arith, s.margin));
      tries = decimal_long 1 a.tries (omega (arith, s.tries));
    }
