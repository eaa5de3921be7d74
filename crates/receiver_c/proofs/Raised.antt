-- A margin that 2^15 is added to, as a signed number of 32 bits, is no less than 0 and is the packed one. Assumes nothing.
use Prim.Native.Nat.{suc, ◌<◌}
use native.Mathlib.Omega.{arith}
use mathlib.Core.Path.{◌≡◌, ap, ◌∙◌}
use borrow.Author.Rules.{sfits_of}
use borrow.Author.Tests.{le-ltb}
use lib.IntN.{ℤ, pos, negsuc, nat_abs, ◌+ℤ◌}
use lib.Signed.{mag}
use mir.Syntax.{w32}
use mir.Val.{SFits, to_z, of_z}
use mir.Facts.{to_z-of_z}
use Rattle.receiver_c.specs.Packed.{margin_packed}

-- the packed margin has 16 bits
pub margin_lt : (z : ℤ) → mag z < 32768 → margin_packed z < 65536
unfolding margin_packed
margin_lt (pos a) h = omega arith
margin_lt (negsuc a) h = omega arith

-- a margin that is handed on is the same
pub same_margin : (z : ℤ) → SFits w32 z → margin_packed (to_z w32 (of_z w32 z)) ≡ margin_packed z
same_margin z f = ap margin_packed (to_z-of_z f)

sum_is : (z : ℤ) → mag z < 32768 → z +ℤ pos 32768 ≡ pos (margin_packed z)
unfolding margin_packed
sum_is (pos a) h = ap pos (omega arith)
sum_is (negsuc a) h = rw (le-ltb 32768 (suc a) (omega arith)) (ap pos (omega arith))

-- the sum, as it is made of a number that is read
abbrev pub raised : ℤ → ℤ
raised z = to_z w32 (of_z w32 z) +ℤ pos 32768

module _ (z : ℤ) (h : mag z < 32768) (f : SFits w32 z) where
  raised_is : raised z ≡ pos (margin_packed z)
  raised_is = ap (λ (x : ℤ). x +ℤ pos 32768) (to_z-of_z f) ∙ sum_is z h

  fits : SFits w32 (pos (margin_packed z))
  fits = sfits_of (omega (arith, margin_lt z h))

  read_is : to_z w32 (of_z w32 (raised z)) ≡ pos (margin_packed z)
  read_is = ap (λ (x : ℤ). to_z w32 (of_z w32 x)) raised_is ∙ to_z-of_z fits

  -- .. is the packed margin
  pub raised_reads : nat_abs (to_z w32 (of_z w32 (raised z))) ≡ margin_packed z
  raised_reads = ap nat_abs read_is
