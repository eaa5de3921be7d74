-- Laws of `flips`, in how many positions two words differ, which is a distance between words, and of `flip`, a word with
-- one bit flipped. Assumes nothing.
use Prim.Native.Nat.{ℕ, zero, suc, ◌+◌, ◌-◌, ◌≤◌}
use native.Mathlib.Omega.{arith}
use mathlib.Core.Path.{◌≡◌, refl, sym, ◌∙◌}
use mathlib.Core.Bool.{Bool, true, false, cond}
use mathlib.Core.List.{List, [], ◌∷◌}
use borrow.Author.Tests.{eqb-true, eqb-false, eq-eqb}
use lib.Dec.{eqb}
use lib.ListN.{length, get_or, set, length-set}
use Rattle.bch.specs.Words.{Bits, flips, flip}
use Rattle.bch.proofs.codes.Entries.{below_set}

-- ---- one position

-- what a test of two numbers says of them
pub data Compared (x y : ℕ) : Bool → Type 0 where
  alike : x ≡ y → Compared x y true
  unlike : (x ≡ y → ⊥) → Compared x y false

-- each test says it
pub compared : (x y : ℕ) → Compared x y (eqb x y)
compared x y = go (eqb x y) refl
  where
    go : (b : Bool) → eqb x y ≡ b → Compared x y b
    go true e = alike (eqb-true x y e)
    go false e = unlike (eqb-false x y e)

-- 1 where two bits differ
abbrev pub differ : ℕ → ℕ → ℕ
differ x y = cond (eqb x y) 0 1

-- it is 0 for the same bit ..
pub differ_same : (x y : ℕ) → x ≡ y → differ x y ≡ 0
differ_same x y e = rw (eq-eqb x y e)

-- .. and for no other, ..
pub differ_zero : (x y : ℕ) → differ x y ≡ 0 → x ≡ y
differ_zero x y = go (eqb x y) (compared x y)
  where
    go : (b : Bool) → Compared x y b → ◌≡◌ {A = ℕ} (cond b 0 1) 0 → x ≡ y
    go true (alike e) h = e
    go false (unlike f) h = absurd (omega arith)

-- .. at most 1, ..
pub differ_most : (x y : ℕ) → differ x y ≤ 1
differ_most x y = go (eqb x y)
  where
    go : (b : Bool) → cond b 0 1 ≤ 1
    go true = omega arith
    go false = omega arith

-- .. the same from both sides, ..
pub differ_sym : (x y : ℕ) → differ x y ≡ differ y x
differ_sym x y = go (eqb x y) (eqb y x) (compared x y) (compared y x)
  where
    go : (b c : Bool) → Compared x y b → Compared y x c → ◌≡◌ {A = ℕ} (cond b 0 1) (cond c 0 1)
    go true true (alike e) (alike f) = refl
    go true false (alike e) (unlike f) = absurd (f (sym e))
    go false true (unlike e) (alike f) = absurd (e (sym f))
    go false false (unlike e) (unlike f) = refl

-- .. and no longer by way of a third
pub differ_triangle : (x y z : ℕ) → differ x z ≤ differ x y + differ y z
differ_triangle x y z = go (eqb x y) (eqb y z) (compared x y) (compared y z)
  where
    go : (b c : Bool) → Compared x y b → Compared y z c → differ x z ≤ cond b 0 1 + cond c 0 1
    go true true (alike e) (alike f) = omega (arith, differ_same x z (e ∙ f))
    go true false (alike e) (unlike f) = omega (arith, differ_most x z)
    go false true (unlike e) (alike f) = omega (arith, differ_most x z)
    go false false (unlike e) (unlike f) = omega (arith, differ_most x z)

-- ---- words

-- flips are the same from both sides
pub flips_sym : (xs ys : List ℕ) → flips xs ys ≡ flips ys xs
unfolding flips
flips_sym [] [] = refl
flips_sym [] (y ∷ ys) = refl
flips_sym (x ∷ xs) [] = refl
flips_sym (x ∷ xs) (y ∷ ys) = omega (arith, differ_sym x y, flips_sym xs ys)

-- a word has no flips from itself
pub flips_same : (xs : List ℕ) → flips xs xs ≡ 0
unfolding flips
flips_same [] = refl
flips_same (x ∷ xs) = omega (arith, differ_same x x refl, flips_same xs)

-- words of one length with no flips are the same
pub flips_zero : (xs ys : List ℕ) → length xs ≡ length ys → flips xs ys ≡ 0 → xs ≡ ys
unfolding flips
flips_zero [] [] l h = refl
flips_zero [] (y ∷ ys) l h = absurd (omega arith)
flips_zero (x ∷ xs) [] l h = absurd (omega arith)
flips_zero (x ∷ xs) (y ∷ ys) l h =
    let a : x ≡ y = differ_zero x y (omega arith) in
    let b : xs ≡ ys = flips_zero xs ys (omega arith) (omega arith) in
    cc

-- flips are no fewer by way of a third word
pub flips_triangle : (xs ys zs : List ℕ) → length xs ≡ length ys → flips xs zs ≤ flips xs ys + flips ys zs
unfolding flips
flips_triangle [] ys zs l = omega arith
flips_triangle (x ∷ xs) [] zs l = absurd (omega arith)
flips_triangle (x ∷ xs) (y ∷ ys) [] l = omega arith
flips_triangle (x ∷ xs) (y ∷ ys) (z ∷ zs) l = omega (arith, differ_triangle x y z, flips_triangle xs ys zs (omega arith))

-- there are at most as many as positions
pub flips_most : (xs ys : List ℕ) → flips xs ys ≤ length xs
unfolding flips
flips_most [] ys = omega arith
flips_most (x ∷ xs) [] = omega arith
flips_most (x ∷ xs) (y ∷ ys) = omega (arith, differ_most x y, flips_most xs ys)

-- ---- one bit flipped

-- a word with one bit flipped is a word ..
pub bits_flip : (xs : List ℕ) (i : ℕ) → Bits xs → Bits (flip xs i)
unfolding flip
bits_flip xs i b = below_set 2 xs i (1 - get_or xs i 0) (omega arith) b

-- .. of the same length
pub length_flip : (xs : List ℕ) (i : ℕ) → length (flip xs i) ≡ length xs
unfolding flip
length_flip xs i = length-set xs i (1 - get_or xs i 0)

flips_set : (xs ys : List ℕ) (i v : ℕ) → flips (set xs i v) ys ≤ 1 + flips xs ys
unfolding flips
flips_set [] ys i v = omega arith
flips_set (x ∷ xs) [] zero v = omega arith
flips_set (x ∷ xs) [] (suc i) v = omega arith
flips_set (x ∷ xs) (y ∷ ys) zero v = omega (arith, differ_most v y)
flips_set (x ∷ xs) (y ∷ ys) (suc i) v = omega (arith, flips_set xs ys i v)

-- and has at most one flip more from any word
pub flips_flip : (xs ys : List ℕ) (i : ℕ) → flips (flip xs i) ys ≤ 1 + flips xs ys
unfolding flip
flips_flip xs ys i = flips_set xs ys i (1 - get_or xs i 0)
