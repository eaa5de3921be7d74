-- Laws of numbers in base ten: they are what the library prints, and how many digits they have at most. Assumes nothing.
use Prim.Native.Nat.{ℕ, zero, suc, ◌+◌, ◌/◌, ◌%◌, ◌^◌, ◌≤◌, ◌<◌}
use native.Mathlib.Omega.{arith}
use native.Mathlib.Decide.{dec_lt}
use native.Mathlib.Nat.{pow-succ'}
use mathlib.Core.Path.{◌≡◌, refl, ap, sym, ◌∙◌}
use mathlib.Core.List.{List, [], ◌∷◌, ◌++◌}
use mathlib.Core.Bool.{true, false}
use borrow.Author.Tests.{lt-ltb, le-ltb, ltb-true}
use lib.IntN.{ℤ, pos, negsuc, nat_abs}
use lib.ListN.{length, length-append}
use lib.Signed.{mag, lt_z}
use Rattle.std.specs.Fmt as std
use Rattle.std.proofs.lemmas.Fmt.{AppendsLastDigit, decimal_from_appends, decimal_digit, length-decimal-le}
use Rattle.listing.specs.Text.{digits, decimal, signed}

-- the last digit stands behind those of a tenth
appends : AppendsLastDigit digits
unfolding digits
appends = record {
  one = λ m x h. rw (digits, lt-ltb x 10 h) refl;
  more = λ m x h. rw (digits, le-ltb x 10 h) refl;
}

ten_power : (n : ℕ) → n < 10 ^ n
ten_power zero = omega arith
ten_power (suc n) = omega (arith, ten_power n, pow-succ' 10 n)

-- a number is as the library prints it
pub decimal_lem : (x : ℕ) → x < 2 ^ 64 → std.decimal x ≡ decimal x
unfolding decimal digits
decimal_lem zero h = decimal_digit 0 (omega arith)
decimal_lem (suc k) h = sym (decimal_from_appends digits appends (suc k) (suc k) h (length-decimal-le (suc k) (suc k) (omega arith) (ten_power (suc k)) h))

-- the digits of a number below ten, however many there may be
digits_small : (m x : ℕ) → x < 10 → digits m x ≡ (48 + x) ∷ []
unfolding digits
digits_small zero x h = refl
digits_small (suc m) x h = appends.one m x h

-- as many digits as there may be make no difference, where they are enough
digits_enough : (m n x : ℕ) → x ≤ m → x ≤ n → digits m x ≡ digits n x
digits_enough zero n x hm hn = digits_small 0 x (omega arith) ∙ sym (digits_small n x (omega arith))
digits_enough (suc m) zero x hm hn = digits_small (suc m) x (omega arith) ∙ sym (digits_small 0 x (omega arith))
digits_enough (suc m) (suc n) x hm hn = elim (dec_lt x 10) [
  | yes h ↦ digits_small (suc m) x h ∙ sym (digits_small (suc n) x h)
  | no h ↦ let l : 10 ≤ x = omega arith in
      appends.more m x l ∙ ap (λ (t : List ℕ). t ++ ((48 + x % 10) ∷ [])) (digits_enough m n (x / 10) (omega arith) (omega arith))
      ∙ sym (appends.more n x l)
]

-- a digit, ..
pub decimal_small : (x : ℕ) → x < 10 → decimal x ≡ (48 + x) ∷ []
unfolding decimal
decimal_small x h = digits_small x x h

-- .. or the last one behind those of a tenth
pub decimal_more : (x : ℕ) → 10 ≤ x → decimal x ≡ decimal (x / 10) ++ ((48 + x % 10) ∷ [])
unfolding decimal
decimal_more zero h = absurd (omega arith)
decimal_more (suc k) h =
    appends.more k (suc k) h ∙ ap (λ (t : List ℕ). t ++ ((48 + suc k % 10) ∷ [])) (digits_enough k (suc k / 10) (suc k / 10) (omega arith) (omega arith))

-- and so is one with a sign
pub signed_lem : (z : ℤ) → mag z < 2 ^ 63 → std.signed_decimal z ≡ signed z
unfolding signed
signed_lem (pos n) h = let l : n < 2 ^ 63 = h in decimal_lem n (omega (arith, l))
signed_lem (negsuc n) h = let l : n < 2 ^ 63 = h in ap (λ (t : List ℕ). 45 ∷ t) (decimal_lem (suc n) (omega (arith, l)))

-- the text of a signed number: a hyphen and its size where it is below 0, and else its size
pub below_zero : (z : ℤ) → lt_z z (pos 0) ≡ true → 45 ∷ decimal (nat_abs z) ≡ signed z
unfolding signed
below_zero (pos n) e = absurd (omega (arith, ltb-true n 0 e))
below_zero (negsuc n) e = refl

pub not_below : (z : ℤ) → lt_z z (pos 0) ≡ false → decimal (nat_abs z) ≡ signed z
unfolding signed
not_below (pos n) e = refl
not_below (negsuc n) e = let o : ◌≡◌ {A = ℕ} 0 1 = cc in absurd (omega arith)

-- a number below a power of ten has at most that many digits
pub decimal_long : (n x : ℕ) → x < 10 ^ suc n → length (decimal x) ≤ suc n
decimal_long zero x h = omega (arith, ap length (decimal_small x (omega arith)))
decimal_long (suc n) x h = elim (dec_lt x 10) [
  | yes l ↦ omega (arith, ap length (decimal_small x l))
  | no l ↦ omega (
    arith,
    ap length (decimal_more x (omega arith)),
    length-append (decimal (x / 10)) ((48 + x % 10) ∷ []),
    decimal_long n (x / 10) (omega (arith, pow-succ' 10 (suc n))),
  )
]
