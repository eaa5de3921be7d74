-- Lists of positions: rising ones, where two words differ, what their powers of α add up to, and those powers as elements
-- of the field, none of them 0 and no two equal. Assumes nothing.
use Prim.Native.Nat.{ℕ, suc, ◌+◌, ◌-◌, ◌*◌, ◌^◌, ◌≤◌, ◌<◌}
use native.Mathlib.Nat.{zero-mul, one-mul}
use native.Mathlib.Omega.{arith}
use mathlib.Core.Path.{◌≡◌, refl, sym, ap, ap₂, ◌∙◌, subst}
use mathlib.Core.Bool.{Bool, true, false, cond}
use mathlib.Core.List.{List, [], ◌∷◌, map, Memᴰ}
use borrow.Author.Tests.{le-ltb}
use lib.Bits.{bit_xor, xor_self}
use lib.Dec.{eqb}
use lib.ListN.{length, length-map}
use Rattle.galois.specs.Field.{alpha, mul}
use Rattle.galois.proofs.Xor.{bit_cases, xor_swap, xor_bits_mul}
use Rattle.galois.proofs.Primitive.{Primitive}
use Rattle.galois.proofs.FieldLaws.{alpha_nonzero, mul_alpha}
use Rattle.galois.proofs.FieldOf.{El, field, power, power_once}
use Rattle.bch.specs.Words.{Below, Bits, flips, flip, flipped_at, differences}
use Rattle.bch.specs.Code.{power_sum_from}
use Rattle.bch.proofs.codes.Trials.{mapped}
use Rattle.bch.proofs.codes.Behind.{flip_from, flipped_from, flipped_whole}
use Rattle.bch.proofs.codes.Counting.{Compared, alike, unlike, compared}
use Rattle.bch.proofs.algebra.Peterson.{cube, fifth}
use Rattle.bch.proofs.algebra.Unique.{Errors, total, power1, power3, power5}

-- ---- rising positions

-- each position is at least `low`, below `high` and above the one before
unfoldable pub Rising : ℕ → ℕ → List ℕ → Type 0
Rising low high [] = Unit {0}
Rising low high (p ∷ P) = (low ≤ p) × (p < high) × Rising (suc p) high P

-- a member is within the bounds
pub rising_member : (low high : ℕ) (P : List ℕ) → Rising low high P → (p : ℕ) → Memᴰ p P → (low ≤ p) × (p < high)
unfolding Rising
rising_member low high [] r p x'' = elim x'' [ ]
rising_member low high (q ∷ P) r p (Memᴰ.head e) = (omega (arith, r.0), omega (arith, r.1))
rising_member low high (q ∷ P) r p (Memᴰ.tail k) =
    let i : (suc q ≤ p) × (p < high) = rising_member (suc q) high P r.2 p k in
    (omega (arith, r.0), i.1)

-- a lower bound may be lowered
pub rising_from : (low low' high : ℕ) (P : List ℕ) → low ≤ low' → Rising low' high P → Rising low high P
unfolding Rising
rising_from low low' high [] h r = tt
rising_from low low' high (p ∷ P) h r = (omega (arith, r.0), r.1, r.2)

-- ---- sums of powers

-- the field sum of α^(i·position) over a list of positions
unfoldable pub sum_at : ℕ → ℕ → List ℕ → ℕ
sum_at m i [] = 0
sum_at m i (p ∷ P) = bit_xor (alpha m (i * p)) (sum_at m i P)

-- ---- where two words differ

-- there are as many as flips
pub length_differences : (at : ℕ) (xs ys : List ℕ) → length (differences at xs ys) ≡ flips xs ys
unfolding differences flips
length_differences at [] ys = refl
length_differences at (x ∷ xs) [] = refl
length_differences at (x ∷ xs) (y ∷ ys) = go (eqb x y) (length_differences (suc at) xs ys)
  where
    go : (b : Bool) → length (differences (suc at) xs ys) ≡ flips xs ys
        → length (cond b (differences (suc at) xs ys) (at ∷ differences (suc at) xs ys)) ≡ cond b 0 1 + flips xs ys
    go true e = omega arith
    go false e = omega arith

-- they rise
pub rising_differences : (at high : ℕ) (xs ys : List ℕ) → at + length xs ≤ high → Rising at high (differences at xs ys)
unfolding differences Rising
rising_differences at high [] ys h = tt
rising_differences at high (x ∷ xs) [] h = tt
rising_differences at high (x ∷ xs) (y ∷ ys) h = go (eqb x y) (rising_differences (suc at) high xs ys (omega arith))
  where
    go : (b : Bool) → Rising (suc at) high (differences (suc at) xs ys)
        → Rising at high (cond b (differences (suc at) xs ys) (at ∷ differences (suc at) xs ys))
    go true r = rising_from at (suc at) high (differences (suc at) xs ys) (omega arith) r
    go false r = (omega arith, omega arith, r)

-- ---- a word flipped where it differs from another is the other

flip_first : (at x : ℕ) (xs : List ℕ) → flip_from at at (x ∷ xs) ≡ (1 - x) ∷ xs
unfolding flip_from flip
flip_first at x xs =
    let e : at - at ≡ 0 = omega arith in
    rw (le-ltb at at (omega arith), e) refl

flip_tail : (at p x : ℕ) (xs : List ℕ) → suc at ≤ p → flip_from at p (x ∷ xs) ≡ x ∷ flip_from (suc at) p xs
unfolding flip_from flip
flip_tail at p x xs h =
    let e : p - at ≡ suc (p - suc at) = omega arith in
    rw (le-ltb p at (omega arith), le-ltb p (suc at) h, e) refl

-- positions behind the first bit leave it
flipped_tail : (at high x : ℕ) (P xs : List ℕ) → Rising (suc at) high P → flipped_from at P (x ∷ xs) ≡ x ∷ flipped_from (suc at) P xs
unfolding flipped_from Rising
flipped_tail at high x [] xs r = refl
flipped_tail at high x (p ∷ P) xs r =
    ap (flipped_from at P) (flip_tail at p x xs r.0)
    ∙ flipped_tail at high x P (flip_from (suc at) p xs) (rising_from (suc at) (suc p) high P (omega (arith, r.0)) r.2)

flipped_from_lem : (at : ℕ) (xs ys : List ℕ) → Bits xs → Bits ys → length xs ≡ length ys → flipped_from at (differences at xs ys) xs ≡ ys
unfolding Below flipped_from differences
flipped_from_lem at [] [] hx hy l = refl
flipped_from_lem at [] (y ∷ ys) hx hy l = absurd (omega arith)
flipped_from_lem at (x ∷ xs) [] hx hy l = absurd (omega arith)
flipped_from_lem at (x ∷ xs) (y ∷ ys) hx hy l = go (eqb x y) (compared x y) (flipped_from_lem (suc at) xs ys hx.1 hy.1 (omega arith))
  where
    D : List ℕ
    D = differences (suc at) xs ys

    r : Rising (suc at) (suc at + length xs) D
    r = rising_differences (suc at) (suc at + length xs) xs ys (omega arith)

    go : (b : Bool) → Compared x y b → flipped_from (suc at) D xs ≡ ys → flipped_from at (cond b D (at ∷ D)) (x ∷ xs) ≡ y ∷ ys
    go true (alike e) i = flipped_tail at (suc at + length xs) x D xs r ∙ ap₂ (λ (z : ℕ) (zs : List ℕ). z ∷ zs) e i
    go false (unlike n) i =
        let e : 1 - x ≡ y = omega (arith, hx.0, hy.0) in
        ap (flipped_from at D) (flip_first at x xs) ∙ flipped_tail at (suc at + length xs) (1 - x) D xs r ∙ ap₂ (λ (z : ℕ) (zs : List ℕ). z ∷ zs) e i

pub flipped_differences : (xs ys : List ℕ) → Bits xs → Bits ys → length xs ≡ length ys → flipped_at (differences 0 xs ys) xs ≡ ys
flipped_differences xs ys hx hy l = sym (flipped_whole (differences 0 xs ys) xs) ∙ flipped_from_lem 0 xs ys hx hy l

-- ---- and their sums

-- bits that are not equal add up to 1
unlike_bits : (x y : ℕ) → x < 2 → y < 2 → (x ≡ y → ⊥) → bit_xor x y ≡ 1
unlike_bits x y hx hy =
    bit_cases (λ (x : ℕ). (x ≡ y → ⊥) → bit_xor x y ≡ 1)
    (bit_cases (λ (y : ℕ). (0 ≡ y → ⊥) → bit_xor 0 y ≡ 1) (λ n. absurd (n refl)) (λ n. refl) y hy)
    (bit_cases (λ (y : ℕ). (1 ≡ y → ⊥) → bit_xor 1 y ≡ 1) (λ n. refl) (λ n. absurd (n refl)) y hy) x hx

-- the power sums of two words add up to the sum over the positions where they differ
pub sum_differences : (m i at : ℕ) (xs ys : List ℕ) → Bits xs → Bits ys → length xs ≡ length ys
    → bit_xor (power_sum_from m i at xs) (power_sum_from m i at ys) ≡ sum_at m i (differences at xs ys)
unfolding power_sum_from Below differences sum_at
sum_differences m i at [] [] hx hy l = refl
sum_differences m i at [] (y ∷ ys) hx hy l = absurd (omega arith)
sum_differences m i at (x ∷ xs) [] hx hy l = absurd (omega arith)
sum_differences m i at (x ∷ xs) (y ∷ ys) hx hy l =
    xor_swap (x * alpha m (i * at)) (power_sum_from m i (suc at) xs) (y * alpha m (i * at)) (power_sum_from m i (suc at) ys)
    ∙ ap₂ bit_xor (sym (xor_bits_mul x y (alpha m (i * at)) hx.0 hy.0)) (sum_differences m i (suc at) xs ys hx.1 hy.1 (omega arith))
    ∙ go (eqb x y) (compared x y)
  where
    D : List ℕ
    D = differences (suc at) xs ys

    go : (b : Bool) → Compared x y b → bit_xor (bit_xor x y * alpha m (i * at)) (sum_at m i D) ≡ sum_at m i (cond b D (at ∷ D))
    go true (alike e) =
        ap (λ (z : ℕ). bit_xor z (sum_at m i D)) (ap (λ (z : ℕ). z * alpha m (i * at)) (ap (λ (z : ℕ). bit_xor z y) e ∙ xor_self y)
        ∙ zero-mul (alpha m (i * at)))
    go false (unlike n) =
        ap (λ (z : ℕ). bit_xor z (sum_at m i D)) (ap (λ (z : ℕ). z * alpha m (i * at)) (unlike_bits x y hx.0 hy.0 n) ∙ one-mul (alpha m (i * at)))

-- ---- the powers as elements

module _ (m : ℕ) (g : Primitive m) where
  -- the elements α^position
  abbrev pub locators : List ℕ → List (El m)
  locators P = map (power m g) P

  -- there are as many as positions
  pub length_locators : (P : List ℕ) → length (locators P) ≡ length P
  length_locators P = length-map P (power m g)

  -- positions below the period have distinct locators
  pub locator_member : (n : ℕ) → n ≤ 2 ^ m - 1 → (p : ℕ) (P : List ℕ) → p < n → ((q : ℕ) → Memᴰ q P → q < n)
      → Memᴰ (power m g p) (locators P) → Memᴰ p P
  locator_member n h p P l f k =
      let (q, i, e) = mapped (power m g) P k in
      let b : q < n = f q i in
      let s : p ≡ q = power_once m g p q (omega arith) (omega arith) e in
      subst (λ (x : ℕ). Memᴰ x P) (sym s) i

  -- so that the locators of rising positions are errors: not 0, and distinct
  pub errors_locators : (low n : ℕ) → n ≤ 2 ^ m - 1 → (P : List ℕ) → Rising low n P → Errors (field m g) (locators P)
  unfolding Rising
  errors_locators low n h [] r = tt
  errors_locators low n h (p ∷ P) r = (
    λ e. alpha_nonzero m g p (λ i. (e i).0),
    λ k. again (locator_member n h p P r.1 (λ q i. (rising_member (suc p) n P r.2 q i).1) k),
    errors_locators (suc p) n h P r.2,
  )
    where
      again : Memᴰ p P → ⊥
      again k = let i = rising_member (suc p) n P r.2 p k in omega arith

  -- the cube of a power
  pub cube_power : (p : ℕ) → (cube (field m g) (power m g p)).0 ≡ alpha m (3 * p)
  cube_power p =
      ap (λ (x : ℕ). mul m x (alpha m p)) (mul_alpha m g p p) ∙ mul_alpha m g (p + p) p ∙ ap (alpha m) (omega arith)

  -- the fifth power of a power
  pub fifth_power : (p : ℕ) → (fifth (field m g) (power m g p)).0 ≡ alpha m (5 * p)
  fifth_power p =
      ap (λ (x : ℕ). mul m (mul m x (alpha m p)) (alpha m p)) (cube_power p)
      ∙ ap (λ (x : ℕ). mul m x (alpha m p)) (mul_alpha m g (3 * p) p) ∙ mul_alpha m g (3 * p + p) p ∙ ap (alpha m) (omega arith)

  total_locators : (f : El m → El m) (i : ℕ) → ((p : ℕ) → (f (power m g p)).0 ≡ alpha m (i * p)) → (P : List ℕ)
      → (total (field m g) f (locators P)).0 ≡ sum_at m i P
  unfolding sum_at
  total_locators f i h [] = refl
  total_locators f i h (p ∷ P) = ap₂ bit_xor (h p) (total_locators f i h P)

  -- S1 of the locators is the sum over the positions
  pub power1_locators : (P : List ℕ) → (power1 (field m g) (locators P)).0 ≡ sum_at m 1 P
  power1_locators P = total_locators (λ a. a) 1 (λ p. ap (alpha m) (sym (one-mul p))) P

  -- S3 of the locators is the sum of the cubes
  pub power3_locators : (P : List ℕ) → (power3 (field m g) (locators P)).0 ≡ sum_at m 3 P
  power3_locators P = total_locators (cube (field m g)) 3 cube_power P

  -- S5 of the locators is the sum of the fifth powers
  pub power5_locators : (P : List ℕ) → (power5 (field m g) (locators P)).0 ≡ sum_at m 5 P
  power5_locators P = total_locators (fifth (field m g)) 5 fifth_power P
