-- Where the errors are: at most t positions whose powers of α add up to a word's syndromes. The hard stage's answer is the
-- word flipped there, and where there are no such positions it has none. Assumes nothing.
use Prim.Native.Nat.{ℕ, zero, suc, ◌+◌, ◌-◌, ◌*◌, ◌≤◌, ◌<◌}
use native.Mathlib.Nat.{zero-mul, one-mul, zero-add}
use native.Mathlib.Omega.{arith}
use mathlib.Core.Path.{◌≡◌, refl, sym, ap, ap₂, ◌∙◌, subst}
use mathlib.Core.List.{List, [], ◌∷◌}
use mathlib.Core.Option.{Option, none, some}
use lib.Bits.{bit_xor, xor_comm}
use lib.ListN.{length}
use Rattle.galois.specs.Field.{alpha}
use Rattle.galois.proofs.Xor.{bit_cases, xor_assoc, xor_left_comm, xor_undo, xor_same}
use Rattle.bch.specs.Words.{Below, Bits, flips, flip, flipped_at, differences}
use Rattle.bch.specs.Code.{Code, Codeword, word_length, power_sum_from, syndrome}
use Rattle.bch.specs.Hard.{repaired}
use Rattle.bch.proofs.codes.Settings.{Lawful}
use Rattle.bch.proofs.codes.SyndromeLaws.{passes→, →passes}
use Rattle.bch.proofs.codes.Counting.{flips_same, flips_sym, bits_flip, length_flip, flips_flip}
use Rattle.bch.proofs.codes.Positions.{Rising, sum_at, length_differences, rising_differences, sum_differences}
use Rattle.bch.proofs.codes.HardLaws.{repaired_some, repaired_near}

-- ---- a word flipped at a list of positions

-- it is a word ..
pub bits_flipped : (P xs : List ℕ) → Bits xs → Bits (flipped_at P xs)
unfolding flipped_at
bits_flipped [] xs b = b
bits_flipped (p ∷ P) xs b = bits_flipped P (flip xs p) (bits_flip xs p b)

-- .. of the same length, ..
pub length_flipped : (P xs : List ℕ) → length (flipped_at P xs) ≡ length xs
unfolding flipped_at
length_flipped [] xs = refl
length_flipped (p ∷ P) xs = length_flipped P (flip xs p) ∙ length_flip xs p

-- .. with at most as many flips more as positions
pub flips_flipped : (P xs ys : List ℕ) → flips (flipped_at P xs) ys ≤ length P + flips xs ys
unfolding flipped_at
flips_flipped [] xs ys = omega arith
flips_flipped (p ∷ P) xs ys = omega (arith, flips_flipped P (flip xs p) ys, flips_flip xs ys p)

flip_bit : (x a s : ℕ) → x < 2 → bit_xor ((1 - x) * a) s ≡ bit_xor a (bit_xor (x * a) s)
flip_bit x a s h =
    bit_cases (λ (x : ℕ). bit_xor ((1 - x) * a) s ≡ bit_xor a (bit_xor (x * a) s))
    (ap₂ (λ (y z : ℕ). bit_xor y (bit_xor z s)) (one-mul a) (sym (zero-mul a)))
    (ap (λ (y : ℕ). bit_xor y s) (zero-mul a) ∙ sym (xor_undo a s) ∙ ap (λ (y : ℕ). bit_xor a (bit_xor y s)) (sym (one-mul a))) x h

-- one flip adds one power of α
pub power_sum_flip : (m i at p : ℕ) (xs : List ℕ) → Bits xs → p < length xs
    → power_sum_from m i at (flip xs p) ≡ bit_xor (alpha m (i * (at + p))) (power_sum_from m i at xs)
unfolding power_sum_from Below flip
power_sum_flip m i at p [] b h = absurd (omega arith)
power_sum_flip m i at zero (x ∷ xs) b h =
    flip_bit x (alpha m (i * at)) (power_sum_from m i (suc at) xs) b.0
    ∙ ap (λ (q : ℕ). bit_xor (alpha m (i * q)) (bit_xor (x * alpha m (i * at)) (power_sum_from m i (suc at) xs))) (omega arith)
power_sum_flip m i at (suc p) (x ∷ xs) b h =
    ap (bit_xor (x * alpha m (i * at))) (power_sum_flip m i (suc at) p xs b.1 (omega arith))
    ∙ xor_left_comm (x * alpha m (i * at)) (alpha m (i * (suc at + p))) (power_sum_from m i (suc at) xs)
    ∙ ap (λ (q : ℕ). bit_xor (alpha m (i * q)) (bit_xor (x * alpha m (i * at)) (power_sum_from m i (suc at) xs))) (omega arith)

-- and flips at a list of positions add the sum over them
pub syndrome_flipped : (m i : ℕ) (P xs : List ℕ) → Bits xs → Below (length xs) P
    → syndrome m i (flipped_at P xs) ≡ bit_xor (sum_at m i P) (syndrome m i xs)
unfolding syndrome flipped_at sum_at Below
syndrome_flipped m i [] xs b r = refl
syndrome_flipped m i (p ∷ P) xs b r =
    syndrome_flipped m i P (flip xs p) (bits_flip xs p b) (subst (λ (n : ℕ). Below n P) (sym (length_flip xs p)) r.1)
    ∙ ap (bit_xor (sum_at m i P)) (power_sum_flip m i 0 p xs b r.0 ∙ ap (λ (q : ℕ). bit_xor (alpha m (i * q)) (power_sum_from m i 0 xs)) (zero-add p))
    ∙ xor_left_comm (sum_at m i P) (alpha m (i * p)) (power_sum_from m i 0 xs)
    ∙ sym (xor_assoc (alpha m (i * p)) (sum_at m i P) (power_sum_from m i 0 xs))

-- ---- positions with given sums

-- at most t positions, whose powers of α add up to s1, and to s3 if t ≥ 2, and to s5 if t = 3
pub record Summed (m t s1 s3 s5 : ℕ) (P : List ℕ) : Type 0 where
  pub few : length P ≤ t
  pub sum1 : sum_at m 1 P ≡ s1
  pub sum3 : 2 ≤ t → sum_at m 3 P ≡ s3
  pub sum5 : 3 ≤ t → sum_at m 5 P ≡ s5

-- such positions, rising and below n
pub record Solution (m t n s1 s3 s5 : ℕ) (P : List ℕ) : Type 0 where
  pub rising : Rising 0 n P
  pub summed : Summed m t s1 s3 s5 P

-- ---- the positions of a word's errors

-- positions whose powers of α add up to the word's syndromes
abbrev pub Located : Code → List ℕ → List ℕ → Type 0
Located c xs P = Solution c.m c.t c.n (syndrome c.m 1 xs) (syndrome c.m 3 xs) (syndrome c.m 5 xs) P

module _ (c : Code) (is_code : Lawful c) (xs : List ℕ) (long : length xs ≡ word_length c) (bits : Bits xs) where
  abbrev Sums : List ℕ → Type 0
  Sums P = Summed c.m c.t (syndrome c.m 1 xs) (syndrome c.m 3 xs) (syndrome c.m 5 xs) P

  flipped_sum : (i : ℕ) (P : List ℕ) → Below c.n P → syndrome c.m i (flipped_at P xs) ≡ bit_xor (sum_at c.m i P) (syndrome c.m i xs)
  flipped_sum i P r = syndrome_flipped c.m i P xs bits (subst (λ (n : ℕ). Below n P) (sym long) r)

  -- flipping at positions that add up to the syndromes makes a codeword
  pub summed_codeword : (P : List ℕ) → Below c.n P → Sums P → Codeword c (flipped_at P xs)
  summed_codeword P r s =
      record {
        long = length_flipped P xs ∙ long;
        bits = bits_flipped P xs bits;
        passes = →passes c (flipped_at P xs) is_code.t_least zeros;
      }
    where
      zeros : (j : ℕ) → j < c.t → syndrome c.m (2 * j + 1) (flipped_at P xs) ≡ 0
      zeros zero h = flipped_sum 1 P r ∙ xor_same (sum_at c.m 1 P) (syndrome c.m 1 xs) s.sum1
      zeros (suc zero) h = flipped_sum 3 P r ∙ xor_same (sum_at c.m 3 P) (syndrome c.m 3 xs) (s.sum3 h)
      zeros (suc (suc zero)) h = flipped_sum 5 P r ∙ xor_same (sum_at c.m 5 P) (syndrome c.m 5 xs) (s.sum5 h)
      zeros (suc (suc (suc j))) h = absurd (omega (arith, is_code.t_most))

  -- a codeword within t flips differs from the word at positions that add up to the syndromes
  pub near_located : (w : List ℕ) → Codeword c w → flips w xs ≤ c.t → Located c xs (differences 0 xs w)
  unfolding syndrome
  near_located w v h =
      record {
        rising = rising_differences 0 c.n xs w (omega arith);
        summed =
            record {
              few = omega (arith, length_differences 0 xs w, flips_sym xs w);
              sum1 = sum 0 is_code.t_least;
              sum3 = λ k. sum 1 k;
              sum5 = λ k. sum 2 k;
            };
      }
    where
      sum : (j : ℕ) → j < c.t → sum_at c.m (2 * j + 1) (differences 0 xs w) ≡ syndrome c.m (2 * j + 1) xs
      sum j k =
          sym (sum_differences c.m (2 * j + 1) 0 xs w bits v.bits (long ∙ sym v.long))
          ∙ ap (bit_xor (syndrome c.m (2 * j + 1) xs)) (passes→ c w is_code.t_most v.passes j k)
          ∙ xor_comm (syndrome c.m (2 * j + 1) xs) 0

  -- ---- the hard stage

  -- where positions add up to the syndromes, its answer is the word flipped there
  pub repaired_summed : (P : List ℕ) → Below c.n P → Sums P → repaired c xs ≡ some (flipped_at P xs)
  repaired_summed P r s =
      repaired_near c is_code xs long bits (flipped_at P xs) (summed_codeword P r s) (omega (arith, flips_flipped P xs xs, flips_same xs, s.few))

  -- where no rising positions do, it has no answer
  pub repaired_unlocated : ((P : List ℕ) → Located c xs P → ⊥) → repaired c xs ≡ none
  repaired_unlocated f = go (repaired c xs) refl
    where
      go : (o : Option (List ℕ)) → repaired c xs ≡ o → repaired c xs ≡ none
      go none e = e
      go (some w) e = let (v, h) = repaired_some c xs long bits w e in absurd (f (differences 0 xs w) (near_located w v h))
