-- The first t syndromes of test words in one number: one flip adds the powers of its position. Assumes nothing.
use Prim.Native.Nat.{ℕ, ◌+◌, ◌*◌, ◌^◌, ◌<◌}
use native.Mathlib.Omega.{arith}
use mathlib.Core.Path.{◌≡◌, ap, sym, ◌∙◌}
use mathlib.Core.List.{List, [], ◌∷◌}
use lib.Bits.{bit_xor, xor_comm, xor_zero_r}
use lib.ListN.{length, get_or}
use Rattle.galois.specs.Field.{alpha}
use Rattle.galois.proofs.Packed.{element_lt}
use Rattle.galois.proofs.FieldLaws.{alpha_lt}
use Rattle.galois.proofs.FieldTables.{powers_of}
use Rattle.bch.specs.Words.{Below, Bits, flip, flipped_at, Distinct}
use Rattle.bch.specs.Code.{Code, syndrome}
use Rattle.bch.proofs.codes.Settings.{Lawful, primitive_of}
use Rattle.bch.proofs.codes.Positions.{sum_at}
use Rattle.bch.proofs.codes.SyndromeLaws.{syndrome_lt}
use Rattle.bch.proofs.codes.Flipped.{distinct_at}
use Rattle.bch.proofs.decoding.Located.{syndrome_flipped}
use Rattle.bch.proofs.tables.Placing.{lower_part}
use Rattle.bch.proofs.tables.CodeTables.{lower_xor}
use Rattle.bch.proofs.logarithms.LogAnswers.{syndromes_of}
use Rattle.chase.specs.Soft.{test_word}
use Rattle.chase.proofs.test_words.Reach.{bits_test, length_test}
use Rattle.chase.proofs.test_words.TestWords.{test_high}

-- one flip adds one power, ..
syndrome_flip : (m i p : ℕ) (xs : List ℕ) → Bits xs → p < length xs → syndrome m i (flip xs p) ≡ bit_xor (syndrome m i xs) (alpha m (i * p))
unfolding flipped_at sum_at Below
syndrome_flip m i p xs b h =
    syndrome_flipped m i (p ∷ []) xs b (h, tt)
    ∙ xor_comm (bit_xor (alpha m (i * p)) 0) (syndrome m i xs)
    ∙ ap (bit_xor (syndrome m i xs)) (xor_zero_r (alpha m (i * p)))

module _ (c : Code) (lawful : Lawful c) where
  -- .. so one flip adds the packed powers of its position
  sums_flip : (p : ℕ) (xs : List ℕ) → Bits xs → p < length xs
      → syndromes_of c (flip xs p) ≡ bit_xor (syndromes_of c xs) (lower_part c.t (powers_of c.m p))
  sums_flip p xs b h =
      let m = c.m in
      let prim = primitive_of c lawful in
      let s : (i : ℕ) → syndrome m i xs < 1024 = λ i. element_lt m (syndrome m i xs) lawful.m_most (syndrome_lt m prim i xs b) in
      let a : (e : ℕ) → alpha m e < 1024 = λ e. element_lt m (alpha m e) lawful.m_most (alpha_lt m prim e) in
      rw (syndrome_flip m 1 p xs b h, syndrome_flip m 3 p xs b h, syndrome_flip m 5 p xs b h)
      (sym (lower_xor c.t lawful.t_least lawful.t_most (syndrome m 1 xs) (syndrome m 3 xs) (syndrome m 5 xs)
      (alpha m (1 * p)) (alpha m (3 * p)) (alpha m (5 * p)) (s 1) (s 3) (a (1 * p)) (a (3 * p))))

  -- the packed syndromes of a test word from those without its highest bit
  pub sums_high : (n b j : ℕ) (ws xs : List ℕ) → Bits xs → length xs ≡ n → Distinct n ws → b < length ws → j < 2 ^ b
      → syndromes_of c (test_word (j + 2 ^ b) ws xs) ≡ bit_xor (syndromes_of c (test_word j ws xs)) (lower_part c.t (powers_of c.m (get_or ws b 0)))
  sums_high n b j ws xs bits long d h l =
      ap (syndromes_of c) (test_high b j ws xs h l)
      ∙ sums_flip (get_or ws b 0) (test_word j ws xs) (bits_test j ws xs bits) (omega (arith, length_test j ws xs, distinct_at n b ws d h))
