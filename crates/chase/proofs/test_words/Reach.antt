-- Laws of the test words: they are words of the received word's length, and one of them agrees with a given word at every
-- weak position. Assumes nothing.
use Prim.Native.Nat.{ℕ, zero, suc, ◌+◌, ◌*◌, ◌/◌, ◌%◌, ◌^◌, ◌≤◌, ◌<◌}
use native.Mathlib.Omega.{arith}
use native.Mathlib.Nat.{pow-suc}
use mathlib.Core.Path.{◌≡◌, refl, sym, ap, ◌∙◌}
use mathlib.Core.Bool.{Bool, true, false, cond}
use mathlib.Core.List.{List, [], ◌∷◌}
use borrow.Author.Tests.{eq-eqb, ne_eqb}
use lib.Dec.{eqb}
use lib.ListN.{length, get_or, set, length-map, get_or-map}
use lib.Seq.{set-get_or}
use Rattle.bch.specs.Words.{Below, Bits, flips, flip, is_in}
use Rattle.bch.proofs.codes.Entries.{below_at, below_set}
use Rattle.bch.proofs.codes.Counting.{Compared, alike, unlike, compared, bits_flip, length_flip}
use Rattle.bch.proofs.codes.HardLaws.{other_of}
use Rattle.chase.specs.Soft.{hard_bits, reliabilities, test_word}
use Rattle.chase.specs.Word.{Symbols, flips_beyond}

-- ---- a test word is a word

-- the hard bits of symbols are bits, ..
pub bits_hard : (ss : List ℕ) → Symbols ss → Bits (hard_bits ss)
unfolding Below hard_bits
bits_hard [] h = tt
bits_hard (s ∷ ss) h = (omega arith, bits_hard ss h.1)

-- .. as many as symbols, ..
pub length_hard : (ss : List ℕ) → length (hard_bits ss) ≡ length ss
unfolding hard_bits
length_hard ss = length-map ss (λ (s : ℕ). s / 16)

-- .. and so are the reliabilities
pub length_reliabilities : (ss : List ℕ) → length (reliabilities ss) ≡ length ss
unfolding reliabilities
length_reliabilities ss = length-map ss (λ (s : ℕ). s % 16)

-- a hard bit is read off its symbol
pub hard_at : (ss : List ℕ) (i : ℕ) → get_or (hard_bits ss) i 0 ≡ get_or ss i 0 / 16
unfolding hard_bits
hard_at ss i = get_or-map (λ (s : ℕ). s / 16) ss i 0

-- one flip, or none
bits_step : (c : Bool) (w : ℕ) (xs : List ℕ) → Bits xs → Bits (cond c (flip xs w) xs)
bits_step true w xs b = bits_flip xs w b
bits_step false w xs b = b

length_step : (c : Bool) (w : ℕ) (xs : List ℕ) → length (cond c (flip xs w) xs) ≡ length xs
length_step true w xs = length_flip xs w
length_step false w xs = refl

-- a test word is a word ..
pub bits_test : (j : ℕ) (ws xs : List ℕ) → Bits xs → Bits (test_word j ws xs)
unfolding test_word
bits_test j [] xs b = b
bits_test j (w ∷ ws) xs b = bits_test (j / 2) ws (cond (eqb (j % 2) 1) (flip xs w) xs) (bits_step (eqb (j % 2) 1) w xs b)

-- .. of the same length
pub length_test : (j : ℕ) (ws xs : List ℕ) → length (test_word j ws xs) ≡ length xs
unfolding test_word
length_test j [] xs = refl
length_test j (w ∷ ws) xs = length_test (j / 2) ws (cond (eqb (j % 2) 1) (flip xs w) xs) ∙ length_step (eqb (j % 2) 1) w xs

-- ---- the positions beyond

beyond_none : (at : ℕ) (xs ys : List ℕ) → flips xs ys ≡ flips_beyond at [] xs ys
unfolding flips flips_beyond
beyond_none at [] ys = refl
beyond_none at (x ∷ xs) [] = refl
beyond_none at (x ∷ xs) (y ∷ ys) = omega (arith, beyond_none (suc at) xs ys)

-- a position below the first changes nothing
beyond_low : (w : ℕ) (ws : List ℕ) (at : ℕ) (xs ys : List ℕ) → w < at → flips_beyond at (w ∷ ws) xs ys ≡ flips_beyond at ws xs ys
unfolding flips_beyond
beyond_low w ws at [] ys h = refl
beyond_low w ws at (x ∷ xs) [] h = refl
beyond_low w ws at (x ∷ xs) (y ∷ ys) h =
    rw (ne_eqb at w (λ e. omega arith)) (omega (arith, beyond_low w ws (suc at) xs ys (omega arith)))

-- a position where the words are made the same need not be counted
beyond_set : (w i : ℕ) (ws : List ℕ) (at : ℕ) (xs ys : List ℕ) → w ≡ at + i
    → flips_beyond at ws xs (set ys i (get_or xs i 0)) ≤ flips_beyond at (w ∷ ws) xs ys
unfolding flips_beyond
beyond_set w i ws at [] ys e = omega arith
beyond_set w i ws at (x ∷ xs) [] e = omega arith
beyond_set w zero ws at (x ∷ xs) (y ∷ ys) e = go (is_in at ws)
  where
    go : (c : Bool) → cond c 0 (cond (eqb x x) 0 1) + flips_beyond (suc at) ws xs ys
        ≤ cond (cond (eqb at w) true c) 0 (cond (eqb x y) 0 1) + flips_beyond (suc at) (w ∷ ws) xs ys
    go true = omega (arith, beyond_low w ws (suc at) xs ys (omega arith))
    go false = rw (eq-eqb x x refl) (omega (arith, beyond_low w ws (suc at) xs ys (omega arith)))
beyond_set w (suc i) ws at (x ∷ xs) (y ∷ ys) e =
    rw (ne_eqb at w (λ q. omega arith)) (omega (arith, beyond_set w i ws (suc at) xs ys (omega arith)))

-- ---- the test word that reaches s

-- one step: with the right bit, the word agrees with s at position w
step : (w : ℕ) (s xs : List ℕ) → Bits s → Bits xs → (b : ℕ) × (b < 2) × (cond (eqb b 1) (flip xs w) xs ≡ set xs w (get_or s w 0))
unfolding flip
step w s xs hs hx = go (eqb (get_or s w 0) (get_or xs w 0)) (compared (get_or s w 0) (get_or xs w 0))
  where
    go : (c : Bool) → Compared (get_or s w 0) (get_or xs w 0) c → (b : ℕ) × (b < 2) × (cond (eqb b 1) (flip xs w) xs ≡ set xs w (get_or s w 0))
    go true (alike e) = (0, omega arith, rw e (sym (set-get_or xs w 0)))
    go false (unlike n) = (1, omega arith, ap (set xs w) (sym (other_of (get_or xs w 0) (get_or s w 0) (below_at 1 xs w hx) (below_at 1 s w hs) n)))

test_step : (j b w : ℕ) (ws xs ys : List ℕ) → b < 2 → cond (eqb b 1) (flip xs w) xs ≡ ys → test_word (2 * j + b) (w ∷ ws) xs ≡ test_word j ws ys
unfolding test_word
test_step j b w ws xs ys h e =
    let d : (2 * j + b) / 2 ≡ j = omega arith in
    let m : (2 * j + b) % 2 ≡ b = omega arith in
    rw (d, m, e)

-- some test word differs from s only beyond the weak positions
pub reach : (ws s xs : List ℕ) → Bits s → Bits xs → (j : ℕ) × (j < 2 ^ length ws) × (flips s (test_word j ws xs) ≤ flips_beyond 0 ws s xs)
unfolding test_word
reach [] s xs hs hx = (0, omega arith, omega (arith, beyond_none 0 s xs))
reach (w ∷ ws) s xs hs hx =
    let (b, small, e) = step w s xs hs hx in
    let (j, below, near) = reach ws s (set xs w (get_or s w 0)) hs (below_set 2 xs w (get_or s w 0) (below_at 1 s w hs) hx) in (
      2 * j + b,
      rw pow-suc (omega arith),
      rw (test_step j b w ws xs (set xs w (get_or s w 0)) small e) (omega (arith, near, beyond_set w w ws 0 s xs (omega arith))),
    )
