-- What words weigh against the hard bits: their flips and their distance, after one flip more, and how large they get.
-- Assumes nothing.
use Prim.Native.Nat.{ℕ, zero, suc, ◌+◌, ◌-◌, ◌*◌, ◌/◌, ◌%◌, ◌^◌, ◌≤◌, ◌<◌}
use native.Mathlib.Omega.{arith}
use native.Mathlib.Numerals.{add-one}
use mathlib.Core.Path.{◌≡◌, refl, ap, sym, ◌∙◌, subst}
use mathlib.Core.Bool.{Bool, true, false, cond}
use mathlib.Core.List.{List, [], ◌∷◌, ◌++◌}
use borrow.Author.Tests.{eq-eqb, ne_eqb}
use lib.Dec.{eqb}
use lib.ListN.{length, get_or, take, length-append}
use lib.Seq.{get_or-append_seam, take-append_seam}
use Rattle.bch.specs.Words.{Below, Bits, flips, flip, flipped_at, is_in, Distinct}
use Rattle.bch.proofs.codes.Entries.{below_at}
use Rattle.bch.proofs.codes.Counting.{flips_most}
use Rattle.bch.proofs.codes.HardLaws.{other_of}
use Rattle.bch.proofs.codes.Flipped.{flipped_more_lem, flipped_other, flipped_one, not_before, distinct_at}
use Rattle.bch.proofs.decoding.Located.{length_flipped, bits_flipped}
use Rattle.chase.specs.Soft.{hard_bits, reliabilities, test_word, distance}
use Rattle.chase.proofs.test_words.Reach.{length_reliabilities, bits_test, length_test}
use Rattle.chase.proofs.ranking.Keys.{reliability_lt}
use Rattle.chase.proofs.test_words.TestWords.{chosen, test_flipped, chosen_high, test_high, chosen_distinct}

-- the flips q and the distance L of a word ys from xs
pub record Weighs (zs ys xs : List ℕ) (q L : ℕ) : Type 0 where
  pub count : q ≡ flips ys xs
  pub sum : L ≡ distance zs ys xs

-- both in one number
abbrev pub packed_weight : List ℕ → List ℕ → List ℕ → ℕ
packed_weight zs ys xs = flips ys xs * 65536 + distance zs ys xs

-- it is read off again
pub unpacked : (zs ys xs : List ℕ) (w : ℕ) → distance zs ys xs < 65536 → w ≡ packed_weight zs ys xs → Weighs zs ys xs (w / 65536) (w % 65536)
unpacked zs ys xs w h e = record { count = omega arith; sum = omega arith }

-- ---- bounds

-- a word's distance is at most 15 for each position
pub distance_most : (zs ys xs : List ℕ) → ((i : ℕ) → i < length zs → get_or zs i 0 < 16) → distance zs ys xs ≤ 15 * length zs
unfolding distance
distance_most [] ys xs h = omega arith
distance_most (z ∷ zs) [] xs h = omega arith
distance_most (z ∷ zs) (y ∷ ys) [] h = omega arith
distance_most (z ∷ zs) (y ∷ ys) (x ∷ xs) h =
    omega (arith, least (eqb y x), h 0 (omega arith), distance_most zs ys xs (λ i w. h (suc i) (omega arith)))
  where
    least : (b : Bool) → cond b 0 z ≤ z
    least true = omega arith
    least false = omega arith

-- .. and for each flip
pub distance_flips : (zs ys xs : List ℕ) → ((i : ℕ) → get_or zs i 0 < 16) → distance zs ys xs ≤ 15 * flips ys xs
unfolding distance flips
distance_flips [] ys xs h = omega arith
distance_flips (z ∷ zs) [] xs h = omega arith
distance_flips (z ∷ zs) (y ∷ ys) [] h = omega arith
distance_flips (z ∷ zs) (y ∷ ys) (x ∷ xs) h = omega (arith, one (eqb y x), distance_flips zs ys xs (λ i. h (suc i)))
  where
    one : (b : Bool) → cond b 0 z ≤ 15 * cond b 0 1
    one true = omega arith
    one false = omega (arith, h 0)

-- a word has the distance 0 from itself
pub distance_same : (zs xs : List ℕ) → distance zs xs xs ≡ 0
unfolding distance
distance_same [] xs = refl
distance_same (z ∷ zs) [] = refl
distance_same (z ∷ zs) (x ∷ xs) = rw (eq-eqb x x refl) (omega (arith, distance_same zs xs))

-- the flips and the distance of any word are small
pub weighs_small : (ss ys : List ℕ) (q L : ℕ) → length ss ≤ 1023 → length ys ≡ length ss → Weighs (reliabilities ss) ys (hard_bits ss) q L
    → (q ≤ 1023) × (L ≤ 15345)
weighs_small ss ys q L m l w = (
  omega (arith, w.count, flips_most ys (hard_bits ss)),
  omega (arith, w.sum, distance_most (reliabilities ss) ys (hard_bits ss) (λ i h. reliability_lt ss i), length_reliabilities ss),
)

-- ---- one flip

-- a position is flipped where the words agree: one flip more, and its z more, ..
flip_agree : (i : ℕ) (zs ys xs : List ℕ) → length ys ≡ length xs → length zs ≡ length xs → i < length xs → get_or ys i 0 ≡ get_or xs i 0
    → (flips (flip ys i) xs ≡ flips ys xs + 1) × (distance zs (flip ys i) xs ≡ distance zs ys xs + get_or zs i 0)
unfolding flips flip distance
flip_agree i zs ys [] l m h e = absurd (omega arith)
flip_agree i zs [] (x ∷ xs) l m h e = absurd (omega arith)
flip_agree i [] (y ∷ ys) (x ∷ xs) l m h e = absurd (omega arith)
flip_agree zero (z ∷ zs) (y ∷ ys) (x ∷ xs) l m h e = rw (eq-eqb y x e, ne_eqb (1 - y) x (λ q. omega arith)) (omega arith, omega arith)
flip_agree (suc i) (z ∷ zs) (y ∷ ys) (x ∷ xs) l m h e =
    let r = flip_agree i zs ys xs (omega arith) (omega arith) (omega arith) e in
    (omega (arith, r.0), omega (arith, r.1))

-- .. and where they differ, one less, and its z less
flip_differ : (i : ℕ) (zs ys xs : List ℕ) → length ys ≡ length xs → length zs ≡ length xs → i < length xs → Bits ys → Bits xs
    → (get_or ys i 0 ≡ get_or xs i 0 → ⊥) → (flips (flip ys i) xs + 1 ≡ flips ys xs) × (distance zs (flip ys i) xs + get_or zs i 0 ≡ distance zs ys xs)
unfolding flips flip distance Below
flip_differ i zs ys [] l m h b c e = absurd (omega arith)
flip_differ i zs [] (x ∷ xs) l m h b c e = absurd (omega arith)
flip_differ i [] (y ∷ ys) (x ∷ xs) l m h b c e = absurd (omega arith)
flip_differ zero (z ∷ zs) (y ∷ ys) (x ∷ xs) l m h b c e =
    rw (ne_eqb y x e, eq-eqb (1 - y) x (sym (other_of y x b.0 c.0 (λ q. e (sym q))))) (omega arith, omega arith)
flip_differ (suc i) (z ∷ zs) (y ∷ ys) (x ∷ xs) l m h b c e =
    let r = flip_differ i zs ys xs (omega arith) (omega arith) (omega arith) b.1 c.1 e in
    (omega (arith, r.0), omega (arith, r.1))

-- ---- one flip more of a test word

module _ (n : ℕ) (zs xs : List ℕ) (long : length xs ≡ n) (weighed : length zs ≡ n) (bits : Bits xs) (ws : List ℕ) (weak : Distinct n ws) (j : ℕ) where
  T : List ℕ
  T = test_word j ws xs

  -- the test word agrees with the word where no weak position is chosen, ..
  agrees : (p : ℕ) → is_in p (chosen j ws) ≡ false → get_or T p 0 ≡ get_or xs p 0
  unfolding T
  agrees p h = ap (λ (l : List ℕ). get_or l p 0) (test_flipped j ws xs) ∙ flipped_other p (chosen j ws) xs h

  -- .. and differs where one is
  differs : (p : ℕ) → is_in p (chosen j ws) ≡ true → get_or T p 0 ≡ get_or xs p 0 → ⊥
  unfolding T
  differs p h e =
      let f : get_or (test_word j ws xs) p 0 ≡ 1 - get_or xs p 0
      = ap (λ (l : List ℕ). get_or l p 0) (test_flipped j ws xs) ∙ flipped_one n p (chosen j ws) xs long (chosen_distinct n j ws weak) h in
      omega (arith, below_at 1 xs p bits)

  module _ (P : List ℕ) (places : Distinct n P) (a : ℕ) (more : a < length P) (q L : ℕ) (old : Weighs zs (flipped_at (take a P) (test_word j ws xs)) xs q L) where
    here : ℕ
    here = get_or P a 0

    W : List ℕ
    W = flipped_at (take a P) T

    long_W : length W ≡ length xs
    unfolding W T
    long_W = length_flipped (take a P) T ∙ length_test j ws xs

    bits_W : Bits W
    unfolding W T
    bits_W = bits_flipped (take a P) T (bits_test j ws xs bits)

    same_W : get_or W here 0 ≡ get_or T here 0
    unfolding W here
    same_W = flipped_other here (take a P) T (not_before n a P places more)

    below : here < length xs
    unfolding here
    below = omega (arith, distinct_at n a P places more)

    next : flipped_at (take (a + 1) P) (test_word j ws xs) ≡ flip W here
    unfolding W here T
    next = rw add-one (flipped_more_lem a P T more)

    -- a located position that is not flipped yet adds, ..
    pub weigh_out : is_in (get_or P a 0) (chosen j ws) ≡ false
        → Weighs zs (flipped_at (take (a + 1) P) (test_word j ws xs)) xs (q + 1) (L + get_or zs (get_or P a 0) 0)
    unfolding here W T
    weigh_out h =
        let r = flip_agree here zs W xs long_W (omega arith) below (same_W ∙ agrees here h) in
        rw next (record { count = ap (λ (x : ℕ). x + 1) old.count ∙ sym r.0; sum = ap (λ (x : ℕ). x + get_or zs here 0) old.sum ∙ sym r.1 })

    -- .. and one that is takes away
    pub weigh_back : is_in (get_or P a 0) (chosen j ws) ≡ true → (1 ≤ q) × (get_or zs (get_or P a 0) 0 ≤ L)
        × Weighs zs (flipped_at (take (a + 1) P) (test_word j ws xs)) xs (q - 1) (L - get_or zs (get_or P a 0) 0)
    unfolding here W T
    weigh_back h =
        let r = flip_differ here zs W xs long_W (omega arith) below bits_W bits (λ e. differs here h (sym same_W ∙ e)) in
        let c : q ≡ flips W xs = old.count in
        let s : L ≡ distance zs W xs = old.sum in
        (omega (arith, r.0), omega (arith, r.1), rw next (record { count = omega (arith, r.0); sum = omega (arith, r.1) }))

  -- the weight of a test word from that without its highest bit
  pub weight_high : (b : ℕ) → b < length ws → j < 2 ^ b
      → packed_weight zs (test_word (j + 2 ^ b) ws xs) xs ≡ packed_weight zs (test_word j ws xs) xs + (65536 + get_or zs (get_or ws b 0) 0)
  unfolding T
  weight_high b h l =
      let w = get_or ws b 0 in
      let d : Distinct n (chosen j ws ++ (w ∷ [])) = subst (Distinct n) (chosen_high b j ws h l) (chosen_distinct n (j + 2 ^ b) ws weak) in
      let k : length (chosen j ws) < length (chosen j ws ++ (w ∷ [])) = omega (arith, length-append (chosen j ws) (w ∷ [])) in
      let f : is_in (get_or (chosen j ws ++ (w ∷ [])) (length (chosen j ws)) 0) (take (length (chosen j ws)) (chosen j ws ++ (w ∷ []))) ≡ false
      = not_before n (length (chosen j ws)) (chosen j ws ++ (w ∷ [])) d k in
      let g : is_in w (chosen j ws) ≡ false = rw (get_or-append_seam, take-append_seam) at f in
      let r = flip_agree w zs T xs (length_test j ws xs) (omega arith) (omega (arith, distinct_at n b ws weak h)) (agrees w g) in
      rw (test_high b j ws xs h l, r.0, r.1) (omega arith)
