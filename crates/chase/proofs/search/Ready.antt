-- A word of symbols that is ready for the search: ranked, and of a length and a depth that the search is made for. What its
-- test words' syndromes and weights are, and what a candidate weighs. Assumes nothing.
use Prim.Native.Nat.{ℕ, suc, ◌+◌, ◌-◌, ◌*◌, ◌/◌, ◌%◌, ◌^◌, ◌≤◌, ◌<◌}
use native.Mathlib.Omega.{arith}
use mathlib.Core.Path.{◌≡◌, refl, ap, sym, ◌∙◌, subst}
use mathlib.Core.Bool.{true, false}
use mathlib.Core.List.{List, map}
use lib.Bits.{bit_xor, xor_block, xor_zero_r}
use lib.Dec.{eqb}
use lib.ListN.{length, get_or, take, length-map, length-take, get_or-map}
use lib.Seq.{get_or-take, take-take, length-take-le}
use Rattle.galois.specs.Field.{alpha}
use Rattle.galois.proofs.FieldLaws.{alpha_lt}
use Rattle.galois.proofs.FieldTables.{powers_of, size_most}
use Rattle.bch.specs.Words.{Bits, flipped_at, is_in, Distinct}
use Rattle.bch.specs.Code.{Code}
use Rattle.bch.proofs.codes.Settings.{Lawful, primitive_of}
use Rattle.bch.proofs.codes.Counting.{flips_same, flips_most}
use Rattle.bch.proofs.codes.Flipped.{distinct_at}
use Rattle.bch.proofs.decoding.Located.{length_flipped}
use Rattle.bch.proofs.tables.Placing.{lower_part}
use Rattle.bch.proofs.logarithms.LogBounds.{syndromes_of_lem}
use Rattle.bch.proofs.logarithms.LogAnswers.{syndromes_of, syndromes_in}
use Rattle.chase.specs.Soft.{hard_bits, reliabilities, Ranked, rank, weak, distance}
use Rattle.chase.specs.Word.{Symbols, test, weakest}
use Rattle.chase.proofs.ranking.Ranking as Ranking
use Rattle.chase.proofs.test_words.Reach.{bits_hard, length_hard, length_reliabilities, bits_test, length_test}
use Rattle.chase.proofs.ranking.Keys.{Weakest, reliability_lt, weak_long, weak_at, not_weak}
use Rattle.chase.proofs.ranking.Allowances.{unflipped_sum, unflipped_most}
use Rattle.chase.proofs.test_words.TestWords.{chosen, test_none, chosen_absent, halved, chosen_at, chosen_first}
use Rattle.chase.proofs.test_words.TestSums.{sums_high}
use Rattle.chase.proofs.weighing.Weights.{Weighs, packed_weight, unpacked, distance_most, distance_same, weigh_out, weigh_back, weight_high}
use Rattle.chase.proofs.test_words.Doublings.{Doubled, Holds, Small, holds_first, doubled_holds}

-- ss are symbols, p is a depth, and the first p of six keys ks are the word's least: its weak positions
pub record Ready (ss ks : List ℕ) (p : ℕ) : Type 0 where
  pub keys : Weakest p ss ks
  pub six : length ks ≡ 6
  pub symbols : Symbols ss
  pub most : length ss ≤ 1023
  pub depth : p ≤ 6
  pub there : p ≤ length ss

-- .. and the first d of the keys ls are the least too: enough for A at the design distance d
pub record Deep (d : ℕ) (ss ks ls : List ℕ) (p : ℕ) : Type 0 where
  pub ready : Ready ss ks p
  pub least : Weakest d ss ls
  pub there : d ≤ length ss

-- a test word in one number: 2^32 times its weight, plus its syndromes
abbrev pub packed_test : Code → ℕ → List ℕ → ℕ → ℕ
packed_test c p ss j = packed_weight (reliabilities ss) (test p ss j) (hard_bits ss) * 4294967296 + syndromes_of c (test p ss j)

-- .. and where it flips the position of one key more: the syndromes have its powers added, the weight its flip and its reliability
abbrev pub flipped_more : Code → ℕ → ℕ → ℕ
flipped_more c key x = bit_xor x (lower_part c.t (powers_of c.m (key % 1024))) + (65536 + key / 1024) * 4294967296

-- a field sum with a number below 2^32 leaves what stands above
xor_low : (h l v : ℕ) → l < 4294967296 → v < 4294967296 → bit_xor (h * 4294967296 + l) v ≡ h * 4294967296 + bit_xor l v
xor_low h l v hl hv =
    let e : v ≡ 0 * 4294967296 + v = omega arith in
    ap (bit_xor (h * 4294967296 + l)) e ∙ xor_block 32 h 0 l v hl hv ∙ ap (λ (x : ℕ). x * 4294967296 + bit_xor l v) (xor_zero_r h)

-- the powers of a position are below 2^32
powers_small : (c : Code) → Lawful c → (x : ℕ) → lower_part c.t (powers_of c.m x) < 4294967296
powers_small c lawful x =
    let lt : (e : ℕ) → alpha c.m e < 2 ^ c.m = alpha_lt c.m (primitive_of c lawful) in
    let s = syndromes_of_lem c.m c.t lawful.m_most lawful.t_least lawful.t_most _ _ _ _ (lt (1 * x)) (lt (3 * x)) (lt (5 * x)) refl in
    omega (arith, s.fifth, size_most c.m lawful.m_most)

-- the positions of the first p keys
abbrev pub places_of : List ℕ → ℕ → List ℕ
places_of ks p = map (λ (k : ℕ). k % 1024) (take p ks)

-- they are p, ..
pub long_places : (ks : List ℕ) (p : ℕ) → p ≤ length ks → length (places_of ks p) ≡ p
long_places ks p h = length-map (take p ks) (λ (k : ℕ). k % 1024) ∙ length-take-le p ks h

-- .. each in its place
pub at_places : (ks : List ℕ) (p b : ℕ) → b < p → get_or (places_of ks p) b 0 ≡ get_or ks b 0 % 1024
at_places ks p b h = get_or-map (λ (k : ℕ). k % 1024) (take p ks) b 0 ∙ ap (λ (k : ℕ). k % 1024) (get_or-take p ks b 0 h)

module _ (ss ks : List ℕ) (p : ℕ) (ready : Ready ss ks p) where
  -- ---- the weak positions

  -- the first p keys hold them, ..
  pub places_weak : places_of ks p ≡ weak p (reliabilities ss)
  places_weak = ready.keys.positions p (omega arith) ready.there

  -- .. each once, ..
  pub weak_distinct : Distinct (length ss) (weak p (reliabilities ss))
  weak_distinct = subst (λ (n : ℕ). Distinct n (weak p (reliabilities ss))) (length_reliabilities ss) (Ranking.weak_distinct (reliabilities ss) p)

  pub long_weak : length (weak p (reliabilities ss)) ≡ p
  long_weak = weak_long p ss ks ready.keys ready.there

  at_weak : (b : ℕ) → b < p → get_or (weak p (reliabilities ss)) b 0 ≡ get_or ks b 0 % 1024
  at_weak = weak_at p ss ks ready.keys ready.there

  -- .. below n, with its reliability
  pub key_below : (b : ℕ) → b < p → get_or ks b 0 % 1024 < length ss
  key_below b h = (ready.keys.held b h (omega (arith, ready.there))).1

  key_held : (b : ℕ) → b < p → get_or ks b 0 / 1024 ≡ get_or (reliabilities ss) (get_or ks b 0 % 1024) 0
  key_held b h = (ready.keys.held b h (omega (arith, ready.there))).0

  -- a position that is more reliable than the last of them is not flipped
  pub strong_unflipped : 0 < p → (j x : ℕ) → get_or ks (p - 1) 0 / 1024 < get_or (reliabilities ss) x 0 → is_in x (chosen j (weakest p ss)) ≡ false
  strong_unflipped h j x l =
      chosen_absent x j (weak p (reliabilities ss)) (not_weak p ss ks ready.keys ready.there h x l)

  -- ---- the test words in one number each

  -- what test word j weighs
  abbrev pub weight_of : ℕ → ℕ
  weight_of j = packed_weight (reliabilities ss) (test p ss j) (hard_bits ss)

  -- it is small, ..
  weight_small : (j : ℕ) → weight_of j < 134217728
  weight_small j =
      omega (
        arith,
        flips_most (test p ss j) (hard_bits ss),
        length_test j (weak p (reliabilities ss)) (hard_bits ss),
        length_hard ss,
        distance_most (reliabilities ss) (test p ss j) (hard_bits ss) (λ i w. reliability_lt ss i),
        length_reliabilities ss,
        ready.most,
      )

  module _ (c : Code) (lawful : Lawful c) where
    -- its syndromes
    abbrev sums_of : ℕ → ℕ
    sums_of j = syndromes_of c (test p ss j)

    -- .. and so are they, ..
    sums_small : (j : ℕ) → sums_of j < 4294967296
    sums_small j =
        let s = syndromes_in c lawful (test p ss j) (bits_test j (weak p (reliabilities ss)) (hard_bits ss) (bits_hard ss ready.symbols)) (sums_of j) refl in
        omega (arith, s.fifth, size_most c.m lawful.m_most)

    -- .. so that both are read off again
    pub test_sums : (x j : ℕ) → x ≡ packed_test c p ss j → x % 4294967296 ≡ syndromes_of c (test p ss j)
    test_sums x j e = omega (arith, sums_small j)

    pub test_weight : (x j : ℕ) → x ≡ packed_test c p ss j → x / 4294967296 ≡ weight_of j
    test_weight x j e = omega (arith, sums_small j)

    -- test word 0 has the syndromes of the hard bits and weighs nothing, ..
    pub tests_first : (base : ℕ) (out : List ℕ) → base ≡ syndromes_of c (hard_bits ss) → get_or out 0 0 ≡ base → Holds (packed_test c p ss) 1 out
    tests_first base out e h =
        let none = test_none (weak p (reliabilities ss)) (hard_bits ss) in
        let weight : weight_of 0 ≡ 0 = rw (none, flips_same (hard_bits ss), distance_same (reliabilities ss) (hard_bits ss)) refl in
        let sums : base ≡ sums_of 0 = e ∙ ap (syndromes_of c) (sym none) in
        holds_first (packed_test c p ss) out (h ∙ omega arith)

    -- .. a higher bit flips the position of its key, ..
    test_high : (b k : ℕ) → b < p → k < 2 ^ b → packed_test c p ss (k + 2 ^ b) ≡ flipped_more c (get_or ks b 0) (packed_test c p ss k)
    test_high b k h l =
        let v = lower_part c.t (powers_of c.m (get_or ks b 0 % 1024)) in
        let sums : sums_of (k + 2 ^ b) ≡ bit_xor (sums_of k) v
        = sums_high c lawful (length ss) b k (weak p (reliabilities ss)) (hard_bits ss) (bits_hard ss ready.symbols) (length_hard ss) weak_distinct
        (omega (arith, long_weak)) l
        ∙ ap (λ (x : ℕ). bit_xor (sums_of k) (lower_part c.t (powers_of c.m x))) (at_weak b h) in
        let weight : weight_of (k + 2 ^ b) ≡ weight_of k + (65536 + get_or ks b 0 / 1024)
        = weight_high (length ss) (reliabilities ss) (hard_bits ss) (length_hard ss) (length_reliabilities ss) (bits_hard ss ready.symbols)
        (weak p (reliabilities ss)) weak_distinct k b (omega (arith, long_weak)) l
        ∙ ap (λ (x : ℕ). weight_of k + (65536 + x)) (ap (λ (x : ℕ). get_or (reliabilities ss) x 0) (at_weak b h) ∙ sym (key_held b h)) in
        let low = xor_low (weight_of k) (sums_of k) v (sums_small k) (powers_small c lawful (get_or ks b 0 % 1024)) in
        omega (arith, sums, weight, low)

    -- .. and so those with one are had by doubling
    pub tests_next : (b size : ℕ) (old new : List ℕ) → b < p → size ≡ 2 ^ b → Doubled (flipped_more c (get_or ks b 0)) size old new
        → Holds (packed_test c p ss) (2 ^ b) old → Holds (packed_test c p ss) (2 ^ (b + 1)) new
    tests_next b size old new h q d t =
        doubled_holds (packed_test c p ss) (flipped_more c (get_or ks b 0)) b old new (rw q at d) (λ k l. test_high b k h l) t

    -- each is small
    pub tests_small : (b size : ℕ) (out : List ℕ) → size ≡ 2 ^ b → Holds (packed_test c p ss) (2 ^ b) out → Small 576460752303423488 size out
    tests_small b size out q t k l = omega (arith, t k (omega arith), sums_small k, weight_small k)

  -- ---- a candidate of test word j

  module _ (j : ℕ) where
    -- the test word is a word, ..
    pub length_tested : length (test p ss j) ≡ length ss
    length_tested = length_test j (weak p (reliabilities ss)) (hard_bits ss) ∙ length_hard ss

    pub bits_tested : Bits (test p ss j)
    bits_tested = bits_test j (weak p (reliabilities ss)) (hard_bits ss) (bits_hard ss ready.symbols)

    -- .. and so is the candidate
    pub length_candidate : (P : List ℕ) → length (flipped_at P (test p ss j)) ≡ length ss
    length_candidate P = length_flipped P (test p ss j) ∙ length_tested

    -- the weight of the test word, unpacked
    pub start_weighs : (start : ℕ) (P : List ℕ) → start ≡ weight_of j
        → Weighs (reliabilities ss) (flipped_at (take 0 P) (test p ss j)) (hard_bits ss) (start / 65536) (start % 65536)
    unfolding flipped_at
    start_weighs start P e =
        let l : distance (reliabilities ss) (test p ss j) (hard_bits ss) < 65536
        = omega (
          arith,
          distance_most (reliabilities ss) (test p ss j) (hard_bits ss) (λ i h. reliability_lt ss i),
          length_reliabilities ss,
          ready.most,
        ) in
        unpacked (reliabilities ss) (test p ss j) (hard_bits ss) start l e

    module _ (at : List ℕ) (count a q L z : ℕ) (places : Distinct (length ss) (take count at)) (more : a < count) (room : count ≤ length at)
        (reliability : z ≡ get_or (reliabilities ss) (get_or at a 0) 0)
        (old : Weighs (reliabilities ss) (flipped_at (take a (take count at)) (test p ss j)) (hard_bits ss) q L) where
      P : List ℕ
      P = take count at

      same : get_or P a 0 ≡ get_or at a 0
      unfolding P
      same = get_or-take count at a 0 more

      long : a < length P
      unfolding P
      long = omega (arith, length-take-le count at room)

      -- the next of the positions located is below n
      pub next_below : get_or at a 0 < length ss
      unfolding P
      next_below = omega (arith, same, distinct_at (length ss) a P places long)

      -- where the test word does not flip it, it adds its flip, ..
      pub out_at : false ≡ is_in (get_or at a 0) (chosen j (weakest p ss))
          → Weighs (reliabilities ss) (flipped_at (take (a + 1) (take count at)) (test p ss j)) (hard_bits ss) (q + 1) (L + z)
      unfolding P
      out_at h =
          rw (reliability, ← same)
          (weigh_out (length ss) (reliabilities ss) (hard_bits ss) (length_hard ss) (length_reliabilities ss) (bits_hard ss ready.symbols)
          (weak p (reliabilities ss)) weak_distinct j P places a long q L old (sym (rw (← same) at h)))

      -- .. and where it does, it takes it away
      pub back_at : true ≡ is_in (get_or at a 0) (chosen j (weakest p ss)) → (1 ≤ q) × (z ≤ L)
          × Weighs (reliabilities ss) (flipped_at (take (a + 1) (take count at)) (test p ss j)) (hard_bits ss) (q - 1) (L - z)
      unfolding P
      back_at h =
          rw (reliability, ← same)
          (weigh_back (length ss) (reliabilities ss) (hard_bits ss) (length_hard ss) (length_reliabilities ss) (bits_hard ss ready.symbols)
          (weak p (reliabilities ss)) weak_distinct j P places a long q L old (sym (rw (← same) at h)))

-- ---- the first d keys

module _ (d : ℕ) (ss ks ls : List ℕ) (p : ℕ) (deep : Deep d ss ks ls p) where
  -- key b has place b in the weakest order, ..
  key_placed : (e b : ℕ) → b < d → b < e → get_or (weak e (reliabilities ss)) b 0 ≡ get_or ls b 0 % 1024
  unfolding weak
  key_placed e b h l =
      let Q : List ℕ = map (λ (r : Ranked). r.at) (rank 0 (reliabilities ss)) in
      get_or-take e Q b 0 l
      ∙ sym (get_or-take (suc b) Q b 0 (omega arith))
      ∙ ap (λ (l : List ℕ). get_or l b 0) (sym (deep.least.positions (suc b) h (omega (arith, deep.there))))
      ∙ get_or-map (λ (k : ℕ). k % 1024) (take (suc b) ls) b 0
      ∙ ap (λ (k : ℕ). k % 1024) (get_or-take (suc b) ls b 0 (omega arith))

  -- .. so that test word j flips its position where bit b of j is 1, which is never so beyond the depth
  pub key_chosen : (b j : ℕ) → b < d → j < 2 ^ p → is_in (get_or ls b 0 % 1024) (chosen j (weakest p ss)) ≡ eqb (halved b j % 2) 1
  unfolding weak
  key_chosen b j h l =
      let e = d + p in
      let Q : List ℕ = map (λ (r : Ranked). r.at) (rank 0 (reliabilities ss)) in
      let first : chosen j (take p Q) ≡ chosen j (take e Q)
      = ap (chosen j) (sym (take-take p e Q (omega arith))) ∙ chosen_first p j (take e Q) l in
      let long : length Q ≡ length ss = length-map (rank 0 (reliabilities ss)) (λ (r : Ranked). r.at) ∙ Ranking.length_rank 0 (reliabilities ss) ∙ length_reliabilities ss in
      rw (← key_placed e b h (omega arith))
      (ap (is_in (get_or (take e Q) b 0)) first
      ∙ chosen_at (length (reliabilities ss)) b j (take e Q) (Ranking.weak_distinct (reliabilities ss) e) (omega (arith, long, length-take e Q, deep.there)))

  -- the sum of k of their reliabilities is small
  pub unflipped_small : (P : List ℕ) (j k : ℕ) → unflipped_sum P j k (take d ls) ≤ 15 * k
  unflipped_small P j k = unflipped_most P j k (take d ls) (λ i h. light i (omega (arith, length-take d ls)))
    where
      light : (i : ℕ) → i < d → get_or (take d ls) i 0 / 1024 < 16
      light i h =
          let r = (deep.least.held i h (omega (arith, deep.there))).0 in
          rw (get_or-take d ls i 0 h) (omega (arith, r, reliability_lt ss (get_or ls i 0 % 1024)))
