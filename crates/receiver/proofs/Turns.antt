-- The test words by doubling, and a turn of the search: from the outcome so far and what the next tries locate, the outcome after them.
-- Assumes nothing.
use Prim.Native.Nat.{ℕ, ◌+◌, ◌-◌, ◌*◌, ◌/◌, ◌^◌, ◌≤◌, ◌<◌}
use native.Mathlib.Nat.{pow-succ'}
use native.Mathlib.Numerals.{add-one}
use native.Mathlib.Omega.{arith}
use mathlib.Core.Path.{◌≡◌, refl, ap, sym, ◌∙◌, subst}
use mathlib.Core.Bool.{true, false}
use mathlib.Core.List.{List, [], ◌∷◌, ◌++◌}
use mathlib.Core.Option.{none, some, map}
use lib.ListN.{length, get_or, take, replicate, length-replicate, length-take}
use lib.Pow.{pow_mono, pow_pos}
use lib.Seq.{length-take-le, get_or-take}
use Rattle.std.specs.Prelude.{Some, None}
use Rattle.bch.specs.Words.{Distinct, flipped_at}
use Rattle.bch.specs.Code.{design_distance}
use Rattle.bch.proofs.logarithms.LogAnswers.{syndromes_of}
use Rattle.bch.proofs.decoding.Sorting.{distinct_below}
use Rattle.bch.proofs.tables.Placing.{positions}
use Rattle.bch.proofs.codes.Settings.{Lawful}
use Rattle.chase.specs.Soft.{hard_bits, reliabilities, candidate, tried}
use Rattle.chase.specs.Word.{test}
use Rattle.chase.proofs.ranking.Allowances.{unflipped_sum}
use Rattle.chase.proofs.test_words.Doublings.{Doubled, Holds, Small, size_most}
use Rattle.chase.proofs.search.Ready.{Deep, packed_test, flipped_more, length_candidate}
use Rattle.chase.proofs.search.Ready.{test_sums, test_weight, tests_first, tests_next, tests_small, unflipped_small}
use Rattle.chase.proofs.search.Steps.{skip}
use Rattle.chase.proofs.search.Tries.{try_parts, try_missed, try_distinct, try_some}
use Rattle.chase.proofs.weighing.Weights.{Weighs, packed_weight, weighs_small}
use Rattle.refusal.specs.Named.{code_of}
use Rattle.refusal.specs.declared.Code as refusal
use Rattle.receiver.specs.Held.{code_in, numbers_in}
use Rattle.receiver.specs.Located.{flips_of, sums_at, AreSyndromes, located_at, Sought}
use Rattle.receiver.specs.Search.{pick_in, is_sure, candidate_of, best_of, pick_by, judged_by, Sound, Tried, TestWords}
use Rattle.receiver.specs.declared.flips.Flips.{Flips}
use Rattle.receiver.specs.declared.weighing.Weight.{Weight}
use Rattle.receiver.specs.declared.search.Outcome.{Outcome}
use Rattle.receiver.specs.declared.search.Search.{Search}
use Rattle.receiver.proofs.Outcomes.{tried_missed, judged_tries, tried_judged}

module _ (s : Search) where
  abbrev c : refusal.Code
  c = code_in s.tables.now

  abbrev numbers : List ℕ
  numbers = numbers_in s.tables.now

  abbrev ss : List ℕ
  ss = s.word.now.symbols.now

  abbrev p : ℕ
  p = s.word.now.p

  -- the first six keys, and all eight
  abbrev ks : List ℕ
  ks = s.word.now.keys.at

  abbrev ls : List ℕ
  ls = ks ++ s.word.now.keys.more

  pub lawful : Lawful (code_of c)
  lawful = s.tables.now.filled.fielded.made.lawful

  pub deep : Deep (design_distance (code_of c)) ss ks ls p
  deep = subst (λ (d : ℕ). Deep d ss ks ls p) s.apart s.word.now.deep

  -- ---- the test words, by doubling

  -- test word 0 alone has the syndromes of the hard bits
  pub first_tests : (base : ℕ) → base ≡ syndromes_of (code_of c) (hard_bits ss) → TestWords (code_of c) p ss (base ∷ [])
  first_tests base e =
      record { most = pow_pos p; are_tests = tests_first ss ks p deep.ready (code_of c) lawful base (base ∷ []) e refl }

  -- those of the first b weak positions
  pub record Grown (b to : ℕ) (ts : List ℕ) : Type 0 where
    pub within : b ≤ p
    pub size : to ≡ 2 ^ b
    pub long : length ts ≡ 64
    pub holds : Holds (packed_test (code_of c) p ss) (2 ^ b) ts

  -- of none, ..
  pub grown_first : (base : ℕ) → base ≡ syndromes_of (code_of c) (hard_bits ss) → Grown 0 1 (replicate 64 base)
  grown_first base e =
      record {
        within = omega arith;
        size = refl;
        long = length-replicate 64 base;
        holds = tests_first ss ks p deep.ready (code_of c) lawful base (replicate 64 base) e refl;
      }

  module _ (b to : ℕ) (ts : List ℕ) (grown : Grown b to ts) where
    -- .. of one more, for which there is room, ..
    module _ (more : b < length (take p ks)) where
      below : b < p
      below = omega (arith, length-take p ks)

      twice : 2 * to ≡ 2 ^ (b + 1)
      twice =
          let double : 2 ^ (b + 1) ≡ 2 * 2 ^ b = rw (add-one, pow-succ' 2 b) refl in
          omega (arith, grown.size)

      pub grown_room : (2 * to ≤ length ts) × Small 576460752303423488 to ts
      grown_room = (
        omega (arith, size_most b (omega (arith, below, deep.ready.depth)), grown.size, grown.long),
        tests_small ss ks p deep.ready (code_of c) lawful b to ts grown.size grown.holds,
      )

      pub grown_next : (new : List ℕ) → Doubled (flipped_more (code_of c) (get_or (take p ks) b 0)) to ts new → Grown (b + 1) (2 * to) new
      grown_next new d =
          let key = get_or-take p ks b 0 below in
          record {
            within = omega (arith, below);
            size = twice;
            long = d.long ∙ grown.long;
            holds = tests_next ss ks p deep.ready (code_of c) lawful b to ts new below grown.size (rw key at d) grown.holds;
          }

    -- .. and the slice of them
    pub grown_tests : (to ≤ length ts) × (to ≡ length (take to ts)) × TestWords (code_of c) p ss (take to ts)
    grown_tests =
        let six : b ≤ 6 = omega (arith, grown.within, deep.ready.depth) in
        let depth : 2 ^ b ≤ 64 = pow_mono six in
        let most : 2 ^ b ≤ 2 ^ p = pow_mono grown.within in
        let room : to ≤ length ts = omega (arith, grown.size, grown.long) in
        let long = length-take-le to ts room in (
          room,
          sym long,
          record {
            most = omega (arith, grown.size);
            are_tests = λ j i. (let k : j < to = omega arith in get_or-take to ts j 0 k ∙ grown.holds j (omega (arith, grown.size)));
          },
        )

  -- ---- the tries

  module _ (ts : List ℕ) (tests : TestWords (code_of c) p ss ts) where
    -- the syndromes in test word j
    are_sums : (j : ℕ) → j < length ts → sums_at ts j ≡ syndromes_of (code_of c) (test p ss j)
    are_sums j h = test_sums ss ks p deep.ready (code_of c) lawful (get_or ts j 0) j (tests.are_tests j h)

    -- what test word j has been found to have
    missed : (j : ℕ) → j < length ts → located_at c numbers ts j ≡ none → map (candidate (code_of c) p ss j) (tried (code_of c) p ss j) ≡ none
    missed j h e =
        try_missed c.m c.t c.n lawful numbers s.tables.now.filled.tables ss ks ls p deep s.long j (sums_at ts j) (are_sums j h) e

    -- the syndromes are elements
    pub are_syndromes : AreSyndromes c ts
    are_syndromes j h =
        try_parts c.m c.t c.n lawful numbers s.tables.now.filled.tables ss ks ls p deep s.long j (sums_at ts j) (are_sums j h)

    module _ (o : Outcome) (unsure : is_sure o.best ≡ false) (t : Tried (code_of c) p ss o) (tries : ℕ) where
      -- nothing is located
      pub turn_missed : Sought c numbers ts o.tries tries None
          → Tried (code_of c) p ss (record { tries = tries; best = o.best }) × (tries ≡ length ts)
      turn_missed next =
          let (all, none-there) = next.ended refl in (
            tried_missed (code_of c) p ss o unsure t tries next.least (omega (arith, tests.most))
                (λ i l u. missed i (omega arith) (none-there i l (omega arith))),
            all,
          )

      module _ (f : Flips) (next : Sought c numbers ts o.tries tries (Some f)) where
        abbrev j : ℕ
        j = tries - 1

        j_lt : tries - 1 < length ts
        j_lt = omega (arith, (next.there refl).0, next.most)

        at_j : positions true f.count f.at ≡ located_at c numbers ts (tries - 1)
        at_j = (next.there refl).2

        -- the test word that is located has this weight, ..
        pub turn_weight : get_or ts (tries - 1) 0 / 4294967296 ≡ packed_weight (reliabilities ss) (test p ss (tries - 1)) (hard_bits ss)
        turn_weight = test_weight ss ks p deep.ready (code_of c) lawful (get_or ts j 0) j (tests.are_tests j j_lt)

        places_distinct : Distinct c.n (flips_of f)
        places_distinct =
            try_distinct c.m c.t c.n lawful numbers s.tables.now.filled.tables ss ks ls p deep s.long j (sums_at ts j) (are_sums j j_lt)
            true f.count f.at at_j refl

        -- .. and the positions are distinct
        pub turn_distinct : Distinct (length ss) (flips_of f)
        turn_distinct = rw s.long places_distinct

        -- its candidate is judged
        module _ (w : Weight) (weighs : Weighs (reliabilities ss) (flipped_at (flips_of f) (test p ss (tries - 1))) (hard_bits ss) w.q w.sum) where
          abbrev d : ℕ
          d = s.word.now.d

          abbrev A : ℕ
          A = unflipped_sum (flips_of f) j (d - w.q) (take d ls)

          abbrev counted : Outcome
          counted = record { tries = tries; best = o.best }

          sound : Sound c.n (pick_by A counted w f)
          sound =
              let small =
              weighs_small ss (flipped_at (flips_of f) (test p ss j)) w.q w.sum deep.ready.most
              (length_candidate ss ks p deep.ready j (flips_of f)) weighs in
              let most = unflipped_small d ss ks ls p s.word.now.deep (flips_of f) j (d - w.q) in
              record {
                placed = distinct_below c.n (flips_of f) places_distinct;
                sum_small = omega (arith, small.1);
                allowed_small = omega (arith, most, s.word.now.few);
              }

          gives : map (candidate (code_of c) p ss j) (tried (code_of c) p ss j) ≡ some (candidate_of p ss (pick_by A counted w f))
          gives =
              try_some c.m c.t c.n lawful numbers s.tables.now.filled.tables ss ks ls p deep s.long j (sums_at ts j)
              (are_sums j j_lt) true f.count f.at at_j refl w.q w.sum A (omega (arith, j_lt, tests.most)) weighs
              (ap (λ (d : ℕ). unflipped_sum (flips_of f) j (d - w.q) (take d ls)) s.apart)

          judged : Tried (code_of c) p ss (judged_by A counted w f)
          judged =
              let (more, gone, _) = next.there refl in
              let e = skip (code_of c) p ss (2 ^ p) (j - o.tries) o.tries j (best_of p ss (pick_in o.best)) (omega arith) (omega (arith, tests.most, next.most))
              (λ i l u. missed i (omega (arith, next.most)) (gone i l u)) in
              tried_judged (code_of c) p ss lawful s.long deep.ready.symbols counted unsure j (omega arith)
              (omega (arith, tests.most, next.most)) t.sound t.backed (sym e ∙ t.going unsure) A w f sound gives

          -- .. and more tries are made, but no more than there are
          pub turn_judged : (out : Outcome) → out ≡ judged_by A counted w f
              → Tried (code_of c) p ss out × (o.tries < out.tries) × (out.tries ≤ length ts)
          turn_judged out e =
              let made : out.tries ≡ tries = rw e (judged_tries A counted w f) in
              (rw e judged, omega (arith, made, (next.there refl).0), omega (arith, made, next.most))
