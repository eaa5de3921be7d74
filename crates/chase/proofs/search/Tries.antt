-- One try, from what is located for the packed syndromes of its test word. Assumes nothing.
use Prim.Native.Nat.{ℕ, ◌+◌, ◌-◌, ◌*◌, ◌%◌, ◌^◌, ◌≤◌, ◌<◌}
use native.Mathlib.Omega.{arith}
use mathlib.Core.Path.{◌≡◌, refl, ap, sym, ◌∙◌}
use mathlib.Core.Bool.{Bool, true, false}
use mathlib.Core.List.{List, []}
use mathlib.Core.Option.{none, some, map}
use lib.Dec.{eqb}
use lib.ListN.{length, get_or, take, length-take}
use lib.Seq.{get_or-take}
use Rattle.bch.specs.Words.{is_in, Distinct, flipped_at}
use Rattle.bch.specs.Code.{code}
use Rattle.bch.proofs.codes.Settings.{Lawful}
use Rattle.bch.proofs.tables.Placing.{positions, Placed}
use Rattle.bch.proofs.tables.CodeTables.{CodeTables}
use Rattle.bch.proofs.logarithms.LogLocator.{rising_in}
use Rattle.bch.proofs.logarithms.LogBounds.{Syndromes}
use Rattle.bch.proofs.logarithms.LogAnswers.{syndromes_of, syndromes_in, none_repaired, found_repaired, found_distinct, found_placed}
use Rattle.chase.specs.Soft.{Candidate, hard_bits, reliabilities, candidate, tried}
use Rattle.chase.specs.Word.{test, weakest}
use Rattle.chase.proofs.weighing.Weights.{Weighs}
use Rattle.chase.proofs.ranking.Allowances.{turned, unflipped_sum, turned_tells, allowance_keys}
use Rattle.chase.proofs.test_words.Reach.{bits_hard, length_hard}
use Rattle.chase.proofs.test_words.TestWords.{chosen, halved}
use Rattle.chase.proofs.search.Ready.{Deep, weak_distinct, length_tested, bits_tested, length_candidate, key_chosen}

same_candidate : (w : List ℕ) (j : ℕ) {q q' L L' A A' : ℕ} → q ≡ q' → L ≡ L' → A ≡ A'
    → ◌≡◌ {A = Candidate} (record { word = w; q = q; L = L; A = A; j = j }) (record { word = w; q = q'; L = L'; A = A'; j = j })
same_candidate w j e f g = cc

module _ (m t n : ℕ) (lawful : Lawful (code m t n)) (ts : List ℕ) (tables : CodeTables m t ts) (ss ks ls : List ℕ) (p : ℕ)
    (deep : Deep (2 * t + 1) ss ks ls p) (long : length ss ≡ n) (j s : ℕ) (packs : s ≡ syndromes_of (code m t n) (test p ss j)) where
  T : List ℕ
  T = test p ss j

  long_T : length T ≡ n
  unfolding T
  long_T = length_tested ss ks p deep.ready j ∙ long

  -- the parts of the packed number are elements
  pub try_parts : Syndromes m t s
  unfolding T
  try_parts = syndromes_in (code m t n) lawful T (bits_tested ss ks p deep.ready j) s packs

  -- nothing is located: no candidate
  pub try_missed : rising_in m t n ts s ≡ none → map (candidate (code m t n) p ss j) (tried (code m t n) p ss j) ≡ none
  unfolding T tried positions
  try_missed h =
      ap (map (candidate (code m t n) p ss j))
      (none_repaired (code m t n) lawful ts tables T long_T (bits_tested ss ks p deep.ready j) s packs false 0 [] (sym h) refl)

  module _ (found : Bool) (count : ℕ) (ps : List ℕ)
      (e : positions found count ps ≡ rising_in m t n ts s) where
    module _ (z : found ≡ true) where
      -- what is located is below n, ..
      pub try_placed : count ≤ 3 → length ps ≡ 3 → Placed n count ps
      unfolding T
      try_placed = found_placed (code m t n) lawful ts tables T long_T (bits_tested ss ks p deep.ready j) s packs found count ps e z

      -- .. and distinct
      pub try_distinct : Distinct n (take count ps)
      unfolding T
      try_distinct = found_distinct (code m t n) lawful ts tables T long_T (bits_tested ss ks p deep.ready j) s packs found count ps e z

      -- a candidate, weighed
      pub try_some : (q L A : ℕ) → j < 2 ^ p → Weighs (reliabilities ss) (flipped_at (take count ps) (test p ss j)) (hard_bits ss) q L
          → A ≡ unflipped_sum (take count ps) j (2 * t + 1 - q) (take (2 * t + 1) ls)
          → map (candidate (code m t n) p ss j) (tried (code m t n) p ss j)
          ≡ some (record { word = flipped_at (take count ps) (test p ss j); q = q; L = L; A = A; j = j })
      unfolding T tried candidate
      try_some q L A below w a =
          let d = 2 * t + 1 in
          let P = take count ps in
          let c = flipped_at P (test p ss j) in
          let f : ℕ → Bool = λ x. turned (is_in x P) (is_in x (chosen j (weakest p ss))) in
          let tells =
          turned_tells (length ss) j P (weakest p ss) (hard_bits ss) (length_hard ss) (bits_hard ss deep.ready.symbols) (rw long try_distinct)
          (weak_distinct ss ks p deep.ready) in
          let bits : (i : ℕ) → i < length (take d ls) → f (get_or (take d ls) i 0 % 1024) ≡ turned (is_in (get_or (take d ls) i 0 % 1024) P) (eqb (halved i j % 2) 1)
          = λ i h. (
          let b : i < d = omega (arith, length-take d ls) in
          rw (get_or-take d ls i 0 b) (ap (turned (is_in (get_or ls i 0 % 1024) P)) (key_chosen d ss ks ls p deep i j b below))
          ) in
          ap (map (candidate (code m t n) p ss j))
          (found_repaired (code m t n) lawful ts tables T long_T (bits_tested ss ks p deep.ready j) s packs found count ps e z)
          ∙ ap some (sym (same_candidate c j w.count w.sum
          (a ∙ allowance_keys d q j P ss ls c deep.least deep.there (length_candidate ss ks p deep.ready j P) w.count f (λ i h. tells i) bits)))
