-- The hard stage's answer from the positions that are located by logarithms for a word's packed syndromes, of which only the first t
-- are asked for: lost where none are found, and otherwise the word flipped at them. Assumes nothing but what the list is asked to hold.
use Prim.Native.Nat.{ℕ, ◌^◌, ◌≤◌, ◌<◌}
use mathlib.Core.Path.{◌≡◌, refl, sym, ap, ◌∙◌}
use mathlib.Core.Logic.{◌↔◌}
use mathlib.Core.Bool.{Bool, true, false}
use mathlib.Core.List.{List}
use mathlib.Core.Option.{Option, none, some, map}
use native.Mathlib.Omega.{arith}
use lib.ListN.{length, take}
use Rattle.galois.specs.Packed.{packed}
use Rattle.bch.specs.Words.{Bits, Distinct, flipped_at}
use Rattle.bch.specs.Code.{Code, syndrome, word_length}
use Rattle.bch.specs.Hard.{repaired, hard_stage}
use Rattle.bch.proofs.codes.Settings.{Lawful, primitive_of}
use Rattle.bch.proofs.codes.SyndromeLaws.{syndrome_lt}
use Rattle.bch.proofs.decoding.Sorting.{sorted, rising_distinct, distinct_below}
use Rattle.bch.proofs.decoding.ClosedForm.{hard_located, repaired_located, located_rising}
use Rattle.bch.proofs.tables.Placing.{positions, lower_part, Placed}
use Rattle.bch.proofs.tables.CodeTables.{CodeTables, roots_in}
use Rattle.bch.proofs.logarithms.LogRoots.{quad_in, first_in, second_in, code_tables}
use Rattle.bch.proofs.logarithms.LogLocator.{rising_in}
use Rattle.bch.proofs.logarithms.LogLocated.{located_in, locate_is}
use Rattle.bch.proofs.logarithms.LogBounds.{Syndromes, syndromes_of_lem}
use Rattle.bch.proofs.logarithms.Repairs.{Repairs, placed_within}

-- the word's syndromes in one number, the first t of them
abbrev pub syndromes_of : Code → List ℕ → ℕ
syndromes_of c xs = lower_part c.t (packed (syndrome c.m 1 xs) (syndrome c.m 3 xs) (syndrome c.m 5 xs))

-- they are elements
pub syndromes_in : (c : Code) → Lawful c → (xs : List ℕ) → Bits xs → (s : ℕ) → s ≡ syndromes_of c xs → Syndromes c.m c.t s
syndromes_in c h xs bits s e =
    let lt : (i : ℕ) → syndrome c.m i xs < 2 ^ c.m = λ i. syndrome_lt c.m (primitive_of c h) i xs bits in
    syndromes_of_lem c.m c.t h.m_most h.t_least h.t_most _ _ _ s (lt 1) (lt 3) (lt 5) e

module _ (c : Code) (lawful : Lawful c) (ts : List ℕ) (tables : CodeTables c.m c.t ts) (xs : List ℕ)
    (long : length xs ≡ word_length c) (bits : Bits xs) (s : ℕ) (packs : s ≡ syndromes_of c xs) where
  abbrev S : ℕ → ℕ
  S i = syndrome c.m i xs

  abbrev quad : ℕ → ℕ
  quad = quad_in c.m (roots_in c.m ts)

  abbrev first : ℕ → ℕ
  first = first_in c.m (roots_in c.m ts)

  abbrev second : ℕ → ℕ
  second = second_in c.m (roots_in c.m ts)

  lt : (i : ℕ) → S i < 2 ^ c.m
  lt i = syndrome_lt c.m (primitive_of c lawful) i xs bits

  same : rising_in c.m c.t c.n ts s ≡ map sorted (located_in c.m c.t c.n ts (S 1) (S 3) (S 5))
  same = ap (map sorted) (locate_is c.m c.t ts tables c.n s (S 1) (S 3) (S 5) lawful.n_most (lt 1) (lt 3) (lt 5) packs)

  -- the hard stage's codeword is the word flipped at the positions found, ..
  pub repaired_in : repaired c xs ≡ map (λ (P : List ℕ). flipped_at P xs) (rising_in c.m c.t c.n ts s)
  repaired_in =
      repaired_located c lawful quad first second (code_tables c.m c.t ts tables) xs long bits
      ∙ ap (map (λ (P : List ℕ). flipped_at P xs)) (sym same)

  -- .. and there is none exactly where none are found, ..
  pub lost_in : (rising_in c.m c.t c.n ts s ≡ none) ↔ (repaired c xs ≡ none)
  lost_in = (λ e. repaired_in ∙ ap (map (λ (P : List ℕ). flipped_at P xs)) e, λ e. go (rising_in c.m c.t c.n ts s) (sym repaired_in ∙ e))
    where
      go : (o : Option (List ℕ)) → map (λ (P : List ℕ). flipped_at P xs) o ≡ none → o ≡ none
      go none e = refl
      go (some P) e = absurd (let z : ◌≡◌ {A = ℕ} 0 1 = cc in omega arith)

  -- .. they are distinct, ..
  pub distinct_in : (P : List ℕ) → rising_in c.m c.t c.n ts s ≡ some P → Distinct c.n P
  distinct_in P e =
      rising_distinct 0 c.n P (located_rising c lawful quad first second (code_tables c.m c.t ts tables) xs long bits P (sym same ∙ e))

  -- .. and its answer are they and the word
  pub hard_in : hard_stage c xs ≡ map (λ (P : List ℕ). record { word = flipped_at P xs; flipped = P }) (rising_in c.m c.t c.n ts s)
  hard_in =
      hard_located c lawful quad first second (code_tables c.m c.t ts tables) xs long bits
      ∙ ap (map (λ (P : List ℕ). record { word = flipped_at P xs; flipped = P })) (sym same)

  -- ---- as a count and a list

  module _ (found : Bool) (count : ℕ) (ps : List ℕ) (e : positions found count ps ≡ rising_in c.m c.t c.n ts s) where
    pub repairs_in : Repairs c xs found count ps
    repairs_in = hard_in ∙ ap (map (λ (P : List ℕ). record { word = flipped_at P xs; flipped = P })) (sym e)

    word : repaired c xs ≡ map (λ (P : List ℕ). flipped_at P xs) (positions found count ps)
    word = repaired_in ∙ ap (map (λ (P : List ℕ). flipped_at P xs)) (sym e)

    -- nothing is found
    pub none_repaired : found ≡ false → repaired c xs ≡ none
    unfolding positions
    none_repaired z = word ∙ ap (λ (b : Bool). map (λ (P : List ℕ). flipped_at P xs) (positions b count ps)) z

    module _ (z : found ≡ true) where
      -- the codeword is the word flipped at what is found, ..
      pub found_repaired : repaired c xs ≡ some (flipped_at (take count ps) xs)
      unfolding positions
      found_repaired = word ∙ ap (λ (b : Bool). map (λ (P : List ℕ). flipped_at P xs) (positions b count ps)) z

      -- .. which are distinct positions, ..
      pub found_distinct : Distinct c.n (take count ps)
      unfolding positions
      found_distinct = distinct_in (take count ps) (sym e ∙ ap (λ (b : Bool). positions b count ps) z)

      -- .. below n
      pub found_placed : count ≤ 3 → length ps ≡ 3 → Placed c.n count ps
      found_placed few three = placed_within c.n found count ps z few three (λ P q. distinct_below c.n P (distinct_in P (sym e ∙ q)))
