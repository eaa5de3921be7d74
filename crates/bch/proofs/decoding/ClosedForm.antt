-- The hard stage in closed form: the positions to flip, from a word's syndromes and tables of solutions, without a search
-- over the positions. Assumes nothing but what the tables that t needs are asked to be; and there are such tables.
use Prim.Native.Nat.{ℕ}
use mathlib.Core.Path.{◌≡◌, refl, ap, ap₂, ◌∙◌}
use mathlib.Core.List.{List, [], ◌∷◌, map}
use mathlib.Core.Option
use mathlib.Core.Option.{Option, none, some}
use lib.ListN.{length}
use Rattle.galois.specs.Field.{mul}
use Rattle.bch.specs.Words.{Bits, flipped_at}
use Rattle.bch.specs.Code.{Code, syndrome, word_length}
use Rattle.bch.specs.Hard.{repaired, hard_stage}
use Rattle.bch.proofs.codes.Settings.{Lawful, primitive_of}
use Rattle.bch.proofs.codes.Positions.{Rising, sum_at}
use Rattle.bch.proofs.decoding.Decoder.{attempted, FindsFor, repaired_tried, ordered_rising, hard_tried}
use Rattle.bch.proofs.decoding.Elements.{Quadratics, elements, elements_find}
use Rattle.bch.proofs.decoding.KappaDecoder.{Kappas, kappas, kappas_more}
use Rattle.bch.proofs.decoding.Solvers.{quad_of, first_of, second_of, quadratics, kappa_tables}
use Rattle.bch.proofs.decoding.Sorting.{sorted}

-- the tables that t errors need
pub record Tables (m t : ℕ) (quad first second : ℕ → ℕ) : Type 0 where
  pub quadratics : t ≡ 2 → Quadratics m quad
  pub kappas : t ≡ 3 → Kappas m first second

-- the positions that are found for the syndromes s1, s3 and s5
unfoldable pub located : ℕ → ℕ → ℕ → (ℕ → ℕ) → (ℕ → ℕ) → (ℕ → ℕ) → ℕ → ℕ → ℕ → Option (List ℕ)
unfolding attempted elements kappas
located m t n quad first second s1 s3 s5 = attempted m t n s1 s3 s5 (elements m quad (kappas m first second) t s1 s3 s5)

-- they are found from the elements
pub located_from : (m t n : ℕ) (quad first second : ℕ → ℕ) (s1 s3 s5 x y z : ℕ) (E : List ℕ) {o : Option (List ℕ)} → o ≡ attempted m t n s1 s3 s5 E
    → E ≡ elements m quad (kappas m first second) t x y z → x ≡ s1 → y ≡ s3 → z ≡ s5 → o ≡ located m t n quad first second s1 s3 s5
unfolding located
located_from m t n quad first second s1 s3 s5 x y z E h e hx hy hz =
    let F : ℕ → ℕ → ℕ → List ℕ = elements m quad (kappas m first second) t in
    h ∙ ap (attempted m t n s1 s3 s5) (e ∙ ap₂ (λ (a b : ℕ). F a b z) hx hy ∙ ap (F s1 s3) hz)

module _ (c : Code) (is_code : Lawful c) (quad first second : ℕ → ℕ) (tables : Tables c.m c.t quad first second) (xs : List ℕ)
    (long : length xs ≡ word_length c) (bits : Bits xs) where
  abbrev S : ℕ → ℕ
  S i = syndrome c.m i xs

  abbrev E : List ℕ
  E = elements c.m quad (kappas c.m first second) c.t (S 1) (S 3) (S 5)

  found : FindsFor c is_code xs E
  found =
      elements_find c.m (primitive_of c is_code) quad (kappas c.m first second) c.n (S 1) (S 3) (S 5) is_code.n_most c.t is_code.t_least
      is_code.t_most tables.quadratics (λ e. kappas_more c.m (primitive_of c is_code) first second (tables.kappas e))

  -- the positions found, in order
  abbrev ordered : Option (List ℕ)
  ordered = Option.map sorted (located c.m c.t c.n quad first second (S 1) (S 3) (S 5))

  -- the hard stage's codeword is the word flipped at them, ..
  pub repaired_located : repaired c xs ≡ Option.map (λ (P : List ℕ). flipped_at P xs) ordered
  unfolding located
  repaired_located = repaired_tried c is_code xs long bits E found

  -- .. they rise, ..
  pub located_rising : (P : List ℕ) → ordered ≡ some P → Rising 0 c.n P
  unfolding located
  located_rising P e = ordered_rising c is_code xs long bits E found P e

  -- .. and its answer are they and the word
  pub hard_located : hard_stage c xs ≡ Option.map (λ (P : List ℕ). record { word = flipped_at P xs; flipped = P }) ordered
  unfolding located
  hard_located = hard_tried c is_code xs long bits E found

-- ---- tables are to be had

solved : (m t : ℕ) → Tables m t (quad_of m) (first_of m) (second_of m)
solved m t = record { quadratics = λ e. quadratics m; kappas = λ e. kappa_tables m }

-- the positions, with tables of solutions that are found by search
unfoldable pub closed_form : Code → List ℕ → Option (List ℕ)
unfolding located quad_of first_of second_of syndrome
closed_form c xs =
    located c.m c.t c.n (quad_of c.m) (first_of c.m) (second_of c.m) (syndrome c.m 1 xs) (syndrome c.m 3 xs) (syndrome c.m 5 xs)

-- so the hard stage of every code is to be had in closed form
pub hard_closed : (c : Code) → Lawful c → (xs : List ℕ) → length xs ≡ word_length c → Bits xs
    → hard_stage c xs ≡ Option.map (λ (P : List ℕ). record { word = flipped_at P xs; flipped = P }) (Option.map sorted (closed_form c xs))
unfolding closed_form
hard_closed c is_code xs long bits =
    hard_located c is_code (quad_of c.m) (first_of c.m) (second_of c.m) (solved c.m c.t) xs long bits

-- ---- worked cases: one for each way through it

-- what is found for the sums over given positions, in the order in which it is computed
found_for : ℕ → ℕ → ℕ → List ℕ → Option (List ℕ)
unfolding located quad_of first_of second_of sum_at mul
found_for m t n P = located m t n (quad_of m) (first_of m) (second_of m) (sum_at m 1 P) (sum_at m 3 P) (sum_at m 5 P)

-- t = 2: none, one, two; one of two at or beyond n; more than t
two_cases : map (found_for 5 2 20) ([] ∷ (7 ∷ []) ∷ (3 ∷ 19 ∷ []) ∷ (3 ∷ 20 ∷ []) ∷ (0 ∷ 1 ∷ 2 ∷ []) ∷ [])
    ≡ some [] ∷ some (7 ∷ []) ∷ some (3 ∷ 19 ∷ []) ∷ none ∷ none ∷ []
unfolding found_for
two_cases = refl

-- t = 3: none, one, two and three by κ; one of three at or beyond n
three_cases : map (found_for 5 3 20) ([] ∷ (7 ∷ []) ∷ (3 ∷ 19 ∷ []) ∷ (0 ∷ 1 ∷ 2 ∷ []) ∷ (0 ∷ 1 ∷ 20 ∷ []) ∷ [])
    ≡ some [] ∷ some (7 ∷ []) ∷ some (3 ∷ 19 ∷ []) ∷ some (0 ∷ 1 ∷ 2 ∷ []) ∷ none ∷ []
unfolding found_for
three_cases = refl

-- three by cube roots
cube_case : found_for 6 3 40 (0 ∷ 1 ∷ 8 ∷ []) ≡ some (8 ∷ 0 ∷ 1 ∷ [])
unfolding found_for
cube_case = refl
