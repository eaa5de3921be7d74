-- The decoder by elements: the logarithms of elements that were computed from the syndromes, in whatever way, where they
-- pass a check. If the elements are those of a solution wherever there is one, the hard stage's answer is the word flipped
-- at those positions, which in order are those where it differs. Assumes nothing.
use Prim.Native.Nat.{ℕ, ◌-◌, ◌^◌, ◌≤◌, ◌<◌}
use native.Mathlib.Omega.{arith}
use mathlib.Core.Path.{◌≡◌, refl, sym, ap, ap₂, ◌∙◌, subst}
use mathlib.Core.Bool.{Bool, true, false, cond, ◌&&◌, ◌||◌}
use mathlib.Core.List.Memᴰ
use mathlib.Core.List.{List, [], ◌∷◌, map, Memᴰ}
use mathlib.Core.Option
use mathlib.Core.Option.{Option, none, some, some-injective}
use lib.Dec.{T, eqb, ltb, eqb→eq, ltb→lt, lt→ltb, nltb→le}
use lib.ListN.{length, length-map}
use Rattle.galois.specs.Field.{log}
use Rattle.galois.proofs.Tests.{and_left, and_right, and_intro, or_right, or_intro, eq→eqb}
use Rattle.galois.proofs.Primitive.{Primitive}
use Rattle.galois.proofs.FieldLaws.{log_alpha}
use Rattle.galois.proofs.FieldOf.{El, power}
use Rattle.bch.specs.Words.{Below, Bits, Distinct, flipped_at, differences}
use Rattle.bch.specs.Code.{Code, syndrome, word_length}
use Rattle.bch.specs.Hard.{Repair, repaired, hard_stage}
use Rattle.bch.proofs.codes.Settings.{Lawful, primitive_of}
use Rattle.bch.proofs.codes.Trials.{mapping}
use Rattle.bch.proofs.codes.Positions.{Rising, rising_member, sum_at, flipped_differences, locators, length_locators}
use Rattle.bch.proofs.codes.HardLaws.{repaired_some}
use Rattle.bch.proofs.decoding.Located.{Summed, Solution, Located, near_located, repaired_summed, repaired_unlocated}
use Rattle.bch.proofs.decoding.Sorting.{sorted, length_sorted, sorted_is, sum_sorted, sorted_distinct, distinct_below}

-- ---- the checks

-- the positions add up to the syndromes
unfoldable pub is_summed : ℕ → ℕ → ℕ → ℕ → ℕ → List ℕ → Bool
unfolding sum_at
is_summed m t s1 s3 s5 P = eqb (sum_at m 1 P) s1 && (ltb t 2 || eqb (sum_at m 3 P) s3) && (ltb t 3 || eqb (sum_at m 5 P) s5)

-- they are below n
unfoldable pub is_below : ℕ → List ℕ → Bool
is_below n [] = true
is_below n (p ∷ P) = ltb p n && is_below n P

module _ (m t s1 s3 s5 : ℕ) (P : List ℕ) where
  first : Bool
  first = eqb (sum_at m 1 P) s1

  third : Bool
  third = ltb t 2 || eqb (sum_at m 3 P) s3

  fifth : Bool
  fifth = ltb t 3 || eqb (sum_at m 5 P) s5

  -- at most t positions that pass are summed, ..
  pub is_summed→ : length P ≤ t → T (is_summed m t s1 s3 s5 P) → Summed m t s1 s3 s5 P
  unfolding is_summed first third fifth
  is_summed→ few h =
      let k : T (first && third) = and_left (first && third) fifth h in
      record {
        few = few;
        sum1 = eqb→eq (sum_at m 1 P) s1 (and_left first third k);
        sum3 = λ l. eqb→eq (sum_at m 3 P) s3 (or_right (ltb t 2) (eqb (sum_at m 3 P) s3) (and_right first third k) (λ b. omega (arith, ltb→lt t 2 b)));
        sum5 = λ l. eqb→eq (sum_at m 5 P) s5 (or_right (ltb t 3) (eqb (sum_at m 5 P) s5) (and_right (first && third) fifth h)
            (λ b. omega (arith, ltb→lt t 3 b)));
      }

  -- .. and summed ones pass
  pub →is_summed : Summed m t s1 s3 s5 P → T (is_summed m t s1 s3 s5 P)
  unfolding is_summed first third fifth
  →is_summed s =
      and_intro (first && third) fifth
      (and_intro first third (eq→eqb (sum_at m 1 P) s1 s.sum1)
      (or_intro (ltb t 2) (eqb (sum_at m 3 P) s3) (λ l. eq→eqb (sum_at m 3 P) s3 (s.sum3 (nltb→le t 2 l)))))
      (or_intro (ltb t 3) (eqb (sum_at m 5 P) s5) (λ l. eq→eqb (sum_at m 5 P) s5 (s.sum5 (nltb→le t 3 l))))

-- positions that pass are below n, ..
pub is_below→ : (n : ℕ) (P : List ℕ) → T (is_below n P) → Below n P
unfolding is_below Below
is_below→ n [] h = tt
is_below→ n (p ∷ P) h = (ltb→lt p n (and_left (ltb p n) (is_below n P) h), is_below→ n P (and_right (ltb p n) (is_below n P) h))

-- .. and positions below n pass
pub →is_below : (n : ℕ) (P : List ℕ) → Below n P → T (is_below n P)
unfolding is_below Below
→is_below n [] h = tt
→is_below n (p ∷ P) h = and_intro (ltb p n) (is_below n P) (lt→ltb p n h.0) (→is_below n P h.1)

-- ---- the decoder

-- the list, where a test of it holds
unfoldable pub when : Bool → List ℕ → Option (List ℕ)
when b P = cond b (some P) none

-- the logarithms of the elements E, in the order in which they are computed, where they pass
unfoldable pub attempted : ℕ → ℕ → ℕ → ℕ → ℕ → ℕ → List ℕ → Option (List ℕ)
unfolding when is_below is_summed
attempted m t n s1 s3 s5 E =
    let P = map (log m) E in
    when (is_below n P && is_summed m t s1 s3 s5 P) P

-- what is given passed
pub when_some : (b : Bool) (Q P : List ℕ) → when b Q ≡ some P → T b × (Q ≡ P)
unfolding when
when_some true Q P e = (tt, cc)
when_some false Q P e = absurd (let z : ◌≡◌ {A = ℕ} 0 1 = cc in omega arith)

when_none : (b : Bool) (P : List ℕ) → when b P ≡ none → T b → ⊥
unfolding when
when_none true P e t = let z : ◌≡◌ {A = ℕ} 0 1 = cc in omega arith
when_none false P e t = t

-- ---- what is asked of the elements

-- numbers C that hold all elements of A, and no more
pub record Covers (m : ℕ) (C : List ℕ) (A : List (El m)) : Type 0 where
  pub inside : (a : El m) → Memᴰ a A → Memᴰ a.0 C
  pub short : length C ≤ length A

-- at most t elements E, the locators of a solution wherever there is one
pub record Finds (m : ℕ) (g : Primitive m) (t n s1 s3 s5 : ℕ) (E : List ℕ) : Type 0 where
  pub short : length E ≤ t
  pub covers : (P : List ℕ) → Solution m t n s1 s3 s5 P → Covers m E (locators m g P)

-- ---- soundness: by the checks

module _ (m t n s1 s3 s5 : ℕ) (E : List ℕ) where
  -- what is found are the logarithms, ..
  pub attempted_logs : (P : List ℕ) → attempted m t n s1 s3 s5 E ≡ some P → map (log m) E ≡ P
  unfolding attempted
  attempted_logs P e = (when_some (is_below n (map (log m) E) && is_summed m t s1 s3 s5 (map (log m) E)) (map (log m) E) P e).1

  -- .. below n and summed
  pub attempted_sound : length E ≤ t → (P : List ℕ) → attempted m t n s1 s3 s5 E ≡ some P → Below n P × Summed m t s1 s3 s5 P
  unfolding attempted
  attempted_sound short P e =
      let L = map (log m) E in
      let (h, q) = when_some (is_below n L && is_summed m t s1 s3 s5 L) L P e in
      subst (λ (Q : List ℕ). Below n Q × Summed m t s1 s3 s5 Q) q (
        is_below→ n L (and_left (is_below n L) (is_summed m t s1 s3 s5 L) h),
        is_summed→ m t s1 s3 s5 L (omega (arith, length-map E (log m))) (and_right (is_below n L) (is_summed m t s1 s3 s5 L) h),
      )

-- ---- completeness: the locators of a solution are the elements

module _ (m : ℕ) (g : Primitive m) (t n s1 s3 s5 : ℕ) (fits : n ≤ 2 ^ m - 1) (E : List ℕ) (found : Finds m g t n s1 s3 s5 E) where
  abbrev L : List ℕ
  L = map (log m) E

  -- the logarithms in order are the positions of a solution
  pub logs_are : (P : List ℕ) → Solution m t n s1 s3 s5 P → sorted (map (log m) E) ≡ P
  logs_are P s = sorted_is 0 n P L s.rising member (omega (arith, length-map E (log m), length_locators m g P, all.short))
    where
      all : Covers m E (locators m g P)
      all = found.covers P s

      member : (p : ℕ) → Memᴰ p P → Memᴰ p L
      member p k =
          let below : p < n = (rising_member 0 n P s.rising p k).1 in
          Memᴰ.cast (sym (log_alpha m g p (omega arith))) (mapping (log m) (all.inside (power m g p) (mapping (power m g) k)))

  -- so where there is a solution they are distinct, ..
  logs_distinct : (P : List ℕ) → Solution m t n s1 s3 s5 P → Distinct n L
  logs_distinct P s = sorted_distinct n L (subst (Rising 0 n) (sym (logs_are P s)) s.rising)

  -- .. and where nothing is found there is none
  pub attempted_none : attempted m t n s1 s3 s5 E ≡ none → (P : List ℕ) → Solution m t n s1 s3 s5 P → ⊥
  unfolding attempted
  attempted_none e P s =
      when_none (is_below n L && is_summed m t s1 s3 s5 L) L e
      (and_intro (is_below n L) (is_summed m t s1 s3 s5 L) (→is_below n L (distinct_below n L (logs_distinct P s))) (→is_summed m t s1 s3 s5 L summed))
    where
      q : sorted L ≡ P
      q = logs_are P s

      sum : (i : ℕ) → sum_at m i L ≡ sum_at m i P
      sum i = sym (sum_sorted m i L) ∙ ap (sum_at m i) q

      summed : Summed m t s1 s3 s5 L
      summed =
          record {
            few = omega (arith, length_sorted L, ap length q, s.summed.few);
            sum1 = sum 1 ∙ s.summed.sum1;
            sum3 = λ h. sum 3 ∙ s.summed.sum3 h;
            sum5 = λ h. sum 5 ∙ s.summed.sum5 h;
          }

-- ---- the hard stage

-- elements for the word's syndromes
abbrev pub FindsFor : (c : Code) → Lawful c → List ℕ → List ℕ → Type 0
FindsFor c is_code xs E =
    Finds c.m (primitive_of c is_code) c.t c.n (syndrome c.m 1 xs) (syndrome c.m 3 xs) (syndrome c.m 5 xs) E

module _ (c : Code) (is_code : Lawful c) (xs : List ℕ) (long : length xs ≡ word_length c) (bits : Bits xs) (E : List ℕ)
    (found : FindsFor c is_code xs E) where
  abbrev S : ℕ → ℕ
  S i = syndrome c.m i xs

  -- the positions found
  abbrev pub tried : Option (List ℕ)
  tried = attempted c.m c.t c.n (S 1) (S 3) (S 5) E

  -- where there are some, the answer is the word flipped there, ..
  tried_some : (P : List ℕ) → tried ≡ some P → repaired c xs ≡ some (flipped_at P xs)
  tried_some P e =
      let r = attempted_sound c.m c.t c.n (S 1) (S 3) (S 5) E found.short P e in
      repaired_summed c is_code xs long bits P r.0 r.1

  -- .. and where there are none, there is no answer
  tried_none : tried ≡ none → repaired c xs ≡ none
  tried_none e =
      repaired_unlocated c is_code xs long bits
      (attempted_none c.m (primitive_of c is_code) c.t c.n (S 1) (S 3) (S 5) is_code.n_most E found e)

  module _ (P : List ℕ) (e : tried ≡ some P) where
    abbrev D : List ℕ
    D = differences 0 xs (flipped_at P xs)

    located : Located c xs D
    located =
        let (v, h) = repaired_some c xs long bits (flipped_at P xs) (tried_some P e) in
        near_located c is_code xs long bits (flipped_at P xs) v h

    -- in order they are the positions where the codeword differs from the word, ..
    tried_sorted : sorted P ≡ differences 0 xs (flipped_at P xs)
    tried_sorted =
        ap sorted (sym (attempted_logs c.m c.t c.n (S 1) (S 3) (S 5) E P e))
        ∙ logs_are c.m (primitive_of c is_code) c.t c.n (S 1) (S 3) (S 5) is_code.n_most E found D located

    -- .. so they rise, ..
    tried_rising : Rising 0 c.n (sorted P)
    tried_rising = subst (Rising 0 c.n) (sym tried_sorted) located.rising

    -- .. and the codeword is the word flipped at them
    sorted_flipped : flipped_at (sorted P) xs ≡ flipped_at P xs
    sorted_flipped =
        let v = (repaired_some c xs long bits (flipped_at P xs) (tried_some P e)).0 in
        ap (λ (Q : List ℕ). flipped_at Q xs) tried_sorted ∙ flipped_differences xs (flipped_at P xs) bits v.bits (long ∙ sym v.long)

  -- the positions found, in order
  abbrev ordered : Option (List ℕ)
  ordered = Option.map sorted tried

  -- so the hard stage's codeword is the word flipped at them, ..
  pub repaired_tried : repaired c xs ≡ Option.map (λ (P : List ℕ). flipped_at P xs) ordered
  repaired_tried = go tried refl
    where
      go : (o : Option (List ℕ)) → tried ≡ o → repaired c xs ≡ Option.map (λ (P : List ℕ). flipped_at P xs) (Option.map sorted o)
      go none e = tried_none e
      go (some P) e = tried_some P e ∙ ap some (sym (sorted_flipped P e))

  -- .. they rise, ..
  pub ordered_rising : (P : List ℕ) → ordered ≡ some P → Rising 0 c.n P
  ordered_rising P = go tried refl
    where
      go : (o : Option (List ℕ)) → tried ≡ o → Option.map sorted o ≡ some P → Rising 0 c.n P
      go none e h = absurd (let z : ◌≡◌ {A = ℕ} 0 1 = cc in omega arith)
      go (some Q) e h = subst (Rising 0 c.n) (some-injective (sorted Q) P h) (tried_rising Q e)

  -- .. and its answer are they and the word
  pub hard_tried : hard_stage c xs ≡ Option.map (λ (P : List ℕ). record { word = flipped_at P xs; flipped = P }) ordered
  unfolding hard_stage
  hard_tried = go tried refl
    where
      stage : Option (List ℕ) → Option Repair
      stage = Option.map (λ (w : List ℕ). record { word = w; flipped = differences 0 xs w })

      go : (o : Option (List ℕ)) → tried ≡ o
          → stage (repaired c xs) ≡ Option.map (λ (P : List ℕ). record { word = flipped_at P xs; flipped = P }) (Option.map sorted o)
      go none e = ap stage (tried_none e)
      go (some P) e =
          ap stage (tried_some P e)
          ∙ ap₂ (λ (w Q : List ℕ). some (record { word = w; flipped = Q })) (sym (sorted_flipped P e)) (sym (tried_sorted P e))
