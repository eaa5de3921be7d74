-- Laws of the hard stage: the words that it tries are those within t flips, its answer is the one codeword among them, and
-- it says lost exactly when there is none. Assumes nothing.
use Prim.Native.Nat.{ℕ, zero, suc, ◌+◌, ◌-◌, ◌≤◌, ◌<◌}
use native.Mathlib.Omega.{arith}
use native.Mathlib.Decide.{dec_le}
use mathlib.Core.Path.{◌≡◌, refl, sym, ap, ◌∙◌, subst}
use mathlib.Core.Logic.{◌⊎◌, inl, inr, ◌↔◌}
use mathlib.Core.Bool.{Bool, true, false, cond}
use mathlib.Core.List.Memᴰ
use mathlib.Core.List.{List, [], ◌∷◌, map, Memᴰ}
use mathlib.Core.Option
use mathlib.Core.Option.{Option, none, some, some-injective}
use lib.Dec.{eqb}
use lib.ListN.{length}
use Rattle.bch.specs.Code.{Code, Codeword, word_length, is_codeword}
use Rattle.bch.specs.Hard.{words_at, words_within, Repair, repaired, hard_stage}
use Rattle.bch.specs.Words.{Below, Bits, flips, flipped_at, differences}
use Rattle.bch.proofs.codes.Trials.{mapped, mapping, first_some, first_none}
use Rattle.bch.proofs.codes.Settings.{Lawful}
use Rattle.bch.proofs.codes.Positions.{Rising, length_differences, rising_differences, flipped_differences}
use Rattle.bch.proofs.codes.Distance.{codewords_far}
use Rattle.bch.proofs.codes.Counting.{Compared, alike, unlike, compared, differ, differ_same, flips_same, flips_zero, flips_sym, flips_triangle}

-- ---- the words around a word

-- the other bit is a bit, ..
pub other_bit : (x : ℕ) → x < 2 → 1 - x < 2
other_bit x h = omega arith

-- .. differs, ..
pub differ_other : (x : ℕ) → x < 2 → differ (1 - x) x ≡ 1
differ_other x h = go (eqb (1 - x) x) (compared (1 - x) x)
  where
    go : (b : Bool) → Compared (1 - x) x b → ◌≡◌ {A = ℕ} (cond b 0 1) 1
    go true (alike e) = absurd (omega arith)
    go false (unlike f) = refl

-- .. and is the only one that does
pub other_of : (x y : ℕ) → x < 2 → y < 2 → (y ≡ x → ⊥) → y ≡ 1 - x
other_of x y h k f = omega arith

-- a word with q flips from xs
pub record At (q : ℕ) (xs ys : List ℕ) : Type 0 where
  pub long : length ys ≡ length xs
  pub bits : Bits ys
  pub count : flips ys xs ≡ q

-- the words of `words_at` are those, ..
pub at_words : (q : ℕ) (xs ys : List ℕ) → Bits xs → Memᴰ ys (words_at q xs) → At q xs ys
unfolding words_at flips Below
at_words zero xs ys b (Memᴰ.head e) = rw e (record { long = refl; bits = b; count = flips_same xs })
at_words zero xs ys b (Memᴰ.tail m) = absurd (Memᴰ.not-nil m)
at_words (suc q) [] ys b m = absurd (Memᴰ.not-nil m)
at_words (suc q) (x ∷ xs) ys b m =
    go (λ w. at_words q xs w b.1) (λ w. at_words (suc q) xs w b.1)
    (Memᴰ.append_cases (map (λ (ys : List ℕ). (1 - x) ∷ ys) (words_at q xs)) m)
  where
    go : ((w : List ℕ) → Memᴰ w (words_at q xs) → At q xs w) → ((w : List ℕ) → Memᴰ w (words_at (suc q) xs) → At (suc q) xs w)
        → Memᴰ ys (map (λ (ys : List ℕ). (1 - x) ∷ ys) (words_at q xs))
        ⊎ Memᴰ ys (map (λ (ys : List ℕ). x ∷ ys) (words_at (suc q) xs)) → At (suc q) (x ∷ xs) ys
    go f g (inl k) =
        let (w, i, e) = mapped (λ (ys : List ℕ). (1 - x) ∷ ys) (words_at q xs) k in
        let r = f w i in
        rw e (record { long = omega arith; bits = (other_bit x b.0, r.bits); count = omega (arith, differ_other x b.0) })
    go f g (inr k) =
        let (w, i, e) = mapped (λ (ys : List ℕ). x ∷ ys) (words_at (suc q) xs) k in
        let r = g w i in
        rw e (record { long = omega arith; bits = (b.0, r.bits); count = omega (arith, differ_same x x refl) })

-- .. and all of them
pub words_at_lem : (q : ℕ) (xs ys : List ℕ) → Bits xs → At q xs ys → Memᴰ ys (words_at q xs)
unfolding words_at flips Below
words_at_lem zero xs ys b a = Memᴰ.head (flips_zero ys xs a.long a.count)
words_at_lem (suc q) [] [] b a = absurd (omega arith)
words_at_lem (suc q) [] (y ∷ ys) b a = absurd (omega arith)
words_at_lem (suc q) (x ∷ xs) [] b a = absurd (omega arith)
words_at_lem (suc q) (x ∷ xs) (y ∷ ys) b a = go (eqb y x) (compared y x) a.count (words_at_lem q xs ys b.1) (words_at_lem (suc q) xs ys b.1)
  where
    go : (c : Bool) → Compared y x c → cond c 0 1 + flips ys xs ≡ suc q → (At q xs ys → Memᴰ ys (words_at q xs))
        → (At (suc q) xs ys → Memᴰ ys (words_at (suc q) xs))
        → Memᴰ (y ∷ ys) (words_at (suc q) (x ∷ xs))
    go true (alike e) h f g =
        rw e (Memᴰ.append_right (map (λ (ys : List ℕ). (1 - x) ∷ ys) (words_at q xs))
        (mapping (λ (ys : List ℕ). x ∷ ys) (g (record { long = omega arith; bits = a.bits.1; count = omega arith }))))
    go false (unlike n) h f g =
        rw (other_of x y b.0 a.bits.0 n) (Memᴰ.append_left (map (λ (ys : List ℕ). x ∷ ys) (words_at (suc q) xs))
        (mapping (λ (ys : List ℕ). (1 - x) ∷ ys) (f (record { long = omega arith; bits = a.bits.1; count = omega arith }))))

-- a word with at most t flips from xs
pub record Within (t : ℕ) (xs ys : List ℕ) : Type 0 where
  pub long : length ys ≡ length xs
  pub bits : Bits ys
  pub count : flips ys xs ≤ t

-- the words of `words_within` are those, ..
pub within_words : (t : ℕ) (xs ys : List ℕ) → Bits xs → Memᴰ ys (words_within t xs) → Within t xs ys
unfolding words_within
within_words zero xs ys b m = let r = at_words zero xs ys b m in record { long = r.long; bits = r.bits; count = omega arith }
within_words (suc t) xs ys b m = go (within_words t xs ys b) (Memᴰ.append_cases (words_within t xs) m)
  where
    go : (Memᴰ ys (words_within t xs) → Within t xs ys) → Memᴰ ys (words_within t xs) ⊎ Memᴰ ys (words_at (suc t) xs)
        → Within (suc t) xs ys
    go f (inl k) = let r = f k in record { long = r.long; bits = r.bits; count = omega arith }
    go f (inr k) = let r = at_words (suc t) xs ys b k in record { long = r.long; bits = r.bits; count = omega arith }

-- .. and all of them
pub words_within_lem : (t : ℕ) (xs ys : List ℕ) → Bits xs → Within t xs ys → Memᴰ ys (words_within t xs)
unfolding words_within
words_within_lem zero xs ys b r = words_at_lem zero xs ys b (record { long = r.long; bits = r.bits; count = omega arith })
words_within_lem (suc t) xs ys b r = go (dec_le (flips ys xs) t) (words_within_lem t xs ys b)
  where
    go : Dec (flips ys xs ≤ t) → (Within t xs ys → Memᴰ ys (words_within t xs)) → Memᴰ ys (words_within (suc t) xs)
    go (yes h) f = Memᴰ.append_left (words_at (suc t) xs) (f (record { long = r.long; bits = r.bits; count = h }))
    go (no h) f = Memᴰ.append_right (words_within t xs) (words_at_lem (suc t) xs ys b (record { long = r.long; bits = r.bits; count = omega arith }))

-- ---- the hard stage

module _ (code : Code) (xs : List ℕ) (long : length xs ≡ word_length code) (bits : Bits xs) where
  -- an answer is a codeword within t flips
  pub repaired_some : (c : List ℕ) → repaired code xs ≡ some c → Codeword code c × (flips c xs ≤ code.t)
  unfolding repaired
  repaired_some c e =
      let (m, p) = first_some (is_codeword code) c (words_within code.t xs) e in
      let r = within_words code.t xs c bits m in
      (record { long = r.long ∙ long; bits = r.bits; passes = p }, r.count)

  -- where there is no answer, no codeword is
  pub repaired_none : repaired code xs ≡ none → (c : List ℕ) → Codeword code c → flips c xs ≤ code.t → ⊥
  unfolding repaired
  repaired_none e c w h = first_none (is_codeword code) c (words_within code.t xs) e
      (words_within_lem code.t xs c bits (record { long = w.long ∙ sym long; bits = w.bits; count = h })) w.passes

module _ (code : Code) (is_code : Lawful code) (xs : List ℕ) (long : length xs ≡ word_length code) (bits : Bits xs) where
  -- one codeword at most is within t flips of a word
  pub alone : (a b : List ℕ) → Codeword code a → Codeword code b → flips a xs ≤ code.t → flips b xs ≤ code.t → a ≡ b
  alone a b v w h k =
      codewords_far code is_code a b v w (omega (arith, flips_triangle a xs b (v.long ∙ sym long), flips_sym xs b))

  -- so a codeword within t flips is the answer
  pub repaired_near : (c : List ℕ) → Codeword code c → flips c xs ≤ code.t → repaired code xs ≡ some c
  repaired_near c w h = go (repaired code xs) refl
    where
      go : (o : Option (List ℕ)) → repaired code xs ≡ o → repaired code xs ≡ some c
      go none e = absurd (repaired_none code xs long bits e c w h)
      go (some b) e = let (v, k) = repaired_some code xs long bits b e in
          let q : b ≡ c = alone b c v w k h in cc

  -- ---- the hard stage's answer

  -- it is a codeword within t flips and the positions where it differs, and there is no other, ..
  pub hard_found : (r : Repair) → (hard_stage code xs ≡ some r)
      ↔ (Codeword code r.word × (flips r.word xs ≤ code.t) × (r.flipped ≡ differences 0 xs r.word))
  unfolding hard_stage
  hard_found r = (λ e. there (repaired code xs) refl e, back)
    where
      stage : Option (List ℕ) → Option Repair
      stage = Option.map (λ (w : List ℕ). record { word = w; flipped = differences 0 xs w })

      there : (o : Option (List ℕ)) → repaired code xs ≡ o → stage o ≡ some r
          → Codeword code r.word × (flips r.word xs ≤ code.t) × (r.flipped ≡ differences 0 xs r.word)
      there none h e = absurd (let z : ◌≡◌ {A = ℕ} 0 1 = cc in omega arith)
      there (some w) h e =
          let q : record { word = w; flipped = differences 0 xs w } ≡ r = some-injective (record { word = w; flipped = differences 0 xs w }) r e in
          let (v, k) = repaired_some code xs long bits w h in
          subst (λ (s : Repair). Codeword code s.word × (flips s.word xs ≤ code.t) × (s.flipped ≡ differences 0 xs s.word)) q (v, k, refl)

      back : Codeword code r.word × (flips r.word xs ≤ code.t) × (r.flipped ≡ differences 0 xs r.word) → stage (repaired code xs) ≡ some r
      back h =
          ap stage (repaired_near r.word h.0 h.1) ∙ ap (λ (P : List ℕ). some (record { word = r.word; flipped = P })) (sym h.2)

  -- .. the positions are as many as the flips, they rise and are below n, and the word flipped there is the codeword, ..
  pub hard_flipped : (r : Repair) → hard_stage code xs ≡ some r
      → (length r.flipped ≡ flips r.word xs) × Rising 0 code.n r.flipped × (flipped_at r.flipped xs ≡ r.word)
  hard_flipped r e =
      let (v, h, q) = (hard_found r).0 e in
      let D = differences 0 xs r.word in (
        ap length q ∙ length_differences 0 xs r.word ∙ flips_sym xs r.word,
        subst (Rising 0 code.n) (sym q) (rising_differences 0 code.n xs r.word (omega (arith, long))),
        ap (λ (P : List ℕ). flipped_at P xs) q ∙ flipped_differences xs r.word bits v.bits (long ∙ sym v.long),
      )

  -- .. and the word is lost exactly when no codeword is within t flips
  pub hard_lost : (hard_stage code xs ≡ none) ↔ ((w : List ℕ) → Codeword code w → flips w xs ≤ code.t → ⊥)
  hard_lost = (there, λ f. back f (hard_stage code xs) refl)
    where
      there : hard_stage code xs ≡ none → (w : List ℕ) → Codeword code w → flips w xs ≤ code.t → ⊥
      there e w v h =
          let found : hard_stage code xs ≡ some (record { word = w; flipped = differences 0 xs w }) =
          (hard_found (record { word = w; flipped = differences 0 xs w })).1 (v, h, refl) in
          let z : ◌≡◌ {A = ℕ} 0 1 = cc in
          omega arith

      back : ((w : List ℕ) → Codeword code w → flips w xs ≤ code.t → ⊥) → (o : Option Repair) → hard_stage code xs ≡ o → hard_stage code xs ≡ none
      back f none e = e
      back f (some r) e = let (v, h, k) = (hard_found r).0 e in absurd (f r.word v h)
