-- Test words: test word j is the hard bits flipped at the weak positions that j chooses. How it is had from the test word
-- without its highest bit, and how a loop goes through the positions chosen. Assumes nothing.
use Prim.Native.Nat.{ℕ, zero, suc, ◌+◌, ◌/◌, ◌%◌, ◌^◌, ◌<◌}
use native.Mathlib.Omega.{arith}
use native.Mathlib.Nat.{pow-succ'}
use native.Mathlib.Numerals.{add-one}
use mathlib.Core.Path.{◌≡◌, refl, ap, sym, ◌∙◌}
use mathlib.Core.Bool.{Bool, true, false, cond}
use mathlib.Core.List.{List, [], ◌∷◌, ◌++◌}
use borrow.Author.Tests.{eq-eqb, ne_eqb}
use lib.Dec.{eqb}
use lib.ListN.{length, get_or, take, drop, length-drop}
use lib.Seq.{drop-cons, drop-length, get_or-drop, ext_get_or}
use Rattle.bch.specs.Words.{flip, flipped_at, is_in, Distinct}
use Rattle.bch.proofs.codes.Flipped.{flipped_append, is_in_cons, not_before}
use Rattle.chase.specs.Soft.{hard_bits, test_word}
use Rattle.chase.proofs.test_words.Reach.{length_hard, hard_at}

-- the weak positions that test word j flips
unfoldable pub chosen : ℕ → List ℕ → List ℕ
chosen j [] = []
chosen j (w ∷ ws) = cond (eqb (j % 2) 1) (w ∷ chosen (j / 2) ws) (chosen (j / 2) ws)

-- a test word is the word flipped at the chosen weak positions
pub test_flipped : (j : ℕ) (ws xs : List ℕ) → test_word j ws xs ≡ flipped_at (chosen j ws) xs
unfolding test_word flipped_at chosen
test_flipped j [] xs = refl
test_flipped j (w ∷ ws) xs = test_flipped (j / 2) ws (cond (eqb (j % 2) 1) (flip xs w) xs) ∙ go (eqb (j % 2) 1)
  where
    go : (b : Bool) → flipped_at (chosen (j / 2) ws) (cond b (flip xs w) xs) ≡ flipped_at (cond b (w ∷ chosen (j / 2) ws) (chosen (j / 2) ws)) xs
    go true = refl
    go false = refl

-- none is chosen for 0
pub chosen_none : (ws : List ℕ) → chosen 0 ws ≡ []
unfolding chosen
chosen_none [] = refl
chosen_none (w ∷ ws) = chosen_none ws

-- with a higher bit, one more is chosen
pub chosen_high : (b j : ℕ) (ws : List ℕ) → b < length ws → j < 2 ^ b → chosen (j + 2 ^ b) ws ≡ chosen j ws ++ (get_or ws b 0 ∷ [])
unfolding chosen
chosen_high b j [] h l = absurd (omega arith)
chosen_high zero j (w ∷ ws) h l =
    let e : j ≡ 0 = omega arith in
    rw (e, chosen_none ws)
chosen_high (suc b) j (w ∷ ws) h l =
    let d : (j + 2 ^ suc b) / 2 ≡ j / 2 + 2 ^ b = omega (arith, pow-succ' 2 b) in
    let m : (j + 2 ^ suc b) % 2 ≡ j % 2 = omega (arith, pow-succ' 2 b) in
    rw (d, m) (go (eqb (j % 2) 1) (chosen_high b (j / 2) ws (omega arith) (omega (arith, pow-succ' 2 b))))
  where
    go : (c : Bool) → chosen (j / 2 + 2 ^ b) ws ≡ chosen (j / 2) ws ++ (get_or ws b 0 ∷ [])
        → cond c (w ∷ chosen (j / 2 + 2 ^ b) ws) (chosen (j / 2 + 2 ^ b) ws) ≡ cond c (w ∷ chosen (j / 2) ws) (chosen (j / 2) ws) ++ (get_or ws b 0 ∷ [])
    go true e = ap (λ (l : List ℕ). w ∷ l) e
    go false e = e

-- so a test word is had from that without its highest bit
pub test_high : (b j : ℕ) (ws xs : List ℕ) → b < length ws → j < 2 ^ b → test_word (j + 2 ^ b) ws xs ≡ flip (test_word j ws xs) (get_or ws b 0)
unfolding flipped_at
test_high b j ws xs h l =
    test_flipped (j + 2 ^ b) ws xs
    ∙ ap (λ (P : List ℕ). flipped_at P xs) (chosen_high b j ws h l)
    ∙ flipped_append (chosen j ws) (get_or ws b 0 ∷ []) xs
    ∙ ap (λ (ys : List ℕ). flip ys (get_or ws b 0)) (sym (test_flipped j ws xs))

-- test word 0 is the word
pub test_none : (ws xs : List ℕ) → test_word 0 ws xs ≡ xs
unfolding test_word
test_none [] xs = refl
test_none (w ∷ ws) xs = test_none ws xs

-- ---- distinct weak positions

-- a position that is none of the weak ones is not chosen
pub chosen_absent : (p j : ℕ) (ws : List ℕ) → is_in p ws ≡ false → is_in p (chosen j ws) ≡ false
unfolding chosen is_in
chosen_absent p j [] h = refl
chosen_absent p j (w ∷ ws) h = go (eqb (j % 2) 1) (is_in_cons p w ws h) (chosen_absent p (j / 2) ws (is_in_cons p w ws h).1)
  where
    go : (b : Bool) → (p ≡ w → ⊥) × (is_in p ws ≡ false) → is_in p (chosen (j / 2) ws) ≡ false
        → is_in p (cond b (w ∷ chosen (j / 2) ws) (chosen (j / 2) ws)) ≡ false
    go true n i = rw (ne_eqb p w n.0) i
    go false n i = i

-- those that are chosen are distinct too
pub chosen_distinct : (n j : ℕ) (ws : List ℕ) → Distinct n ws → Distinct n (chosen j ws)
unfolding Distinct chosen
chosen_distinct n j [] d = tt
chosen_distinct n j (w ∷ ws) d = go (eqb (j % 2) 1) (chosen_distinct n (j / 2) ws d.2)
  where
    go : (b : Bool) → Distinct n (chosen (j / 2) ws) → Distinct n (cond b (w ∷ chosen (j / 2) ws) (chosen (j / 2) ws))
    go true i = (d.0, chosen_absent w (j / 2) ws d.1, i)
    go false i = i

-- ---- bit b of j

-- j without its b lowest bits
unfoldable pub halved : ℕ → ℕ → ℕ
halved zero j = j
halved (suc b) j = halved b j / 2

pub halved_next : (b j : ℕ) → halved (suc b) j ≡ halved b (j / 2)
unfolding halved
halved_next zero j = refl
halved_next (suc b) j = ap (λ (x : ℕ). x / 2) (halved_next b j)

-- the weak position b is chosen where bit b of j is 1
pub chosen_at : (n b j : ℕ) (ws : List ℕ) → Distinct n ws → b < length ws → is_in (get_or ws b 0) (chosen j ws) ≡ eqb (halved b j % 2) 1
unfolding chosen is_in Distinct halved
chosen_at n b j [] d h = absurd (omega arith)
chosen_at n zero j (w ∷ ws) d h = go (eqb (j % 2) 1) (chosen_absent w (j / 2) ws d.1)
  where
    go : (b : Bool) → is_in w (chosen (j / 2) ws) ≡ false → is_in w (cond b (w ∷ chosen (j / 2) ws) (chosen (j / 2) ws)) ≡ b
    go true i = rw (eq-eqb w w refl) refl
    go false i = i
chosen_at n (suc b) j (w ∷ ws) d h =
    go (eqb (j % 2) 1) (is_in_cons (get_or ws b 0) w (take b ws) (not_before n (suc b) (w ∷ ws) d h)).0
    (chosen_at n b (j / 2) ws d.2 (omega arith) ∙ ap (λ (x : ℕ). eqb (x % 2) 1) (sym (halved_next b j)))
  where
    go : (c : Bool) → (get_or ws b 0 ≡ w → ⊥) → is_in (get_or ws b 0) (chosen (j / 2) ws) ≡ eqb (halved b j / 2 % 2) 1
        → is_in (get_or ws b 0) (cond c (w ∷ chosen (j / 2) ws) (chosen (j / 2) ws)) ≡ eqb (halved b j / 2 % 2) 1
    go true n i = rw (ne_eqb (get_or ws b 0) w n) i
    go false n i = i

-- below 2^p, j chooses from the first p alone
pub chosen_first : (p j : ℕ) (ws : List ℕ) → j < 2 ^ p → chosen j (take p ws) ≡ chosen j ws
unfolding chosen
chosen_first zero j ws h = let e : j ≡ 0 = omega arith in rw e (sym (chosen_none ws))
chosen_first (suc p) j [] h = refl
chosen_first (suc p) j (w ∷ ws) h =
    ap (λ (P : List ℕ). cond (eqb (j % 2) 1) (w ∷ P) P) (chosen_first p (j / 2) ws (omega (arith, pow-succ' 2 p)))

-- ---- going through the weak positions

module _ (r k : ℕ) (ws : List ℕ) (more : k < length ws) where
  -- the one that is looked at is chosen, ..
  pub chosen_next : r % 2 ≡ 1 → chosen r (drop k ws) ≡ get_or ws k 0 ∷ chosen (r / 2) (drop (k + 1) ws)
  unfolding chosen
  chosen_next o = rw (add-one, drop-cons ws k 0 more, eq-eqb (r % 2) 1 o)

  -- .. or it is not
  pub chosen_past : (r % 2 ≡ 1 → ⊥) → chosen r (drop k ws) ≡ chosen (r / 2) (drop (k + 1) ws)
  unfolding chosen
  chosen_past n = rw (add-one, drop-cons ws k 0 more, ne_eqb (r % 2) 1 n)

  -- looking for position x: it is that one, ..
  pub chosen_hit : (x : ℕ) → r % 2 ≡ 1 → get_or ws k 0 ≡ x → is_in x (chosen r (drop k ws)) ≡ true
  unfolding is_in
  chosen_hit x o e = ap (is_in x) (chosen_next o) ∙ rw (eq-eqb x (get_or ws k 0) (sym e))

  -- .. or another
  pub chosen_miss : (x : ℕ) → r % 2 ≡ 1 → (get_or ws k 0 ≡ x → ⊥) → is_in x (chosen r (drop k ws)) ≡ is_in x (chosen (r / 2) (drop (k + 1) ws))
  unfolding is_in
  chosen_miss x o n = ap (is_in x) (chosen_next o) ∙ rw (ne_eqb x (get_or ws k 0) (λ e. n (sym e)))

-- none is left
pub chosen_over : (r k : ℕ) (ws : List ℕ) → k ≡ length ws → chosen r (drop k ws) ≡ []
unfolding chosen
chosen_over r k ws e = rw (e, drop-length)

-- ---- the hard bits

-- a list that holds those of symbols from `from` on
pub hard_filled : (from : ℕ) (ss ys : List ℕ) → from + length ys ≡ length ss → ((k : ℕ) → k < length ys → get_or ys k 0 ≡ get_or ss (from + k) 0 / 16)
    → ys ≡ drop from (hard_bits ss)
hard_filled from ss ys l h =
    ext_get_or 0 ys (drop from (hard_bits ss)) (simp length-drop (omega (arith, length_hard ss)))
    (λ i w. h i w ∙ sym (hard_at ss (from + i)) ∙ sym (get_or-drop from (hard_bits ss) i 0))
