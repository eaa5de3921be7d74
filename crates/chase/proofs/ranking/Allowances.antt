-- The allowance A from keys, as a loop adds it up: of the first d keys those whose position the candidate does not flip, until d - q are
-- summed. Assumes nothing.
-- (`Cases` is named so that its cases are checked before these laws.)
use Prim.Native.Nat.{ℕ, zero, suc, ◌+◌, ◌-◌, ◌*◌, ◌/◌, ◌%◌, ◌≤◌, ◌<◌}
use native.Mathlib.Omega.{arith}
use native.Mathlib.Numerals.{add-one}
use mathlib.Core.Path.{◌≡◌, refl, ap, sym, ◌∙◌}
use mathlib.Core.Bool.{Bool, true, false, not, cond}
use mathlib.Core.List.{List, [], ◌∷◌, map}
use borrow.Author.Tests.{eq-eqb, ne_eqb}
use lib.Dec.{eqb}
use lib.ListN.{length, get_or, take, drop}
use lib.Seq.{drop-cons, drop-length}
use Rattle.bch.specs.Words.{Bits, flips, is_in, Distinct, flipped_at}
use Rattle.bch.proofs.codes.Entries.{below_at}
use Rattle.bch.proofs.codes.Flipped.{flipped_other, flipped_one}
use Rattle.chase.specs.Soft.{hard_bits, reliabilities, test_word, rank, allowance}
use Rattle.chase.proofs.ranking.Keys.{Weakest, ranked_of}
use Rattle.chase.proofs.ranking.Unflipped.{skipping_sum, Tells, allowance_first}
use Rattle.chase.proofs.test_words.Reach.{length_hard, length_reliabilities, length_test}
use Rattle.chase.proofs.test_words.TestWords.{chosen, halved, halved_next, test_flipped, chosen_distinct}

-- ---- the loop

-- a position is flipped by one of two alone: the locator, and the test word
unfoldable pub turned : Bool → Bool → Bool
turned located chosen = cond located (not chosen) chosen

-- the sum of the first k reliabilities that keys hold, leaving out those whose position the candidate flips: it flips the positions P of
-- test word j, which flips those of the keys that j chooses
unfoldable pub unflipped_sum : List ℕ → ℕ → ℕ → List ℕ → ℕ
unfolding turned is_in
unflipped_sum P j zero ks = 0
unflipped_sum P j (suc k) [] = 0
unflipped_sum P j (suc k) (x ∷ ks) =
    cond (turned (is_in (x % 1024) P) (eqb (j % 2) 1)) (unflipped_sum P (j / 2) (suc k) ks) (x / 1024 + unflipped_sum P (j / 2) k ks)

module _ (P : List ℕ) (j k i : ℕ) (ks : List ℕ) (more : i < length ks) where
  -- a key whose position is flipped is passed over, ..
  pub sum_skip : turned (is_in (get_or ks i 0 % 1024) P) (eqb (j % 2) 1) ≡ true
      → unflipped_sum P j (k + 1) (drop i ks) ≡ unflipped_sum P (j / 2) (k + 1) (drop (i + 1) ks)
  unfolding unflipped_sum
  sum_skip e = rw (add-one, add-one, drop-cons ks i 0 more, e)

  -- .. another is added, ..
  pub sum_add : turned (is_in (get_or ks i 0 % 1024) P) (eqb (j % 2) 1) ≡ false
      → unflipped_sum P j (k + 1) (drop i ks) ≡ get_or ks i 0 / 1024 + unflipped_sum P (j / 2) k (drop (i + 1) ks)
  unfolding unflipped_sum
  sum_add e = rw (add-one, add-one, drop-cons ks i 0 more, e)

-- .. until there are enough ..
pub sum_enough : (P : List ℕ) (j : ℕ) (ks : List ℕ) → unflipped_sum P j 0 ks ≡ 0
unfolding unflipped_sum
sum_enough P j ks = refl

-- .. or no key is left
pub sum_end : (P : List ℕ) (j k i : ℕ) (ks : List ℕ) → i ≡ length ks → unflipped_sum P j k (drop i ks) ≡ 0
unfolding unflipped_sum
sum_end P j zero i ks e = refl
sum_end P j (suc k) i ks e = rw (e, drop-length)

-- each key adds at most 15
pub unflipped_most : (P : List ℕ) (j k : ℕ) (ks : List ℕ) → ((i : ℕ) → i < length ks → get_or ks i 0 / 1024 < 16) → unflipped_sum P j k ks ≤ 15 * k
unfolding unflipped_sum
unflipped_most P j zero ks h = omega arith
unflipped_most P j (suc k) [] h = omega arith
unflipped_most P j (suc k) (x ∷ ks) h =
    go (turned (is_in (x % 1024) P) (eqb (j % 2) 1)) (unflipped_most P (j / 2) (suc k) ks (λ i l. h (suc i) (omega arith)))
    (unflipped_most P (j / 2) k ks (λ i l. h (suc i) (omega arith)))
  where
    go : (b : Bool) → unflipped_sum P (j / 2) (suc k) ks ≤ 15 * suc k → unflipped_sum P (j / 2) k ks ≤ 15 * k
        → cond b (unflipped_sum P (j / 2) (suc k) ks) (x / 1024 + unflipped_sum P (j / 2) k ks) ≤ 15 * suc k
    go true i j = i
    go false i j = omega (arith, h 0 (omega arith))

-- ---- looking for a position

module _ (x a : ℕ) (P : List ℕ) (more : a < length P) where
  -- it is the one that is looked at, ..
  pub in_here : get_or P a 0 ≡ x → is_in x (drop a P) ≡ true
  unfolding is_in
  in_here e = rw (drop-cons P a 0 more, eq-eqb x (get_or P a 0) (sym e))

  -- .. or it is sought among those behind
  pub in_next : (get_or P a 0 ≡ x → ⊥) → is_in x (drop a P) ≡ is_in x (drop (a + 1) P)
  unfolding is_in
  in_next n = rw (add-one, drop-cons P a 0 more, ne_eqb x (get_or P a 0) (λ e. n (sym e)))

-- none is left
pub in_over : (x a : ℕ) (P : List ℕ) → a ≡ length P → is_in x (drop a P) ≡ false
unfolding is_in
in_over x a P e = rw (e, drop-length)

-- ---- the test

-- a test word flipped at further positions differs from the word where one of the two flips it, and where both do it does not
pub turned_tells : (n j : ℕ) (P ws xs : List ℕ) → length xs ≡ n → Bits xs → Distinct n P → Distinct n ws
    → (x : ℕ) → turned (is_in x P) (is_in x (chosen j ws)) ≡ not (eqb (get_or (flipped_at P (test_word j ws xs)) x 0) (get_or xs x 0))
unfolding turned
turned_tells n j P ws xs l b d w x = go (is_in x P) refl (is_in x (chosen j ws)) refl
  where
    here : is_in x (chosen j ws) ≡ true → get_or (test_word j ws xs) x 0 ≡ 1 - get_or xs x 0
    here e = ap (λ (l : List ℕ). get_or l x 0) (test_flipped j ws xs) ∙ flipped_one n x (chosen j ws) xs l (chosen_distinct n j ws w) e

    same : is_in x (chosen j ws) ≡ false → get_or (test_word j ws xs) x 0 ≡ get_or xs x 0
    same e = ap (λ (l : List ℕ). get_or l x 0) (test_flipped j ws xs) ∙ flipped_other x (chosen j ws) xs e

    on : is_in x P ≡ true → get_or (flipped_at P (test_word j ws xs)) x 0 ≡ 1 - get_or (test_word j ws xs) x 0
    on e = flipped_one n x P (test_word j ws xs) (length_test j ws xs ∙ l) d e

    off : is_in x P ≡ false → get_or (flipped_at P (test_word j ws xs)) x 0 ≡ get_or (test_word j ws xs) x 0
    off e = flipped_other x P (test_word j ws xs) e

    go : (u : Bool) → is_in x P ≡ u → (v : Bool) → is_in x (chosen j ws) ≡ v
        → cond u (not v) v ≡ not (eqb (get_or (flipped_at P (test_word j ws xs)) x 0) (get_or xs x 0))
    go true e true g = rw (eq-eqb (get_or (flipped_at P (test_word j ws xs)) x 0) (get_or xs x 0) (omega (arith, on e, here g, below_at 1 xs x b))) refl
    go true e false g = rw (ne_eqb (get_or (flipped_at P (test_word j ws xs)) x 0) (get_or xs x 0) (λ q. omega (arith, on e, same g))) refl
    go false e true g = rw (ne_eqb (get_or (flipped_at P (test_word j ws xs)) x 0) (get_or xs x 0) (λ q. omega (arith, off e, here g))) refl
    go false e false g = rw (eq-eqb (get_or (flipped_at P (test_word j ws xs)) x 0) (get_or xs x 0) (off e ∙ same g)) refl

-- ---- A

-- where j chooses key i by its bit i, the loop leaves out what a test on positions tells
unflipped_skipping : (f : ℕ → Bool) (P : List ℕ) (j k : ℕ) (ks : List ℕ)
    → ((i : ℕ) → i < length ks → f (get_or ks i 0 % 1024) ≡ turned (is_in (get_or ks i 0 % 1024) P) (eqb (halved i j % 2) 1))
    → unflipped_sum P j k ks ≡ skipping_sum f k (map ranked_of ks)
unfolding unflipped_sum skipping_sum halved
unflipped_skipping f P j zero ks h = refl
unflipped_skipping f P j (suc k) [] h = refl
unflipped_skipping f P j (suc k) (x ∷ ks) h =
    rw (← h 0 (omega arith))
    (go (f (x % 1024)) (unflipped_skipping f P (j / 2) (suc k) ks rest) (unflipped_skipping f P (j / 2) k ks rest))
  where
    rest : (i : ℕ) → i < length ks → f (get_or ks i 0 % 1024) ≡ turned (is_in (get_or ks i 0 % 1024) P) (eqb (halved i (j / 2) % 2) 1)
    rest i l = h (suc i) (omega arith) ∙ ap (λ (b : ℕ). turned (is_in (get_or ks i 0 % 1024) P) (eqb (b % 2) 1)) (halved_next i j)

    go : (b : Bool) → unflipped_sum P (j / 2) (suc k) ks ≡ skipping_sum f (suc k) (map ranked_of ks)
        → unflipped_sum P (j / 2) k ks ≡ skipping_sum f k (map ranked_of ks)
        → cond b (unflipped_sum P (j / 2) (suc k) ks) (x / 1024 + unflipped_sum P (j / 2) k ks)
        ≡ cond b (skipping_sum f (suc k) (map ranked_of ks)) (x / 1024 + skipping_sum f k (map ranked_of ks))
    go true i j = i
    go false i j = ap (λ (s : ℕ). x / 1024 + s) j

-- A, from the first d keys: q is the number of flips
pub allowance_keys : (d q j : ℕ) (P ss ks c : List ℕ) → Weakest d ss ks → d ≤ length ss → length c ≡ length ss → q ≡ flips c (hard_bits ss)
    → (f : ℕ → Bool) → Tells f c (hard_bits ss)
    → ((i : ℕ) → i < length (take d ks) → f (get_or (take d ks) i 0 % 1024) ≡ turned (is_in (get_or (take d ks) i 0 % 1024) P) (eqb (halved i j % 2) 1))
    → unflipped_sum P j (d - q) (take d ks) ≡ allowance d (reliabilities ss) c (hard_bits ss)
allowance_keys d q j P ss ks c w h long e f tells bits =
    unflipped_skipping f P j (d - q) (take d ks) bits
    ∙ ap (skipping_sum f (d - q)) (w.ranked d (omega arith) h)
    ∙ ap (λ (x : ℕ). skipping_sum f (d - x) (take d (rank 0 (reliabilities ss)))) e
    ∙ allowance_first d f (reliabilities ss) c (hard_bits ss) (long ∙ sym (length_reliabilities ss)) (length_hard ss ∙ sym (length_reliabilities ss)) tells
