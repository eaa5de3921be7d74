-- What the search gives: its answer to every word of symbols meets the claim `WordWeighed`, and no other answer does.
-- Assumes nothing.
-- (`Cases` is named so that its cases are checked before these laws, which follow the definitions' text.)
use Prim.Native.Nat.{ℕ, zero, suc, ◌+◌, ◌^◌, ◌≤◌, ◌<◌}
use native.Mathlib.Omega.{arith}
use native.Mathlib.Decide.{dec_lt, ℕ_discrete}
use mathlib.Core.Path.{◌≡◌, refl, sym, ap, ◌∙◌, subst}
use mathlib.Core.Logic.{◌≢◌}
use mathlib.Core.Bool.{Bool, true, false}
use mathlib.Core.List.{List, List-discrete}
use mathlib.Core.Option.{Option, none, some, none-ne-some, some-injective}
use borrow.Author.Tests.{leb-true, leb-false, ltb-true, ltb-false}
use lib.Dec.{leb, ltb}
use lib.ListN.{length}
use lib.Pow.{pow_mono}
use lib.IntN.{sub_ℕ}
use Rattle.bch.specs.Words.{Bits}
use Rattle.bch.specs.Code.{Code, word_length}
use Rattle.bch.proofs.codes.Settings.{Lawful}
use Rattle.bch.proofs.codes.HardLaws.{repaired_some, repaired_near}
use Rattle.chase.specs.Soft.{hard_bits, reliabilities, Mark, lost, fair, sure, Answer, Candidate, answer, lost_answer, settled, better, candidate}
use Rattle.chase.specs.Soft.{tried, search_from, soft_stage}
use Rattle.chase.specs.Word.{Symbols, soft_distance, allowed, test, weakest, Near, InReach, WordWeighed}
use Rattle.chase.proofs.weighing.Weighing.{accepted, runner_up}
use Rattle.chase.proofs.test_words.Reach.{bits_hard, length_hard, length_reliabilities, bits_test, length_test, reach}
use Rattle.chase.proofs.ranking.Ranking.{weak_length}

-- what holds below n and at n holds below n + 1
each_next : (P : ℕ → Type 0) (n : ℕ) → P n → ((i : ℕ) → i < n → P i) → (i : ℕ) → i < suc n → P i
each_next P n a f i h = go (dec_lt i n)
  where
    go : Dec (i < n) → P i
    go (yes l) = f i l
    go (no l) = let e : n ≡ i = omega arith in subst P e a

no_some {ℓ} : {A : Type 0} {X : Type ℓ} {o : Option A} {a : A} → o ≡ none → o ≡ some a → X
no_some {a = a} e f = absurd (none-ne-some a (sym e ∙ f))

-- the marks are different
pub lost_sure : lost ≡ sure → ⊥
lost_sure e = let z : ◌≡◌ {A = ℕ} 0 1 = cc in omega arith

pub lost_fair : lost ≡ fair → ⊥
lost_fair e = let z : ◌≡◌ {A = ℕ} 0 1 = cc in omega arith

pub sure_fair : sure ≡ fair → ⊥
sure_fair e = let z : ◌≡◌ {A = ℕ} 0 1 = cc in omega arith

-- ---- the search itself, whatever the tries give

module _ (code : Code) (p : ℕ) (ss : List ℕ) where
  -- try i gave the codeword c, or nothing
  abbrev Gave : ℕ → List ℕ → Type 0
  Gave i c = tried code p ss i ≡ some c

  abbrev Nil : ℕ → Type 0
  Nil i = tried code p ss i ≡ none

  abbrev L : List ℕ → ℕ
  L c = soft_distance ss c

  abbrev A : List ℕ → ℕ
  A c = allowed code ss c

  abbrev made : ℕ → List ℕ → Candidate
  made j c = candidate code p ss j c

  -- of the first n tries, try j gave the lightest codeword, and none before it gave one as light
  record Best (n j : ℕ) (c : List ℕ) : Type 0 where
    below : j < n
    found : Gave j c
    least : (i : ℕ) (e : List ℕ) → i < n → Gave i e → L c ≤ L e
    lowest : (i : ℕ) (e : List ℕ) → i < j → Gave i e → L c < L e

  -- none of the first n tries gave a codeword that is accepted
  Unsure : ℕ → Type 0
  Unsure n = (i : ℕ) (e : List ℕ) → i < n → Gave i e → A e < L e

  -- the best candidate of the first n tries
  data State (n : ℕ) (best : Option Candidate) : Type 0 where
    none_yet : best ≡ none → ((i : ℕ) → i < n → Nil i) → State n best
    some_yet : (j : ℕ) (c : List ℕ) → best ≡ some (made j c) → Best n j c → State n best

  data Outcome (a : Answer) : Type 0 where
    was_lost : a ≡ lost_answer (2 ^ p) → ((i : ℕ) → i < 2 ^ p → Nil i) → Outcome a
    was_fair : (j : ℕ) (c : List ℕ) → a ≡ answer fair (2 ^ p) (made j c) → Best (2 ^ p) j c → Unsure (2 ^ p) → Outcome a
    was_sure : (j : ℕ) (c : List ℕ) → a ≡ answer sure (suc j) (made j c) → j < 2 ^ p → Gave j c
        → L c ≤ A c → Unsure j → Outcome a

  -- one more try
  none_next : (n j : ℕ) (c : List ℕ) → Nil n → Best n j c → Best (suc n) j c
  none_next n j c e b = record {
    below = omega arith;
    found = b.found;
    least = λ i x h q. each_next (λ i. Gave i x → L c ≤ L x) n (λ r. no_some e r) (λ k l. b.least k x l) i h q;
    lowest = b.lowest;
  }

  worse_next : (n j : ℕ) (d c : List ℕ) → Gave n c → L d ≤ L c → Best n j d → Best (suc n) j d
  worse_next n j d c e w b = record {
    below = omega arith;
    found = b.found;
    least = λ i x h q. each_next (λ i. Gave i x → L d ≤ L x) n
        (λ r. let y : c ≡ x = cc in rw y at w) (λ k l. b.least k x l) i h q;
    lowest = b.lowest;
  }

  better_next : (n : ℕ) (c : List ℕ) → Gave n c
      → ((i : ℕ) (x : List ℕ) → i < n → Gave i x → L c < L x) → Best (suc n) n c
  better_next n c e f = record {
    below = omega arith;
    found = e;
    least = λ i x h q. each_next (λ i. Gave i x → L c ≤ L x) n
        (λ r. let y : c ≡ x = cc in rw y (omega arith)) (λ k l r. omega (arith, f k x l r)) i h q;
    lowest = f;
  }

  state_none : (n : ℕ) (best : Option Candidate) → Nil n → State n best → State (suc n) best
  state_none n best e (none_yet q f) = none_yet q (each_next (λ i. Nil i) n e f)
  state_none n best e (some_yet j c q b) = some_yet j c q (none_next n j c e b)

  state_some : (n : ℕ) (best : Option Candidate) (c : List ℕ) → Gave n c → State n best → State (suc n) (better best (made n c))
  unfolding better candidate
  state_some n best c e (none_yet q f) = some_yet n c (rw q refl) (better_next n c e (λ i x h r. no_some (f i h) r))
  state_some n best c e (some_yet j d q b) = rw q (go (ltb (L c) (L d)) refl)
    where
      go : (t : Bool) → ltb (L c) (L d) ≡ t
          → State (suc n) (some (elim t [ true ↦ made n c | false ↦ made j d ]))
      go true h = some_yet n c refl (better_next n c e (λ i x l r. omega (arith, ltb-true (L c) (L d) h, b.least i x l r)))
      go false h = some_yet j d refl (worse_next n j d c e (ltb-false _ _ h) b)

  unsure_none : (n : ℕ) → Nil n → Unsure n → Unsure (suc n)
  unfolding Unsure
  unsure_none n e u i x h q = each_next (λ i. Gave i x → A x < L x) n (λ r. no_some e r) (λ k l. u k x l) i h q

  unsure_some : (n : ℕ) (c : List ℕ) → Gave n c → A c < L c → Unsure n → Unsure (suc n)
  unfolding Unsure
  unsure_some n c e w u i x h q = each_next (λ i. Gave i x → A x < L x) n
      (λ r. let y : c ≡ x = cc in rw y at w) (λ k l. u k x l) i h q

  end : (n : ℕ) (best : Option Candidate) → n ≡ 2 ^ p → State n best → Unsure n → Outcome (settled n best)
  unfolding settled
  end n best e (none_yet q f) u = was_lost (rw (q, e)) (λ i h. f i (omega arith))
  end n best e (some_yet j c q b) u = was_fair j c (rw (q, e)) (rw e at b) (rw e at u)

  searched : (left n : ℕ) (best : Option Candidate) → n + left ≡ 2 ^ p → State n best → Unsure n → Outcome (search_from code p ss left n best)
  unfolding search_from
  searched zero n best e s u = end n best (omega arith) s u
  searched (suc left) n best e s u = go (tried code p ss n) refl (λ b. searched left (suc n) b (omega arith))
    where
      go : (o : Option (List ℕ)) → tried code p ss n ≡ o
          → ((b : Option Candidate) → State (suc n) b → Unsure (suc n) → Outcome (search_from code p ss left (suc n) b))
          → Outcome (elim o [
            | none ↦ search_from code p ss left (suc n) best
            | some c ↦ elim (leb (L c) (A c)) [
              | true ↦ answer sure (suc n) (made n c)
              | false ↦ search_from code p ss left (suc n) (better best (made n c))
            ]
          ])
      go none h f = f best (state_none n best h s) (unsure_none n h u)
      go (some c) h f = go₂ (leb (L c) (A c)) refl
        where
          go₂ : (t : Bool) → leb (L c) (A c) ≡ t → Outcome (elim t [
            | true ↦ answer sure (suc n) (made n c)
            | false ↦ search_from code p ss left (suc n) (better best (made n c))
          ])
          go₂ true q = was_sure n c refl (omega arith) h (leb-true _ _ q) u
          go₂ false q = f (better best (made n c)) (state_some n best c h s) (unsure_some n c h (leb-false _ _ q) u)

  outcome : Outcome (soft_stage code p ss)
  unfolding soft_stage Unsure
  outcome = searched (2 ^ p) 0 none (omega arith) (none_yet refl (λ i h. absurd (omega arith))) (λ i e h q. absurd (omega arith))

-- ---- what the tries give, for a lawful code

module _ (code : Code) (is_code : Lawful code) (p : ℕ) (ss : List ℕ) (long : length ss ≡ word_length code) (symbols : Symbols ss) where
  long_test : (j : ℕ) → length (test p ss j) ≡ word_length code
  long_test j = length_test j (weakest p ss) (hard_bits ss) ∙ length_hard ss ∙ long

  right_test : (j : ℕ) → Bits (test p ss j)
  right_test j = bits_test j (weakest p ss) (hard_bits ss) (bits_hard ss symbols)

  -- what a try gives is a codeword within t flips of its test word
  pub near_tried : (j : ℕ) (c : List ℕ) → j < 2 ^ p → tried code p ss j ≡ some c → Near code p ss j c
  unfolding tried
  near_tried j c h e = let (w, n) = repaired_some code (test p ss j) (long_test j) (right_test j) c e in record { codeword = w; tried = h; near = n }

  tried_near : (j : ℕ) (c : List ℕ) → Near code p ss j c → tried code p ss j ≡ some c
  unfolding tried
  tried_near j c n = repaired_near code is_code (test p ss j) (long_test j) (right_test j) c n.codeword n.near

  -- one codeword at most is within t flips of a test word
  pub near_one : (j : ℕ) (c e : List ℕ) → Near code p ss j c → Near code p ss j e → c ≡ e
  near_one j c e n m = some-injective c e (sym (tried_near j c n) ∙ tried_near j e m)

  -- the codeword sent is within t flips of a test word
  reach_near : (s : List ℕ) → InReach code p ss s → (j : ℕ) × Near code p ss j s
  reach_near s h =
      let (j, below, near) = reach (weakest p ss) s (hard_bits ss) h.codeword.bits (bits_hard ss symbols) in
      let short : 2 ^ length (weakest p ss) ≤ 2 ^ p = pow_mono (weak_length p (reliabilities ss)) in
      (j, record { codeword = h.codeword; tried = omega arith; near = omega (arith, near, h.beyond) })

  weighed_lost : ((i : ℕ) → i < 2 ^ p → tried code p ss i ≡ none) → WordWeighed code p ss (lost_answer (2 ^ p))
  unfolding lost_answer
  weighed_lost f = record {
    lost_exactly = (λ e. no, λ g. refl);
    found = λ n. absurd (n refl);
    least = λ n. absurd (n refl);
    sure_least = λ e. absurd (lost_sure e);
    sent = λ s h. let (j, n) = reach_near s h in absurd (no j s n);
    sent_back = λ s h. let (j, n) = reach_near s h in absurd (no j s n);
    tries_sure = λ e. absurd (lost_sure e);
    tries_other = λ n. refl;
    numbers = λ n. absurd (n refl);
    lost_answer_lem = λ e. refl;
    sure_first = λ e. absurd (lost_sure e);
    fair_unsure = λ e. absurd (lost_fair e);
    fair_lowest = λ e. absurd (lost_fair e);
    runner_up = λ n. absurd (n refl);
  }
    where
      no : (j : ℕ) (c : List ℕ) → Near code p ss j c → ⊥
      no j c n = no_some (f j n.tried) (tried_near j c n)

  -- a codeword written: what both marks say of it, ..
  weighed_found : (m : Mark) (k j : ℕ) (c : List ℕ) → m ≢ lost → Near code p ss j c
      → ((i : ℕ) (e : List ℕ) → Near code p ss i e → soft_distance ss c ≤ soft_distance ss e)
      → (m ≡ sure → (k ≡ j + 1) × (soft_distance ss c ≤ allowed code ss c)
      × ((i : ℕ) (e : List ℕ) → Near code p ss i e → i < j → allowed code ss e < soft_distance ss e))
      → (m ≢ sure → k ≡ 2 ^ p)
      → (m ≡ fair → ((i : ℕ) (e : List ℕ) → Near code p ss i e → allowed code ss e < soft_distance ss e)
      × ((i : ℕ) (e : List ℕ) → Near code p ss i e → i < j → soft_distance ss c < soft_distance ss e))
      → WordWeighed code p ss (answer m k (candidate code p ss j c))
  unfolding answer candidate
  weighed_found m k j c nl near least s ns f = record {
    lost_exactly = (λ e. absurd (nl e), λ g. absurd (g j c near));
    found = λ n. near;
    least = λ n. least;
    sure_least = λ e. accepted code is_code (reliabilities ss) (hard_bits ss) (length_reliabilities ss ∙ long) (length_hard ss ∙ long) c
        near.codeword (s e).1;
    sent = λ w h. let (i, n) = reach_near w h in (nl, least i w n);
    sent_back = λ w h g. back w (reach_near w h) g (List-discrete ℕ_discrete c w);
    tries_sure = λ e. (s e).0;
    tries_other = ns;
    numbers = λ n. (refl, refl, refl);
    lost_answer_lem = λ e. absurd (nl e);
    sure_first = λ e. ((s e).1, (s e).2);
    fair_unsure = λ e. (f e).0;
    fair_lowest = λ e. (f e).1;
    runner_up = λ n e w ne. runner_up code is_code (reliabilities ss) (hard_bits ss) (length_reliabilities ss ∙ long)
        (length_hard ss ∙ long) c e near.codeword w ne;
  }
    where
      back : (w : List ℕ) → (i : ℕ) × Near code p ss i w → ((i : ℕ) (e : List ℕ) → Near code p ss i e → e ≢ w → soft_distance ss w < soft_distance ss e)
          → Dec (c ≡ w) → c ≡ w
      back w n g (yes e) = e
      back w n g (no ne) = absurd (omega (arith, g j c near ne, least n.0 w n.1))

  weighed : (a : Answer) → Outcome code p ss a → WordWeighed code p ss a
  unfolding Unsure
  weighed a (was_lost e f) = rw e (weighed_lost f)
  weighed a (was_fair j c e b u) = rw e (weighed_found fair (2 ^ p) j c (λ q. lost_fair (sym q)) (near_tried j c b.below b.found)
      (λ i x n. b.least i x n.tried (tried_near i x n)) (λ q. absurd (sure_fair (sym q))) (λ n. refl)
      (λ q. (λ i x n. u i x n.tried (tried_near i x n), λ i x n h. b.lowest i x h (tried_near i x n))))
  weighed a (was_sure j c e h t l u) =
      let near = near_tried j c h t in
      rw e (weighed_found sure (suc j) j c (λ q. lost_sure (sym q)) near
      (λ i x n. accepted code is_code (reliabilities ss) (hard_bits ss) (length_reliabilities ss ∙ long) (length_hard ss ∙ long) c
      near.codeword l x n.codeword)
      (λ q. (omega arith, l, λ i x n k. u i x k (tried_near i x n))) (λ n. absurd (n refl)) (λ q. absurd (sure_fair q)))

  -- the search's answer meets the claim
  pub word_weighed : WordWeighed code p ss (soft_stage code p ss)
  word_weighed = weighed (soft_stage code p ss) (outcome code p ss)

  -- ---- the claim leaves one answer only

  sure_not_fair : (a b : Answer) → WordWeighed code p ss a → WordWeighed code p ss b → a.mark ≡ sure → b.mark ≡ fair → ⊥
  sure_not_fair a b v w e f = omega (arith, (v.sure_first e).0, w.fair_unsure f a.place a.word (v.found (λ q. lost_sure (sym q ∙ e))))

  lost_not_found : (a b : Answer) → WordWeighed code p ss a → WordWeighed code p ss b → a.mark ≡ lost → b.mark ≢ lost → ⊥
  lost_not_found a b v w e n = v.lost_exactly.0 e b.place b.word (w.found n)

  one_word : (a b : Answer) → WordWeighed code p ss a → WordWeighed code p ss b → a.mark ≢ lost → b.mark ≢ lost → a.place ≡ b.place
      → a.word ≡ b.word
  one_word a b v w n m e =
      let x : tried code p ss a.place ≡ some a.word = tried_near a.place a.word (v.found n) in
      let y : tried code p ss b.place ≡ some b.word = tried_near b.place b.word (w.found m) in
      some-injective a.word b.word (sym x ∙ ap (tried code p ss) e ∙ y)

  one_place : (a b : Answer) → (a.place < b.place → ⊥) → (b.place < a.place → ⊥) → a.place ≡ b.place
  one_place a b f g = go (dec_lt a.place b.place) (dec_lt b.place a.place)
    where
      go : Dec (a.place < b.place) → Dec (b.place < a.place) → a.place ≡ b.place
      go (yes h) k = absurd (f h)
      go (no h) (yes k) = absurd (g k)
      go (no h) (no k) = omega arith

  one_answer : (a b : Answer) → WordWeighed code p ss a → WordWeighed code p ss b → a.mark ≢ lost → a.mark ≡ b.mark → a.tries ≡ b.tries
      → a.place ≡ b.place → a ≡ b
  one_answer a b v w n e t q =
      let m : b.mark ≢ lost = λ r. n (e ∙ r) in
      let c : a.word ≡ b.word = one_word a b v w n m q in
      let (d₁, f₁, g₁) = v.numbers n in
      let (d₂, f₂, g₂) = w.numbers m in
      let d : a.distance ≡ b.distance = cc (d₁, d₂) in
      let f : a.flips ≡ b.flips = cc (f₁, f₂) in
      let g : a.margin ≡ b.margin = g₁ ∙ ap (λ (x : List ℕ). sub_ℕ (allowed code ss x) (soft_distance ss x)) c ∙ sym g₂ in
      λ i. record { mark = e i; distance = d i; margin = g i; flips = f i; place = q i; tries = t i; word = c i }

  -- two answers that meet the claim are the same
  pub one_weighed : (a b : Answer) → WordWeighed code p ss a → WordWeighed code p ss b → a ≡ b
  one_weighed a b v w = go a.mark refl b.mark refl
    where
      go : (m : Mark) → a.mark ≡ m → (k : Mark) → b.mark ≡ k → a ≡ b
      go lost e lost f = v.lost_answer_lem e ∙ sym (w.lost_answer_lem f)
      go lost e fair f = absurd (lost_not_found a b v w e (λ q. lost_fair (sym q ∙ f)))
      go lost e sure f = absurd (lost_not_found a b v w e (λ q. lost_sure (sym q ∙ f)))
      go fair e lost f = absurd (lost_not_found b a w v f (λ q. lost_fair (sym q ∙ e)))
      go fair e fair f =
          let n : a.mark ≢ lost = λ q. lost_fair (sym q ∙ e) in
          let m : b.mark ≢ lost = λ q. lost_fair (sym q ∙ f) in
          let x = v.least n b.place b.word (w.found m) in
          let y = w.least m a.place a.word (v.found n) in
          one_answer a b v w n (e ∙ sym f) (v.tries_other (λ q. sure_fair (sym q ∙ e)) ∙ sym (w.tries_other (λ q. sure_fair (sym q ∙ f))))
          (one_place a b (λ h. omega (arith, w.fair_lowest f a.place a.word (v.found n) h))
          (λ h. omega (arith, v.fair_lowest e b.place b.word (w.found m) h)))
      go fair e sure f = absurd (sure_not_fair b a w v f e)
      go sure e lost f = absurd (lost_not_found b a w v f (λ q. lost_sure (sym q ∙ e)))
      go sure e fair f = absurd (sure_not_fair a b v w e f)
      go sure e sure f =
          let n : a.mark ≢ lost = λ q. lost_sure (sym q ∙ e) in
          let m : b.mark ≢ lost = λ q. lost_sure (sym q ∙ f) in
          let x = v.sure_first e in
          let y = w.sure_first f in
          let q : a.place ≡ b.place = one_place a b (λ h. omega (arith, x.0, y.1 a.place a.word (v.found n) h))
          (λ h. omega (arith, y.0, x.1 b.place b.word (w.found m) h)) in
          one_answer a b v w n (e ∙ sym f) (v.tries_sure e ∙ ap (λ (i : ℕ). i + 1) q ∙ sym (w.tries_sure f)) q
