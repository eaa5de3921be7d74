-- How large the numbers of the soft stage's answer get. Assumes nothing.
use Prim.Native.Nat.{ℕ, zero, suc, ◌+◌, ◌-◌, ◌*◌, ◌/◌, ◌%◌, ◌^◌, ◌≤◌, ◌<◌}
use native.Mathlib.Omega.{arith}
use mathlib.Core.Path.{◌≡◌, refl, sym, ◌∙◌}
use mathlib.Core.Logic.{◌≢◌}
use mathlib.Core.Bool.{Bool, true, false, cond}
use mathlib.Core.List.{List, [], ◌∷◌, map}
use borrow.Author.Tests.{lt-ltb, le-ltb}
use native.Mathlib.Decide.{dec_lt}
use lib.Dec.{leb, eqb}
use lib.IntN.{sub_ℕ}
use lib.ListN.{length, take}
use lib.Pow.{pow_pos}
use lib.Signed.{mag}
use Rattle.bch.specs.Words.{flips, flip}
use Rattle.bch.specs.Code.{Code, word_length, design_distance}
use Rattle.bch.proofs.codes.Settings.{Lawful, word_short}
use Rattle.bch.proofs.codes.Counting.{flips_triangle, flips_flip, flips_same}
use Rattle.chase.specs.Soft.{hard_bits, reliabilities, Ranked, insert_ranked, rank, sum, smallest_sum, unflipped, allowance, test_word, Answer}
use Rattle.chase.specs.Soft.{Mark, lost, fair, sure, lost_answer, soft_stage}
use Rattle.chase.specs.Word.{Symbols, weakest, test, soft_distance, allowed, WordWeighed}
use Rattle.chase.proofs.ranking.Keys.{reliability_lt}
use Rattle.chase.proofs.test_words.Reach.{length_reliabilities, length_hard, length_test}
use Rattle.chase.proofs.weighing.Weights.{distance_most}
use Rattle.chase.proofs.ranking.Ranking.{weak_length}
use Rattle.chase.proofs.search.SearchLaws.{lost_sure, lost_fair, sure_fair, word_weighed}

-- ---- the sum of the smallest reliabilities

-- no reliability of a list is above 15
LightRanked : List Ranked → Type 0
LightRanked [] = Unit {0}
LightRanked (r ∷ rs) = (r.z ≤ 15) × LightRanked rs

insert_light : (r : Ranked) (rs : List Ranked) → r.z ≤ 15 → LightRanked rs → LightRanked (insert_ranked r rs)
unfolding insert_ranked LightRanked
insert_light r [] h l = (h, tt)
insert_light r (s ∷ rs) h l = go (leb r.z s.z) (insert_light r rs h l.1)
  where
    go : (b : Bool) → LightRanked (insert_ranked r rs) → LightRanked (cond b (r ∷ s ∷ rs) (s ∷ insert_ranked r rs))
    go true i = (h, l)
    go false i = (l.0, i)

rank_light : (at : ℕ) (ss xs ys : List ℕ) → LightRanked (rank at (unflipped (reliabilities ss) xs ys))
unfolding rank LightRanked reliabilities unflipped
rank_light at [] xs ys = tt
rank_light at (s ∷ ss) [] ys = tt
rank_light at (s ∷ ss) (x ∷ xs) [] = tt
rank_light at (s ∷ ss) (x ∷ xs) (y ∷ ys) = go (eqb x y) (λ at. rank_light at ss xs ys)
  where
    go : (b : Bool) → ((at : ℕ) → LightRanked (rank at (unflipped (reliabilities ss) xs ys)))
        → LightRanked (rank at (cond b (s % 16 ∷ unflipped (reliabilities ss) xs ys) (unflipped (reliabilities ss) xs ys)))
    go true i = insert_light (record { z = s % 16; at = at }) (rank (suc at) (unflipped (reliabilities ss) xs ys)) (omega arith) (i (suc at))
    go false i = i at

sum_light : (k : ℕ) (rs : List Ranked) → LightRanked rs → sum (take k (map (λ (r : Ranked). r.z) rs)) ≤ 15 * k
unfolding sum LightRanked
sum_light zero rs l = omega arith
sum_light (suc k) [] l = omega arith
sum_light (suc k) (r ∷ rs) l = omega (arith, l.0, sum_light k rs l.1)

-- A is at most 15 for each of d positions
pub allowed_most : (code : Code) (ss c : List ℕ) → allowed code ss c ≤ 15 * design_distance code
unfolding allowance smallest_sum
allowed_most code ss c =
    let d = design_distance code in
    let q = flips c (hard_bits ss) in
    omega (arith, sum_light (d - q) (rank 0 (unflipped (reliabilities ss) c (hard_bits ss))) (rank_light 0 ss c (hard_bits ss)))

-- ---- the flips of a test word

step_flips : (b : Bool) (w : ℕ) (xs : List ℕ) → flips (cond b (flip xs w) xs) xs ≤ 1
step_flips true w xs = omega (arith, flips_flip xs xs w, flips_same xs)
step_flips false w xs = omega (arith, flips_same xs)

pub test_flips : (j : ℕ) (ws xs : List ℕ) → flips (test_word j ws xs) xs ≤ length ws
unfolding test_word
test_flips j [] xs = omega (arith, flips_same xs)
test_flips j (w ∷ ws) xs =
    let b = eqb (j % 2) 1 in
    let ys = cond b (flip xs w) xs in
    let ts = test_word (j / 2) ws ys in
    omega (arith, flips_triangle ts ys xs (length_test (j / 2) ws ys), test_flips (j / 2) ws ys, step_flips b w xs)

-- ---- the answer

-- a difference of two small numbers is small
pub mag_sub : (a b most : ℕ) → a < most → b ≤ most → mag (sub_ℕ a b) < most
mag_sub a b most ha hb =
    elim (dec_lt a b) [
      | yes h ↦ rw (lt-ltb a b h) (omega arith)
      | no h ↦ rw (le-ltb a b (omega arith)) (omega arith)
    ]

pub record SmallAnswer (p : ℕ) (a : Answer) : Type 0 where
  pub flips : a.flips ≤ p + 3
  pub tries : a.tries ≤ 2 ^ p
  pub place : a.place < 2 ^ p
  pub distance : a.distance ≤ 15345
  pub margin : mag a.margin < 32768

module _ (code : Code) (is_code : Lawful code) (p : ℕ) (ss : List ℕ) (long : length ss ≡ word_length code) (symbols : Symbols ss) where
  small_found : (a : Answer) → WordWeighed code p ss a → a.mark ≢ lost → a.tries ≤ 2 ^ p → SmallAnswer p a
  small_found a w n most =
      let near = w.found n in
      let (dist, q, gap) = w.numbers n in
      let word = a.word in
      let t = test p ss a.place in
      let xs = hard_bits ss in
      let alike = near.codeword.long ∙ sym (length_test a.place (weakest p ss) xs ∙ length_hard ss ∙ long) in
      let L = distance_most (reliabilities ss) word xs (λ i h. reliability_lt ss i) in
      let short = word_short code is_code in
      record {
        flips = omega (
          arith,
          q,
          flips_triangle word t xs alike,
          near.near,
          is_code.t_most,
          test_flips a.place (weakest p ss) xs,
          weak_length p (reliabilities ss),
        );
        tries = most;
        place = near.tried;
        distance = omega (arith, dist, L, length_reliabilities ss, long, short);
        margin =
            rw gap (mag_sub (allowed code ss word) (soft_distance ss word) 32768 (omega (arith, allowed_most code ss word, is_code.t_most))
            (omega (arith, L, length_reliabilities ss, long, short)));
      }

  -- the soft stage's answer is small
  pub soft_small : SmallAnswer p (soft_stage code p ss)
  unfolding lost_answer
  soft_small = go (soft_stage code p ss) (word_weighed code is_code p ss long symbols) (soft_stage code p ss).mark refl
    where
      go : (a : Answer) → WordWeighed code p ss a → (m : Mark) → a.mark ≡ m → SmallAnswer p a
      go a w lost e = rw (w.lost_answer_lem e) (record {
        flips = omega arith;
        tries = omega arith;
        place = pow_pos p;
        distance = omega arith;
        margin = omega arith;
      })
      go a w fair e = small_found a w (λ q. lost_fair (sym q ∙ e)) (omega (arith, w.tries_other (λ q. sure_fair (sym q ∙ e))))
      go a w sure e = small_found a w (λ q. lost_sure (sym q ∙ e)) (omega (arith, w.tries_sure e, (w.found (λ q. lost_sure (sym q ∙ e))).tried))
