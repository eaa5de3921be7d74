-- How large the numbers of an answer can be by the flips of its candidate: each position weighs at most 15, at most p of them are flipped by
-- the test word, and at most t by its repair. Assumes nothing.
use Prim.Native.Nat.{ℕ, ◌+◌, ◌*◌, ◌^◌, ◌≤◌, ◌<◌}
use native.Mathlib.Omega.{arith}
use mathlib.Core.Path.{◌≡◌, refl, sym, ◌∙◌}
use mathlib.Core.Logic.{◌≢◌}
use mathlib.Core.List.{List}
use borrow.Author.Tests.{lt-ltb, le-ltb}
use native.Mathlib.Decide.{dec_lt}
use lib.IntN.{sub_ℕ}
use lib.ListN.{length}
use lib.Pow.{pow_pos}
use lib.Signed.{mag}
use Rattle.bch.specs.Words.{flips}
use Rattle.bch.specs.Code.{Code, word_length}
use Rattle.bch.proofs.codes.Settings.{Lawful}
use Rattle.bch.proofs.codes.Counting.{flips_triangle}
use Rattle.chase.specs.Soft.{hard_bits, reliabilities, Answer}
use Rattle.chase.specs.Soft.{Mark, lost, fair, sure, lost_answer, soft_stage}
use Rattle.chase.specs.Word.{Symbols, weakest, test, soft_distance, allowed, WordWeighed}
use Rattle.chase.proofs.ranking.Keys.{reliability_lt}
use Rattle.chase.proofs.test_words.Reach.{length_hard, length_test}
use Rattle.chase.proofs.weighing.Weights.{distance_flips}
use Rattle.chase.proofs.ranking.Ranking.{weak_length}
use Rattle.chase.proofs.search.SearchLaws.{lost_sure, lost_fair, sure_fair, word_weighed}
use Rattle.chase.proofs.weighing.Sizes.{allowed_most, test_flips}

-- a difference of two small numbers is small
pub mag_most : (a b most : ℕ) → a ≤ most → b ≤ most → mag (sub_ℕ a b) ≤ most
mag_most a b most ha hb =
    elim (dec_lt a b) [
      | yes h ↦ rw (lt-ltb a b h) (omega arith)
      | no h ↦ rw (le-ltb a b (omega arith)) (omega arith)
    ]

-- a candidate has at most p + t flips, each of at most 15, and A at most 2t + 1 positions
pub record BoundedAnswer (p : ℕ) (a : Answer) : Type 0 where
  pub flips : a.flips ≤ p + 3
  pub tries : a.tries ≤ 2 ^ p
  pub place : a.place < 2 ^ p
  pub distance : a.distance ≤ 15 * a.flips
  pub margin : mag a.margin ≤ 15 * (p + 7)

module _ (code : Code) (is_code : Lawful code) (p : ℕ) (ss : List ℕ) (long : length ss ≡ word_length code) (symbols : Symbols ss) where
  bounded_found : (a : Answer) → WordWeighed code p ss a → a.mark ≢ lost → a.tries ≤ 2 ^ p → BoundedAnswer p a
  bounded_found a w n most =
      let near = w.found n in
      let (dist, q, gap) = w.numbers n in
      let word = a.word in
      let t = test p ss a.place in
      let xs = hard_bits ss in
      let alike = near.codeword.long ∙ sym (length_test a.place (weakest p ss) xs ∙ length_hard ss ∙ long) in
      let L = distance_flips (reliabilities ss) word xs (λ i. reliability_lt ss i) in
      let few : flips word xs ≤ p + 3 = omega (
        arith,
        flips_triangle word t xs alike,
        near.near,
        is_code.t_most,
        test_flips a.place (weakest p ss) xs,
        weak_length p (reliabilities ss),
      ) in
      record {
        flips = omega (arith, q, few);
        tries = most;
        place = near.tried;
        distance = omega (arith, dist, q, L);
        margin =
            rw gap (mag_most (allowed code ss word) (soft_distance ss word) (15 * (p + 7)) (omega (arith, allowed_most code ss word, is_code.t_most))
            (omega (arith, L, few)));
      }

  -- the soft stage's answer is small
  pub soft_bounded : BoundedAnswer p (soft_stage code p ss)
  unfolding lost_answer
  soft_bounded = go (soft_stage code p ss) (word_weighed code is_code p ss long symbols) (soft_stage code p ss).mark refl
    where
      go : (a : Answer) → WordWeighed code p ss a → (m : Mark) → a.mark ≡ m → BoundedAnswer p a
      go a w lost e = rw (w.lost_answer_lem e) (record {
        flips = omega arith;
        tries = omega arith;
        place = pow_pos p;
        distance = omega arith;
        margin = omega arith;
      })
      go a w fair e = bounded_found a w (λ q. lost_fair (sym q ∙ e)) (omega (arith, w.tries_other (λ q. sure_fair (sym q ∙ e))))
      go a w sure e = bounded_found a w (λ q. lost_sure (sym q ∙ e)) (omega (arith, w.tries_sure e, (w.found (λ q. lost_sure (sym q ∙ e))).tried))
