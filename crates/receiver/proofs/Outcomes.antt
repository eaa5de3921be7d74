-- What the search's picks and outcomes stand for, turn by turn. Assumes nothing.
use Prim.Native.Nat.{ℕ, ◌+◌, ◌-◌, ◌^◌, ◌≤◌, ◌<◌}
use native.Mathlib.Omega.{arith}
use mathlib.Core.Path.{◌≡◌, refl, ap, sym, ◌∙◌}
use mathlib.Core.Bool.{Bool, true, false, cond}
use mathlib.Core.List.{List}
use mathlib.Core.Option.{Option, none, some, map}
use borrow.Author.Tests.{ltb-true, ltb-false, leb-true, leb-false}
use lib.Dec.{leb}
use lib.ListN.{length}
use Rattle.std.proofs.lemmas.Bool.Decides.{nat_tests}
use Rattle.std.specs.Prelude.{Option as Rust·Option, Some, None}
use Rattle.bch.specs.Code.{Code, word_length}
use Rattle.bch.proofs.codes.Settings.{Lawful}
use Rattle.chase.specs.Soft.{Candidate, sure, answer, settled, better, candidate, tried, search_from, soft_stage}
use Rattle.chase.specs.Word.{Symbols}
use Rattle.chase.proofs.search.Passing.{BestBacked, backed_none, backed_tried, step_far}
use Rattle.chase.proofs.search.Steps.{search_start, skip, step_sure, step_on, step_end, better_first, better_nearer, better_kept}
use Rattle.receiver.specs.Search.{pick_in, is_sure, candidate_of, best_of, answer_in, outcome_of, is_farther, is_nearer, pick_by, judged_by, Sound, IsSound, Tried}
use Rattle.receiver.specs.declared.flips.Flips.{Flips}
use Rattle.receiver.specs.declared.weighing.Weight.{Weight}
use Rattle.receiver.specs.declared.search.Pick.{Pick}
use Rattle.receiver.specs.declared.search.Best.{Best}
use Rattle.receiver.specs.declared.search.Best.TheVariants.{Nothing, Fair, Sure}
use Rattle.receiver.specs.declared.search.Outcome.{Outcome}

module _ (p : ℕ) (ss : List ℕ) where
  -- the better of two: the second where it is nearer, ..
  better_new : (b : Rust·Option Pick) (k : Pick) → is_nearer b k.weight.sum ≡ true
      → better (best_of p ss b) (candidate_of p ss k) ≡ some (candidate_of p ss k)
  unfolding best_of
  better_new None k near = better_first (candidate_of p ss k)
  better_new (Some b) k near = better_nearer (candidate_of p ss b) (candidate_of p ss k) (ltb-true k.weight.sum b.weight.sum near)

  -- .. and otherwise the first
  better_old : (b : Rust·Option Pick) (k : Pick) → is_nearer b k.weight.sum ≡ false
      → better (best_of p ss b) (candidate_of p ss k) ≡ best_of p ss b
  unfolding best_of
  better_old None k far = cc
  better_old (Some b) k far = better_kept (candidate_of p ss b) (candidate_of p ss k) (ltb-false k.weight.sum b.weight.sum far)

  -- the outcome after all tries
  outcome_settled : (tries : ℕ) (b : Best) → is_sure b ≡ false → answer_in p ss tries b ≡ settled tries (best_of p ss (pick_in b))
  unfolding answer_in settled best_of
  outcome_settled tries Nothing e = refl
  outcome_settled tries (Fair k) e = refl
  outcome_settled tries (Sure k) e = cc

-- ---- outcomes, try by try

module _ (code : Code) (p : ℕ) (ss : List ℕ) where
  -- nothing is tried
  pub tried_none : Tried code p ss (record { tries = 0; best = Nothing })
  unfolding best_of
  tried_none =
      record {
        sound = tt;
        backed = backed_none code ss;
        ended = λ z. cc;
        going = λ _. search_start code p ss;
      }

  -- all is tried, or the search is ended
  pub tried_all : (o : Outcome) → Tried code p ss o → (is_sure o.best ≡ false → o.tries ≡ 2 ^ p) → outcome_of p ss o ≡ soft_stage code p ss
  tried_all o t h = go (is_sure o.best) refl
    where
      go : (b : Bool) → is_sure o.best ≡ b → outcome_of p ss o ≡ soft_stage code p ss
      go true e = t.ended e
      go false e =
          let made = h e in
          let best = best_of p ss (pick_in o.best) in
          outcome_settled p ss o.tries o.best e
          ∙ ap (λ (k : ℕ). settled k best) made
          ∙ sym (step_end code p ss (2 ^ p) o.tries best (sym made)) ∙ t.going e

  module _ (o : Outcome) (unsure : is_sure o.best ≡ false) (t : Tried code p ss o) where
    -- tries that have no candidate
    pub tried_missed : (k : ℕ) → o.tries ≤ k → k ≤ 2 ^ p
        → ((i : ℕ) → o.tries ≤ i → i < k → map (candidate code p ss i) (tried code p ss i) ≡ none)
        → Tried code p ss (record { tries = k; best = o.best })
    tried_missed k l u h =
        record {
          sound = t.sound;
          backed = t.backed;
          ended = λ z. cc;
          going = λ _.
              sym (skip code p ss (2 ^ p) (k - o.tries) o.tries k (best_of p ss (pick_in o.best)) (omega arith) u h) ∙ t.going unsure;
        }

  -- a try that has one: j is its test word, and `o` has counted it
  module _ (is_code : Lawful code) (long : length ss ≡ word_length code) (symbols : Symbols ss) (o : Outcome) (unsure : is_sure o.best ≡ false)
      (j : ℕ) (made : o.tries ≡ j + 1) (more : j < 2 ^ p) (sound : IsSound code.n o.best) (backed : BestBacked code ss (best_of p ss (pick_in o.best)))
      (old : search_from code p ss (2 ^ p - j) j (best_of p ss (pick_in o.best)) ≡ soft_stage code p ss)
      (A : ℕ) (w : Weight) (f : Flips) (new : Sound code.n (pick_by A o w f))
      (gives : map (candidate code p ss j) (tried code p ss j) ≡ some (candidate_of p ss (pick_by A o w f))) where
    abbrev k : Candidate
    k = candidate_of p ss (pick_by A o w f)

    new_backed : BestBacked code ss (some (candidate_of p ss (pick_by A o w f)))
    new_backed b e = backed_tried code is_code p ss long symbols j more b (gives ∙ e)

    -- one that is farther than the best so far
    turn_farther : (b : Rust·Option Pick) → best_of p ss b ≡ best_of p ss (pick_in o.best) → is_farther b w.sum ≡ true
        → search_from code p ss (2 ^ p - (j + 1)) (j + 1) (best_of p ss (pick_in o.best)) ≡ soft_stage code p ss
    unfolding best_of
    turn_farther None e far = cc
    turn_farther (Some b) e far =
        sym (step_far code is_code p ss long symbols j more k gives (candidate_of p ss b) (backed _ (sym e))
        (ltb-true b.weight.sum w.sum far) (2 ^ p) (best_of p ss (pick_in o.best)) more (sym e)) ∙ old

    -- one that does not end the search: it goes on with the better of the two
    turn_on : A < w.sum → (b : Option Candidate) → better (best_of p ss (pick_in o.best)) (candidate_of p ss (pick_by A o w f)) ≡ b
        → search_from code p ss (2 ^ p - o.tries) o.tries b ≡ soft_stage code p ss
    turn_on l b e =
        ap (λ (i : ℕ). search_from code p ss (2 ^ p - i) i b) made
        ∙ ap (search_from code p ss (2 ^ p - (j + 1)) (j + 1)) (sym e)
        ∙ sym (step_on code p ss (2 ^ p) j (best_of p ss (pick_in o.best)) more k gives l) ∙ old

    pub tried_judged : Tried code p ss (judged_by A o w f)
    unfolding best_of answer_in
    tried_judged = go (is_farther (pick_in o.best) w.sum) refl (leb w.sum A) refl (is_nearer (pick_in o.best) w.sum) refl
      where
        kept : search_from code p ss (2 ^ p - o.tries) o.tries (best_of p ss (pick_in o.best)) ≡ soft_stage code p ss → Tried code p ss o
        kept e = record { sound = sound; backed = backed; ended = λ z. cc; going = λ _. e }

        go : (x : Bool) → is_farther (pick_in o.best) w.sum ≡ x → (y : Bool) → leb w.sum A ≡ y → (z : Bool) → is_nearer (pick_in o.best) w.sum ≡ z
            → Tried code p ss (cond x o (cond y (record { tries = o.tries; best = Sure (pick_by A o w f) })
            (cond z (record { tries = o.tries; best = Fair (pick_by A o w f) }) o)))
        go true far y e z g =
            kept (ap (λ (i : ℕ). search_from code p ss (2 ^ p - i) i (best_of p ss (pick_in o.best))) made ∙ turn_farther (pick_in o.best) refl far)
        go false far true e z g =
            record {
              sound = new;
              backed = new_backed;
              ended = λ _.
                  ap (λ (i : ℕ). answer sure i k) made
                  ∙ sym (step_sure code p ss (2 ^ p) j (best_of p ss (pick_in o.best)) more k gives (leb-true w.sum A e)) ∙ old;
              going = λ z. cc;
            }
        go false far false e true g =
            record {
              sound = new;
              backed = new_backed;
              ended = λ z. cc;
              going = λ _. turn_on (leb-false w.sum A e) (some k) (better_new p ss (pick_in o.best) (pick_by A o w f) g);
            }
        go false far false e false g = kept (turn_on (leb-false w.sum A e) (best_of p ss (pick_in o.best)) (better_old p ss (pick_in o.best) (pick_by A o w f) g))

-- judging a candidate counts no try
pub judged_tries : (A : ℕ) (o : Outcome) (w : Weight) (f : Flips) → (judged_by A o w f).tries ≡ o.tries
judged_tries A o w f = grind (arith, nat_tests)
