-- What the numbers of the search stand for, and when they are sound. Cited by the contracts of private functions alone.
-- Assumes nothing.
use Rattle.std.specs.Prelude.{ℕ, ◌-◌, ◌^◌, ◌≤◌, ◌<◌, ◌≡◌, Bool, true, false, List, ltb, leb, length, drop, IfSome, Option as Rust·Option, Some, None}
use Rattle.std.proofs.Math.Bool.{cond}
use Rattle.std.proofs.Math.Option.{Option, none, some}
use Rattle.std.proofs.Math.IntN.{sub_ℕ}
use Rattle.bch.specs.Words.{Below, flipped_at}
use Rattle.bch.specs.Code.{Code}
use Rattle.chase.specs.Soft.{Answer, Candidate, answer, lost_answer, lost, fair, sure, search_from, soft_stage}
use Rattle.chase.specs.Word.{test}
use Rattle.chase.proofs.test_words.Doublings.{Holds}
use Rattle.chase.proofs.search.Ready.{packed_test}
use Rattle.chase.proofs.search.Passing.{BestBacked}
use Rattle.refusal.specs.Named.{code_of}
use Rattle.receiver.specs.declared.flips.Flips.{Flips}
use Rattle.receiver.specs.declared.least_keys.Ranked.{Ranked}
use Rattle.receiver.specs.declared.tables.Tables.{Tables}
use Rattle.receiver.specs.declared.weighing.Weight.{Weight}
use Rattle.receiver.specs.declared.search.Pick.{Pick}
use Rattle.receiver.specs.declared.search.Best.{Best}
use Rattle.receiver.specs.declared.search.Best.TheVariants.{Nothing, Fair, Sure}
use Rattle.receiver.specs.declared.search.Outcome.{Outcome}
use Rattle.receiver.specs.declared.Found.{Found}
use Rattle.receiver.specs.declared.Mark.{Mark}
use Rattle.receiver.specs.declared.Soft.{Soft}
use Rattle.receiver.specs.Held.{code_in}
use Rattle.receiver.specs.Located.{flips_of}

-- the best candidate, where there is one
abbrev pub pick_in : Best → Rust·Option Pick
pick_in Nothing = None
pick_in (Fair k) = Some k
pick_in (Sure k) = Some k

-- whether it ends the search
abbrev pub is_sure : Best → Bool
is_sure Nothing = false
is_sure (Fair k) = false
is_sure (Sure k) = true

-- its mark
abbrev pub mark_in : Best → Mark
mark_in Nothing = Mark.Lost
mark_in (Fair k) = Mark.Fair
mark_in (Sure k) = Mark.Sure

module _ (p : ℕ) (ss : List ℕ) where
  -- the candidate of a pick
  abbrev pub candidate_of : Pick → Candidate
  candidate_of k =
      record { word = flipped_at (flips_of k.flips) (test p ss k.place); q = k.weight.q; L = k.weight.sum; A = k.allowed; j = k.place }

  -- what the best so far stands for
  unfoldable pub best_of : Rust·Option Pick → Option Candidate
  best_of None = none
  best_of (Some k) = some (candidate_of k)

  -- what the search gives
  unfoldable pub answer_in : ℕ → Best → Answer
  unfolding answer lost_answer
  answer_in tries Nothing = lost_answer tries
  answer_in tries (Fair k) = answer fair tries (candidate_of k)
  answer_in tries (Sure k) = answer sure tries (candidate_of k)

  abbrev pub outcome_of : Outcome → Answer
  outcome_of o = answer_in o.tries o.best

-- a candidate of distance L is farther than the best so far, where there is one
abbrev pub is_farther : Rust·Option Pick → ℕ → Bool
is_farther None L = false
is_farther (Some k) L = ltb k.weight.sum L

-- a candidate of distance L is nearer than the best so far, or there is none
abbrev pub is_nearer : Rust·Option Pick → ℕ → Bool
is_nearer None L = true
is_nearer (Some k) L = ltb L k.weight.sum

-- the candidate of the last try, of allowance A
abbrev pub pick_by : ℕ → Outcome → Weight → Flips → Pick
pick_by A o w f = record { weight = w; allowed = A; place = o.tries - 1; flips = f }

-- an outcome with that candidate
abbrev pub judged_by : ℕ → Outcome → Weight → Flips → Outcome
judged_by A o w f =
    cond (is_farther (pick_in o.best) w.sum) o
    (cond (leb w.sum A) (record { tries = o.tries; best = Sure (pick_by A o w f) })
    (cond (is_nearer (pick_in o.best) w.sum) (record { tries = o.tries; best = Fair (pick_by A o w f) }) o))

-- a pick's numbers are small, and its positions those of a word of n bits
pub record Sound (n : ℕ) (k : Pick) : Type 0 where
  pub placed : Below n (flips_of k.flips)
  pub sum_small : k.weight.sum < 65536
  pub allowed_small : k.allowed < 65536

-- the same of the best so far, where there is one
abbrev pub IsSound : ℕ → Best → Type 0
IsSound n b = IfSome (pick_in b) (Sound n)

-- an outcome after some tries: its pick stands for a codeword with its distance, and it is the search's answer where one ended it, and otherwise
-- what is left to try gives that answer
pub record Tried (c : Code) (p : ℕ) (ss : List ℕ) (o : Outcome) : Type 0 where
  pub sound : IsSound c.n o.best
  pub backed : BestBacked c ss (best_of p ss (pick_in o.best))
  pub ended : is_sure o.best ≡ true → outcome_of p ss o ≡ soft_stage c p ss
  pub going : is_sure o.best ≡ false → search_from c p ss (2 ^ p - o.tries) o.tries (best_of p ss (pick_in o.best)) ≡ soft_stage c p ss

-- the first test words
pub record TestWords (c : Code) (p : ℕ) (ss ts : List ℕ) : Type 0 where
  pub most : length ts ≤ 2 ^ p
  pub are_tests : Holds (packed_test c p ss) (length ts) ts

-- .. of a word that is ranked, by its code's tables
module _ (t : Tables) (w : Ranked) where
  abbrev pub TestsOf : List ℕ → Type 0
  TestsOf ts = TestWords (code_of (code_in t)) w.p w.symbols.now ts

  -- its outcome after some tries
  abbrev pub TriedOf : Outcome → Type 0
  TriedOf o = Tried (code_of (code_in t)) w.p w.symbols.now o

  -- the soft stage's answer
  abbrev pub stage_of : Answer
  stage_of = soft_stage (code_of (code_in t)) w.p w.symbols.now

  -- and the search's outcome
  abbrev pub SearchedOf : Outcome → Type 0
  SearchedOf o = (outcome_of w.p w.symbols.now o ≡ stage_of) × IsSound (code_in t).n o.best

-- what is written for an answer, of its codeword from a position on, over what was there
unfoldable pub written_from : ℕ → Answer → List ℕ → List ℕ
written_from from a old = elim a.mark [ lost ↦ old | fair ↦ drop from a.word | sure ↦ drop from a.word ]

-- a candidate that is found, as the caller's answer has it
abbrev pub found_by : ℕ → Pick → Found
found_by tries k =
    record { distance = k.weight.sum; margin = sub_ℕ k.allowed k.weight.sum; flips = k.weight.q; place = k.place; tries = tries }

-- the answer's case for an outcome
abbrev pub told : ℕ → Best → Soft
told tries Nothing = Soft.Lost tries
told tries (Fair k) = Soft.Fair (found_by tries k)
told tries (Sure k) = Soft.Sure (found_by tries k)
