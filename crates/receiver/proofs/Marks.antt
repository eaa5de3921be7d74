-- The mark, the tries and the word of a word's answer, by the outcome that it stands for or by its case. Assumes nothing.
use Prim.Native.Nat.{ℕ}
use mathlib.Core.Path.{◌≡◌, refl, ◌∙◌}
use mathlib.Core.Logic.{◌≢◌, inr}
use mathlib.Core.List.{List, []}
use denote.Enum.Bare.{sameb}
use denote.Enum.Declared.{tag_of}
use lib.Dec.{eqb}
use lib.ListN.{drop}
use Rattle.std.specs.Prelude.{Result, Ok, Err}
use Rattle.chase.specs.Soft.{Answer, Mark as Told, lost, fair, sure, answer, lost_answer}
use Rattle.take_format.specs.Batch.{mark_byte, Totals, counted_of, capped, counted_answer}
use Rattle.refusal.specs.Checked.{answer_of}
use Rattle.refusal.specs.declared.Refusal.{Refusal}
use Rattle.receiver.specs.Answer.{found_of, soft_of, with_answer, byte_of}
use Rattle.receiver.specs.Search.{answer_in, written_from, mark_in}
use Rattle.receiver.specs.contracts.Mark.{the_type}
use Rattle.receiver.specs.declared.Mark as declared
use Rattle.receiver.specs.declared.Mark.TheVariants as Mark
use Rattle.receiver.specs.declared.search.Best.{Best}
use Rattle.receiver.specs.declared.Soft.{Soft}
use Rattle.receiver.specs.declared.Soft.TheVariants.{Lost, Fair, Sure}

-- ---- a mark

-- two marks are the same where their bytes are
pub same_mark : (m a : declared.Mark) → sameb the_type m a ≡ eqb (byte_of a) (byte_of m)
same_mark Mark.Lost Mark.Lost = refl
same_mark Mark.Lost Mark.Fair = refl
same_mark Mark.Lost Mark.Sure = refl
same_mark Mark.Fair Mark.Lost = refl
same_mark Mark.Fair Mark.Fair = refl
same_mark Mark.Fair Mark.Sure = refl
same_mark Mark.Sure Mark.Lost = refl
same_mark Mark.Sure Mark.Fair = refl
same_mark Mark.Sure Mark.Sure = refl

-- a mark's number is its byte
pub number_told : (m : declared.Mark) → tag_of the_type m ≡ byte_of m
number_told Mark.Lost = refl
number_told Mark.Fair = refl
number_told Mark.Sure = refl

-- ---- an outcome

-- its mark and its tries are the answer's
pub outcome_told : (p : ℕ) (ss : List ℕ) (tries : ℕ) (b : Best) (a : Answer) → answer_in p ss tries b ≡ a
    → (byte_of (mark_in b) ≡ mark_byte a.mark) × (tries ≡ a.tries)
unfolding answer_in answer lost_answer
outcome_told p ss tries Best.Nothing a e = rw (← e) (refl, refl)
outcome_told p ss tries (Best.Fair k) a e = rw (← e) (refl, refl)
outcome_told p ss tries (Best.Sure k) a e = rw (← e) (refl, refl)

-- what is written for an answer that is not lost is its word from there on
pub word_written : (from : ℕ) (a : Answer) (old : List ℕ) → mark_byte a.mark ≢ 0 → written_from from a old ≡ drop from a.word
unfolding written_from
word_written from a old n = go a.mark refl n
  where
    go : (m : Told) → a.mark ≡ m → mark_byte m ≢ 0 → written_from from a old ≡ drop from a.word
    go lost q n = absurd (n refl)
    go fair q n = rw q refl
    go sure q n = rw q refl

-- ---- an answer's case

-- an answer is counted by its mark and its tries, whatever word stands beside it
pub counts : (k : Totals) (a : Result Soft Refusal) (word : List ℕ) (answer : Answer) → soft_of a word ≡ inr answer
    → counted_answer k (soft_of a []) ≡ capped (counted_of k (mark_byte answer.mark) answer.tries)
unfolding answer_of found_of lost_answer counted_answer
counts k (Err r) word answer h = cc
counts k (Ok (Lost tries)) word answer h = let e : found_of word (Lost tries) ≡ answer = cc in rw (← e) refl
counts k (Ok (Fair f)) word answer h = let e : found_of word (Fair f) ≡ answer = cc in rw (← e) refl
counts k (Ok (Sure f)) word answer h = let e : found_of word (Sure f) ≡ answer = cc in rw (← e) refl

-- totals with one more answer are those of `counted_answer`, ..
pub with_counted : (k : Totals) (a : Result Soft Refusal) → with_answer k a ≡ counted_answer k (soft_of a [])
unfolding answer_of counted_answer with_answer
with_counted k (Err r) = refl
with_counted k (Ok a) = refl

-- .. and count it so
pub answer_counts : (k : Totals) (a : Result Soft Refusal) (word : List ℕ) (answer : Answer) → soft_of a word ≡ inr answer
    → with_answer k a ≡ capped (counted_of k (mark_byte answer.mark) answer.tries)
answer_counts k a word answer h = with_counted k a ∙ counts k a word answer h
