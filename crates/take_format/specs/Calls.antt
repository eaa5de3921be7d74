-- What the calls answer, and what they leave in the caller's buffers (document 01, "Hard stage", "Soft stage", "Samples to symbols" and
-- "Refusals, by their cause"): a call that refuses leaves them as they were, and a word that is lost its codeword. Assumes nothing.
-- (The calls on a take stand with it, in `Take`.)
use Rattle.std.specs.Prelude.{ℕ, ◌⊎◌, List, [], Float, length}
use Rattle.std.proofs.Common.{inl, inr}
use Rattle.std.proofs.Math.Option.{Option, none, some}
use Rattle.bch.specs.Code.{Code}
use Rattle.bch.specs.Encode.{encoded}
use Rattle.bch.specs.Hard.{Repair, hard_stage, three_places, hard_written}
use Rattle.chase.specs.Soft.{Answer, soft_stage, soft_written}
use Rattle.take_format.specs.Refusal.{Refusal, encode_refusal, hard_refusal, soft_refusal, words_refusal}
use Rattle.take_format.specs.Batch.{answers_to, messages_of, marks_of, Totals, totals_of}
use Rattle.take_format.specs.Samples.{ladder_check, quantised, samples_refusal}

-- a call's answer: the refusal, where there is one
unfoldable pub answered : {A : Type 0} → Option Refusal → A → Refusal ⊎ A
answered none a = inr a
answered (some r) a = inl r

-- a buffer after a call: as it was, where the call refuses
unfoldable pub unless_refused : Option Refusal → List ℕ → List ℕ → List ℕ
unless_refused none old new = new
unless_refused (some r) old new = old

-- ---- encoding answers a refusal or none

-- the codeword buffer then holds the codeword that carries the message
unfoldable pub encode_buffer : Code → List ℕ → List ℕ → List ℕ
unfolding unless_refused
encode_buffer c message codeword = unless_refused (encode_refusal c message codeword) codeword (encoded c message)

-- ---- the hard stage answers a record: which case it is, how many positions are flipped, and in three places which, unused ones 0

-- a refusal, a word that is lost, or a codeword found
pub data HardCase : Type 0 where
  refused : Refusal → HardCase
  lost : HardCase
  found : HardCase

pub record HardAnswer : Type 0 where
  pub case : HardCase
  pub count : ℕ
  pub places : List ℕ

-- with these positions flipped
unfoldable pub flipped_in : HardCase → List ℕ → HardAnswer
unfolding three_places
flipped_in case P = record { case = case; count = length P; places = three_places P }

-- a refusal and a lost word flip none
unfoldable pub hard_record : Refusal ⊎ Option Repair → HardAnswer
unfolding flipped_in
hard_record (inl r) = flipped_in (refused r) []
hard_record (inr none) = flipped_in lost []
hard_record (inr (some r)) = flipped_in found r.flipped

unfoldable pub hard_answer : Code → List ℕ → List ℕ → HardAnswer
unfolding answered hard_record
hard_answer c bits codeword = hard_record (answered (hard_refusal c bits codeword) (hard_stage c bits))

-- the codeword buffer then holds the codeword
unfoldable pub hard_buffer : Code → List ℕ → List ℕ → List ℕ
unfolding unless_refused
hard_buffer c bits codeword = unless_refused (hard_refusal c bits codeword) codeword (hard_written c bits codeword)

-- ---- the soft stage answers a refusal, or what the search at depth p gives

unfoldable pub soft_answer : Code → ℕ → List ℕ → List ℕ → Refusal ⊎ Answer
unfolding answered
soft_answer c p symbols codeword = answered (soft_refusal c p symbols codeword) (soft_stage c p symbols)

-- the codeword buffer then holds the codeword
unfoldable pub soft_buffer : Code → ℕ → List ℕ → List ℕ → List ℕ
unfolding unless_refused
soft_buffer c p symbols codeword = unless_refused (soft_refusal c p symbols codeword) codeword (soft_written (soft_stage c p symbols) codeword)

-- ---- W words answer a refusal, or the totals of what the search at depth p gives each

unfoldable pub words_answer : Code → ℕ → ℕ → List ℕ → List ℕ → List ℕ → Refusal ⊎ Totals
unfolding answered
words_answer c p W symbols messages marks = answered (words_refusal c p W symbols messages marks) (totals_of (answers_to c p W symbols))

-- the messages' buffer then holds the messages, ..
unfoldable pub messages_buffer : Code → ℕ → ℕ → List ℕ → List ℕ → List ℕ → List ℕ
unfolding unless_refused
messages_buffer c p W symbols messages marks =
    unless_refused (words_refusal c p W symbols messages marks) messages (messages_of c (answers_to c p W symbols))

-- .. and the marks' buffer the marks
unfoldable pub marks_buffer : Code → ℕ → ℕ → List ℕ → List ℕ → List ℕ → List ℕ
unfolding unless_refused
marks_buffer c p W symbols messages marks =
    unless_refused (words_refusal c p W symbols messages marks) marks (marks_of (answers_to c p W symbols))

-- ---- making a ladder answers a refusal, or the edges as they are

unfoldable pub ladder_answer : List Float → Refusal ⊎ List Float
unfolding answered
ladder_answer es = answered (ladder_check es) es

-- ---- quantising answers a refusal or none

-- the symbols' buffer then holds the samples' symbols
unfoldable pub quantised_buffer : List Float → List ℕ → List Float → List ℕ → List ℕ
unfolding unless_refused
quantised_buffer es kinds levels symbols = unless_refused (samples_refusal kinds levels symbols) symbols (quantised es kinds levels)
