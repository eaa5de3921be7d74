-- What the receiver's answers mean, in document 01's numbers. Assumes nothing.
use Rattle.std.specs.Prelude.{ℕ, ◌⊎◌, List, [], Result, Ok, Err, Option as Rust·Option, Some, None}
use Rattle.std.proofs.Common.{inr}
use Rattle.chase.specs.Soft.{Answer, Mark, fair, sure, lost_answer}
use Rattle.take_format.specs.Calls.{HardAnswer, refused, lost, found, flipped_in}
use Rattle.take_format.specs.Refusal as take_format
use Rattle.take_format.specs.Batch.{Totals, counted_answer}
use Rattle.refusal.specs.Checked.{refusal_of, answer_of}
use Rattle.refusal.specs.declared.Refusal.{Refusal}
use Rattle.receiver.specs.declared.flips.Flips.{Flips}
use Rattle.receiver.specs.declared.Found.{Found}
use Rattle.receiver.specs.declared.Mark as declared
use Rattle.receiver.specs.declared.Mark.TheVariants as Mark
use Rattle.receiver.specs.declared.Soft.{Soft}
use Rattle.receiver.specs.declared.Soft.TheVariants.{Lost, Fair, Sure}
use Rattle.receiver.specs.declared.Totals as struct

-- the hard stage's answer: a refusal; a word that is lost, which flips none; or a codeword found, with how many positions are flipped and in
-- three places which
unfoldable pub hard_of : Result (Rust·Option Flips) Refusal → HardAnswer
unfolding flipped_in
hard_of (Err r) = flipped_in (refused (refusal_of r)) []
hard_of (Ok None) = flipped_in lost []
hard_of (Ok (Some f)) = record { case = found; count = f.count; places = f.at }

-- a codeword found by the soft stage, with its mark and its word
abbrev pub answer_with : Mark → Found → List ℕ → Answer
answer_with mark f word =
    record { mark = mark; distance = f.distance; margin = f.margin; flips = f.flips; place = f.place; tries = f.tries; word = word }

-- the soft stage's answer, beside the word that then stands in the caller's buffer: a refusal; or a mark with L, margin, q, j and the
-- tries, where lost has 0 for L, margin, q and j. (So the answer is one equation with the whole definition, codeword included; a refusal
-- and a lost word do not look at the buffer.)
unfoldable pub found_of : List ℕ → Soft → Answer
unfolding lost_answer
found_of word (Lost tries) = lost_answer tries
found_of word (Fair f) = answer_with fair f word
found_of word (Sure f) = answer_with sure f word

abbrev pub soft_of : Result Soft Refusal → List ℕ → take_format.Refusal ⊎ Answer
soft_of a word = answer_of (found_of word) a

-- a mark's byte
abbrev pub byte_of : declared.Mark → ℕ
byte_of Mark.Lost = 0
byte_of Mark.Fair = 1
byte_of Mark.Sure = 2

-- the five totals
abbrev pub totals_told : struct.Totals → Totals
totals_told k = record { words = k.words; sures = k.sure; fairs = k.fair; losts = k.lost; tries = k.tries }

-- totals with one more answer; a refusal, whatever it says, leaves them as they are. (Of this crate's refusals: `counted_answer` of what
-- `soft_of` reads, by the law `with_counted`.)
unfoldable pub with_answer : {E : Type 0} → Totals → Result Soft E → Totals
with_answer k (Ok a) = counted_answer k (inr (found_of [] a))
with_answer k (Err _) = k

-- the answer to several words: a refusal, or their totals
abbrev pub words_of : Result struct.Totals Refusal → take_format.Refusal ⊎ Totals
words_of a = answer_of totals_told a
