-- The strip of a take (document 02, §3), what the calls answer, what they leave in the strip, and the output of the program `strip`.
-- Assumes nothing.
use Rattle.std.specs.Prelude.{ℕ, true, false, ◌⊎◌, List, [], ◌∷◌, ltb, length, drop}
use Rattle.std.proofs.Common.{inl, inr}
use Rattle.std.proofs.Math.Option.{Option}
use Rattle.bch.specs.Code.{Code, word_length}
use Rattle.chase.specs.Soft.{soft_stage}
use Rattle.take_format.specs.Refusal.{Refusal, first_of, output_length}
use Rattle.take_format.specs.Calls.{answered, unless_refused}
use Rattle.take_format.specs.Batch.{part, Totals}
use Rattle.take_format.specs.Take.{Header, header, header_refusal, take_symbols_check, open_refusal, open_answer, totals}
use Rattle.listing.specs.Takelist.{takelist}
use Rattle.printing.specs.Layout.{answer_row, strip_text, strip_length}

-- the line of word w, of a code, at depth p
unfoldable pub row_at : Code → ℕ → List ℕ → ℕ → List ℕ
unfolding answer_row soft_stage
row_at c p symbols w = answer_row w (soft_stage c p (part (word_length c) w symbols))

-- the strip of a take
unfoldable pub take_strip : List ℕ → List ℕ
unfolding strip_text row_at header
take_strip bs = strip_text (header bs).words (row_at (header bs).code (header bs).depth (drop (header bs).offset bs))

-- the checks: 12, 13, 1, 2, 3, 4, 14, 7, 9
unfoldable pub strip_refusal : List ℕ → List ℕ → Option Refusal
unfolding header first_of header_refusal output_length take_symbols_check strip_length
strip_refusal bs strip = first_of (header_refusal bs ∷ output_length (strip_length (header bs).words) (length strip) ∷ take_symbols_check bs ∷ [])

-- the strip's length is answered where the take can be opened
unfoldable pub length_answer : List ℕ → Refusal ⊎ ℕ
unfolding answered open_refusal strip_length header
length_answer bs = answered (open_refusal bs) (strip_length (header bs).words)

-- printing answers a refusal or the totals, ..
unfoldable pub strip_answer : List ℕ → List ℕ → Refusal ⊎ Totals
unfolding answered strip_refusal totals
strip_answer bs strip = answered (strip_refusal bs strip) (totals bs)

-- .. and the buffer then holds the strip
unfoldable pub strip_buffer : List ℕ → List ℕ → List ℕ
unfolding unless_refused strip_refusal take_strip
strip_buffer bs strip = unless_refused (strip_refusal bs strip) strip (take_strip bs)

-- ---- the program

-- a refusal prints what `takelist` prints for it
unfoldable pub open_strip : Refusal ⊎ Header → List ℕ → List ℕ
unfolding takelist take_strip
open_strip (inl r) bs = takelist bs
open_strip (inr h) bs = take_strip bs

-- the whole output for an input: of a take of up to 65,536 bytes its strip; longer input prints what `takelist` prints for it
unfoldable pub strip_output : List ℕ → List ℕ
unfolding takelist open_strip open_answer
strip_output bs = elim (ltb 65536 (length bs)) [ true ↦ takelist bs | false ↦ open_strip (open_answer bs) bs ]
