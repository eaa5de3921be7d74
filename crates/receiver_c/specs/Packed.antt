-- What the calls for C and Rust answer: one number of 64 bits, which holds a refusal or the answer's fields side by side. The lowest byte
-- tells which: 128 and above is a refusal. Assumes nothing. (That every field is read back as it was is a law: `Unpacked`.)
use Rattle.std.specs.Prelude.{ℕ, suc, ◌+◌, ◌-◌, ◌*◌, ◌/◌, ◌%◌, ◌^◌, min, ◌≡◌, ◌⊎◌, List, [], ◌∷◌, Float, ℤ, pos, negsuc, get_or}
use Rattle.std.proofs.Common.{inl, inr}
use Rattle.std.proofs.Math.Option.{Option, none, some}
use Rattle.chase.specs.Soft.{Answer}
use Rattle.take_format.specs.Refusal.{Refusal, first_of}
use Rattle.take_format.specs.Calls.{HardAnswer, refused, lost, found, unless_refused}
use Rattle.take_format.specs.Batch.{mark_byte, Totals}
use Rattle.take_format.specs.Take.{Header}
use Rattle.take_format.specs.Samples.{ladder_check, samples_refusal, quantised}
use Rattle.take_format.specs.Promise.{TakePromise}

-- a refusal: 128 more than its number, and above that byte its place, or the largest number of 56 bits where that is less
unfoldable pub refusal_packed : Refusal → ℕ
refusal_packed r = 128 + r.number + 2 ^ 8 * min r.place (2 ^ 56 - 1)

-- encoding, a ladder, quantising: 0 where nothing is refused
unfoldable pub check_packed : Option Refusal → ℕ
unfolding refusal_packed
check_packed none = 0
check_packed (some r) = refusal_packed r

-- the hard stage: 0 lost; or 1, the number of flips, a byte, and the three places of the flipped positions, each two bytes
unfoldable pub hard_packed : HardAnswer → ℕ
unfolding refusal_packed
hard_packed h =
    elim h.case [
      | refused r ↦ refusal_packed r
      | lost ↦ 0
      | found ↦ 1 + 2 ^ 8 * h.count + 2 ^ 16 * get_or h.places 0 0 + 2 ^ 32 * get_or h.places 1 0 + 2 ^ 48 * get_or h.places 2 0
    ]

-- a margin: 2^15 more than it is, so that it is no less than 0
unfoldable pub margin_packed : ℤ → ℕ
margin_packed (pos a) = 2 ^ 15 + a
margin_packed (negsuc a) = 2 ^ 15 - suc a

-- the soft stage: the mark's byte (0 lost, 1 fair, 2 sure), the flips, the tries and the place, each a byte; the distance and the
-- margin, each two bytes
unfoldable pub answer_packed : Answer → ℕ
unfolding margin_packed
answer_packed a =
    mark_byte a.mark + 2 ^ 8 * a.flips + 2 ^ 16 * a.tries + 2 ^ 24 * a.place + 2 ^ 32 * a.distance + 2 ^ 48 * margin_packed a.margin

unfoldable pub soft_packed : Refusal ⊎ Answer → ℕ
unfolding refusal_packed answer_packed
soft_packed (inl r) = refusal_packed r
soft_packed (inr a) = answer_packed a

-- opening a take: a zero byte; the words and n, each two bytes; m, t and the depth, each a byte
unfoldable pub header_packed : Header → ℕ
header_packed h = 2 ^ 8 * h.words + 2 ^ 24 * h.code.n + 2 ^ 40 * h.code.m + 2 ^ 48 * h.code.t + 2 ^ 56 * h.depth

unfoldable pub open_packed : Refusal ⊎ Header → ℕ
unfolding refusal_packed header_packed
open_packed (inl r) = refusal_packed r
open_packed (inr h) = header_packed h

-- reading a take: a zero byte; the words that are sure and those that are fair, each two bytes; and the tries, three bytes. The words are
-- as many as the marks, and those that are neither sure nor fair are lost
unfoldable pub totals_packed : Totals → ℕ
totals_packed k = 2 ^ 8 * k.sures + 2 ^ 24 * k.fairs + 2 ^ 40 * k.tries

unfoldable pub take_packed : Refusal ⊎ Totals → ℕ
unfolding refusal_packed totals_packed
take_packed (inl r) = refusal_packed r
take_packed (inr k) = totals_packed k

-- a strip's length: a zero byte, and the length, seven bytes. Printing a strip answers as reading a take does
unfoldable pub length_packed : Refusal ⊎ ℕ → ℕ
unfolding refusal_packed
length_packed (inl r) = refusal_packed r
length_packed (inr n) = 2 ^ 8 * n

-- quantising by a ladder's edges: first the ladder's check, then the samples'
unfoldable pub quantise_refusal : List Float → List ℕ → List Float → List ℕ → Option Refusal
unfolding first_of ladder_check samples_refusal
quantise_refusal es kinds levels symbols = first_of (ladder_check es ∷ samples_refusal kinds levels symbols ∷ [])

-- the symbols' buffer then holds the samples' symbols
unfoldable pub quantise_buffer : List Float → List ℕ → List Float → List ℕ → List ℕ
unfolding unless_refused quantise_refusal quantised
quantise_buffer es kinds levels symbols = unless_refused (quantise_refusal es kinds levels symbols) symbols (quantised es kinds levels)

-- the promise of a take, with the totals that are read off the number
pub record NumberPromise (number : ℕ) (bs messages marks : List ℕ) : Type 0 where
  pub totals : Totals
  pub promise : TakePromise bs messages marks totals
  pub sures : totals.sures ≡ number / 2 ^ 8 % 2 ^ 16
  pub fairs : totals.fairs ≡ number / 2 ^ 24 % 2 ^ 16
  pub tries : totals.tries ≡ number / 2 ^ 40

-- where the number's lowest byte is 0, which is no refusal, the take's bytes and the bytes then in the buffers keep it
abbrev pub Promised : ℕ → List ℕ → List ℕ → List ℕ → Type 0
Promised number bs messages marks = number % 2 ^ 8 ≡ 0 → NumberPromise number bs messages marks
