-- Every field of a packed answer is read back as it was, by division and remainder, and the number has 64 bits. Assumes nothing.
use Prim.Native.Nat.{ℕ, ◌+◌, ◌*◌, ◌/◌, ◌%◌, ◌^◌, ◌<◌}
use native.Mathlib.Omega.{arith}
use mathlib.Core.Path.{◌≡◌, refl}
use mathlib.Core.Logic.{inr}
use lib.ListN.{get_or}
use Rattle.chase.specs.Soft.{Mark, lost, fair, sure, Answer}
use Rattle.take_format.specs.Refusal.{Refusal}
use Rattle.take_format.specs.Calls.{HardAnswer, found, lost as lost·hard}
use Rattle.take_format.specs.Batch.{mark_byte, Totals}
use Rattle.take_format.specs.Take.{Header}
use Rattle.receiver_c.specs.Packed.{refusal_packed, hard_packed, margin_packed, answer_packed, header_packed, totals_packed, length_packed}
use Rattle.receiver_c.proofs.Raised.{margin_lt}
use Rattle.receiver_c.proofs.Sizes.{Flipped, Room}

-- a refusal
module _ (r : Refusal) (small : r.number < 128) where
  pub refusal_number : refusal_packed r % 2 ^ 8 ≡ 128 + r.number
  unfolding refusal_packed
  refusal_number = omega arith

  pub refusal_place : r.place < 2 ^ 56 → refusal_packed r / 2 ^ 8 ≡ r.place
  unfolding refusal_packed
  refusal_place h = omega arith

  pub refusal_bits : refusal_packed r < 2 ^ 64
  unfolding refusal_packed
  refusal_bits = omega arith

-- an answer of the hard stage
module _ (h : HardAnswer) (room : Flipped h) where
  pub hard_lost : h.case ≡ lost·hard → hard_packed h ≡ 0
  unfolding hard_packed
  hard_lost e = rw e refl

  module _ (e : h.case ≡ found) where
    abbrev at : ℕ → ℕ
    at i = get_or h.places i 0

    number : hard_packed h ≡ 1 + 2 ^ 8 * h.count + 2 ^ 16 * at 0 + 2 ^ 32 * at 1 + 2 ^ 48 * at 2
    unfolding hard_packed
    number = rw e refl

    pub hard_found : hard_packed h % 2 ^ 8 ≡ 1
    hard_found = omega (arith, number)

    pub hard_count : hard_packed h / 2 ^ 8 % 2 ^ 8 ≡ h.count
    hard_count = omega (arith, number, room.count)

    pub hard_first : hard_packed h / 2 ^ 16 % 2 ^ 16 ≡ at 0
    hard_first = omega (arith, number, room.count, room.inside 0)

    pub hard_second : hard_packed h / 2 ^ 32 % 2 ^ 16 ≡ at 1
    hard_second = omega (arith, number, room.count, room.inside 0, room.inside 1)

    pub hard_third : hard_packed h / 2 ^ 48 ≡ at 2
    hard_third = omega (arith, number, room.count, room.inside 0, room.inside 1)

    pub hard_bits_lem : hard_packed h < 2 ^ 64
    hard_bits_lem = omega (arith, number, room.count, room.inside 0, room.inside 1, room.inside 2)

-- an answer of the soft stage
mark_lt : (m : Mark) → mark_byte m < 3
mark_lt lost = omega arith
mark_lt fair = omega arith
mark_lt sure = omega arith

module _ (a : Answer) (room : Room a) where
  abbrev byte : ℕ
  byte = mark_byte a.mark

  abbrev gap : ℕ
  gap = margin_packed a.margin

  fields : (byte < 3) × (a.flips < 256) × (a.tries < 256) × (a.place < 256) × (a.distance < 65536) × (gap < 65536)
  fields = (mark_lt a.mark, room.flips, room.tries, room.place, room.distance, margin_lt a.margin room.margin)

  pub answer_mark : answer_packed a % 2 ^ 8 ≡ mark_byte a.mark
  unfolding answer_packed
  answer_mark = omega (arith, fields.0)

  pub answer_flips : answer_packed a / 2 ^ 8 % 2 ^ 8 ≡ a.flips
  unfolding answer_packed
  answer_flips = omega (arith, fields.0, fields.1)

  pub answer_tries : answer_packed a / 2 ^ 16 % 2 ^ 8 ≡ a.tries
  unfolding answer_packed
  answer_tries = omega (arith, fields.0, fields.1, fields.2)

  pub answer_place : answer_packed a / 2 ^ 24 % 2 ^ 8 ≡ a.place
  unfolding answer_packed
  answer_place = omega (arith, fields.0, fields.1, fields.2, fields.3)

  pub answer_distance : answer_packed a / 2 ^ 32 % 2 ^ 16 ≡ a.distance
  unfolding answer_packed
  answer_distance = omega (arith, fields.0, fields.1, fields.2, fields.3, fields.4)

  pub answer_margin : answer_packed a / 2 ^ 48 ≡ margin_packed a.margin
  unfolding answer_packed
  answer_margin = omega (arith, fields.0, fields.1, fields.2, fields.3, fields.4)

  pub answer_bits : answer_packed a < 2 ^ 64
  unfolding answer_packed
  answer_bits = omega (arith, fields.0, fields.1, fields.2, fields.3, fields.4, fields.5)

-- a take's header
module _ (h : Header) (words : h.words < 65536) (n : h.code.n < 65536) (m : h.code.m < 256) (t : h.code.t < 256) where
  pub header_zero : header_packed h % 2 ^ 8 ≡ 0
  unfolding header_packed
  header_zero = omega arith

  pub header_words : header_packed h / 2 ^ 8 % 2 ^ 16 ≡ h.words
  unfolding header_packed
  header_words = omega arith

  pub header_n : header_packed h / 2 ^ 24 % 2 ^ 16 ≡ h.code.n
  unfolding header_packed
  header_n = omega arith

  pub header_m : header_packed h / 2 ^ 40 % 2 ^ 8 ≡ h.code.m
  unfolding header_packed
  header_m = omega arith

  pub header_t : header_packed h / 2 ^ 48 % 2 ^ 8 ≡ h.code.t
  unfolding header_packed
  header_t = omega arith

  pub header_depth : header_packed h / 2 ^ 56 ≡ h.depth
  unfolding header_packed
  header_depth = omega arith

  pub header_bits : h.depth < 256 → header_packed h < 2 ^ 64
  unfolding header_packed
  header_bits d = omega arith

-- the totals of a take
module _ (k : Totals) (room : (k.sures < 65536) × (k.fairs < 65536) × (k.tries < 16777216)) where
  pub totals_zero : totals_packed k % 2 ^ 8 ≡ 0
  unfolding totals_packed
  totals_zero = omega arith

  pub totals_sures : k.sures ≡ totals_packed k / 2 ^ 8 % 2 ^ 16
  unfolding totals_packed
  totals_sures = omega (arith, room.0)

  pub totals_fairs : k.fairs ≡ totals_packed k / 2 ^ 24 % 2 ^ 16
  unfolding totals_packed
  totals_fairs = omega (arith, room.0, room.1)

  pub totals_tries : k.tries ≡ totals_packed k / 2 ^ 40
  unfolding totals_packed
  totals_tries = omega (arith, room.0, room.1)

  pub totals_bits : totals_packed k < 2 ^ 64
  unfolding totals_packed
  totals_bits = omega (arith, room.0, room.1, room.2)

-- a strip's length
module _ (n : ℕ) where
  pub length_zero : length_packed (inr n) % 2 ^ 8 ≡ 0
  unfolding length_packed
  length_zero = omega arith

  pub length_bytes : length_packed (inr n) / 2 ^ 8 ≡ n
  unfolding length_packed
  length_bytes = omega arith

  pub length_bits : n < 2 ^ 56 → length_packed (inr n) < 2 ^ 64
  unfolding length_packed
  length_bits h = omega arith
