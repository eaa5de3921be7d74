-- What the calls answer has room in its fields. Assumes nothing.
use Prim.Native.Nat.{ℕ, ◌*◌, ◌^◌, ◌≤◌, ◌<◌}
use native.Mathlib.Omega.{arith}
use native.Mathlib.Nat.{mul-le-mul_left}
use lib.Ieee.{Float}
use lib.ListN.{length, get_or}
use lib.Pow.{pow_mono}
use lib.Signed.{mag}
use mathlib.Core.Path.{◌≡◌, refl, sym, subst}
use mathlib.Core.Logic.{inl, inr}
use mathlib.Core.List.{List, []}
use mathlib.Core.Option.{Option, none, some}
use Rattle.bch.specs.Code.{Code, word_length}
use Rattle.bch.specs.Hard.{Repair, hard_stage}
use Rattle.bch.specs.Words.{Below}
use Rattle.bch.proofs.codes.Entries.{below_wider}
use Rattle.bch.proofs.codes.Settings.{lawful}
use Rattle.bch.proofs.codes.HardLaws.{hard_found, hard_flipped}
use Rattle.bch.proofs.decoding.Sorting.{rising_distinct, distinct_below}
use Rattle.bch.proofs.tables.Placing.{length_three, three_below}
use Rattle.chase.specs.Soft.{Answer, soft_stage}
use Rattle.chase.proofs.weighing.Sizes.{soft_small}
use Rattle.take_format.specs.Refusal.{Refusal, hard_refusal, soft_refusal}
use Rattle.take_format.specs.Calls.{answered, HardCase, refused, lost, found, HardAnswer, flipped_in, hard_record, hard_answer, soft_answer, ladder_answer}
use Rattle.take_format.specs.Batch.{Totals}
use Rattle.take_format.specs.Samples.{ladder_check}
use Rattle.take_format.specs.Take.{number16, header}
use Rattle.take_format.specs.Promise.{TakePromise}
use Rattle.refusal.specs.Checked.{number_of}
use Rattle.refusal.specs.declared.Cause.{Cause}
use Rattle.take_format.proofs.checks.RefusalLaws.{BitsAccepted, bits_accepted, soft_accepted}
use Rattle.take_format.proofs.checks.CallLaws.{answered_inl, answered_inr}

-- a refusal's number is small
pub number_small : (k : Cause) → number_of k < 128
number_small k = grind arith

pub ladder_refused : (es : List Float) (r : Refusal) → inl r ≡ ladder_answer es → some r ≡ ladder_check es
unfolding ladder_answer
ladder_refused es r e = answered_inl _ _ r e

pub ladder_passed : (es fs : List Float) → inr fs ≡ ladder_answer es → (none ≡ ladder_check es) × (fs ≡ es)
unfolding ladder_answer
ladder_passed es fs e = answered_inr _ _ fs e

-- the numbers of the hard stage's record
pub record Flipped (h : HardAnswer) : Type 0 where
  pub count : h.count < 256
  pub long : length h.places ≡ 3
  pub inside : (i : ℕ) → get_or h.places i 0 < 65536

flipped_room : (k : HardCase) (P : List ℕ) → length P ≤ 3 → Below 65536 P → Flipped (flipped_in k P)
unfolding flipped_in
flipped_room k P few below = record { count = omega arith; long = length_three P; inside = three_below 65535 P below }

module _ (c : Code) (bits codeword : List ℕ) where
  record_room : (o : Option Refusal) (s : Option Repair) → (o ≡ none → BitsAccepted c (word_length c) bits codeword) → hard_stage c bits ≡ s
      → Flipped (hard_record (answered o s))
  unfolding hard_record answered Below
  record_room (some r) s f e = flipped_room (refused r) [] (omega arith) tt
  record_room none none f e = flipped_room lost [] (omega arith) tt
  record_room none (some r) f e =
      let ok = f refl in
      let l = lawful c ok.is_code in
      let (v, near, q) = (hard_found c l bits ok.long ok.are_bits r).0 e in
      let (many, rise, back) = hard_flipped c l bits ok.long ok.are_bits r e in
      let size : 2 ^ c.m ≤ 2 ^ 8 = pow_mono ok.is_code.m_most in
      let below = distinct_below c.n r.flipped (rising_distinct 0 c.n r.flipped rise) in
      flipped_room found r.flipped (omega (arith, many, near, ok.is_code.t_most))
      (below_wider c.n 65536 r.flipped (omega (arith, ok.is_code.n_most)) below)

  -- the hard stage flips at most three positions, of a word
  pub hard_room : (h : HardAnswer) → h ≡ hard_answer c bits codeword → Flipped h
  unfolding hard_answer
  hard_room h e =
      subst Flipped (sym e) (record_room (hard_refusal c bits codeword) (hard_stage c bits) (bits_accepted c (word_length c) bits codeword) refl)

-- the numbers of the soft stage's answer
pub record Room (a : Answer) : Type 0 where
  pub flips : a.flips < 256
  pub tries : a.tries < 256
  pub place : a.place < 256
  pub distance : a.distance < 65536
  pub margin : mag a.margin < 32768

pub soft_room : (c : Code) (p : ℕ) (symbols codeword : List ℕ) (a : Answer) → inr a ≡ soft_answer c p symbols codeword → Room a
unfolding soft_answer
soft_room c p symbols codeword a e =
    let (n, f) = answered_inr (soft_refusal c p symbols codeword) (soft_stage c p symbols) a e in
    let ok = soft_accepted c p symbols codeword (sym n) in
    let deep : 2 ^ p ≤ 2 ^ 6 = pow_mono ok.depth in
    let small = soft_small c (lawful c ok.is_code) p symbols ok.long ok.are_symbols in
    rw f (record {
      flips = omega (arith, small.flips, ok.depth);
      tries = omega (arith, small.tries, deep);
      place = omega (arith, small.place, deep);
      distance = omega (arith, small.distance);
      margin = small.margin;
    })

-- the word count of a take has two bytes
pub few_words : (bs : List ℕ) → get_or bs 0 0 < 256 → get_or bs 1 0 < 256 → (header bs).words ≤ 65535
unfolding header number16
few_words bs low high = omega arith

-- the totals of a take
pub totals_room : (bs messages marks : List ℕ) (k : Totals) → TakePromise bs messages marks k → (header bs).words ≤ 65535
    → (k.sures < 65536) × (k.fairs < 65536) × (k.tries < 16777216)
totals_room bs messages marks k promise few =
    let deep : 2 ^ (header bs).depth ≤ 2 ^ 6 = pow_mono promise.deep in
    let most : (header bs).words * 2 ^ (header bs).depth ≤ (header bs).words * 2 ^ 6 = mul-le-mul_left (header bs).words deep in (
      omega (arith, promise.add_up, promise.words, few),
      omega (arith, promise.add_up, promise.words, few),
      omega (arith, promise.bound, most, few),
    )
