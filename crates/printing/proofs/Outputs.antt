-- Laws of the program's output: what it is for an input, and that a strip has room in its buffer. Assumes nothing.
use Prim.Native.Nat.{ℕ, ◌*◌, ◌≤◌, ◌<◌}
use native.Mathlib.Nat.{mul-le-mul_left}
use native.Mathlib.Omega.{arith}
use mathlib.Core.Path.{◌≡◌, refl, ap, sym}
use mathlib.Core.Logic.{◌⊎◌, inl, inr}
use mathlib.Core.List.{List}
use borrow.Author.Tests.{lt-ltb, le-ltb}
use lib.ListN.{length}
use Rattle.bch.specs.Code.{word_length}
use Rattle.bch.proofs.codes.Settings.{word_long}
use Rattle.take_format.specs.Refusal.{Refusal}
use Rattle.take_format.specs.Take.{Header, open_answer}
use Rattle.take_format.proofs.takes.Reading.{Reading, is_code, whole}
use Rattle.listing.specs.Takelist.{takelist, over}
use Rattle.printing.specs.Layout.{strip_length}
use Rattle.printing.specs.Calls.{take_strip, open_strip, strip_output}

module _ (bs : List ℕ) where
  pub long_output : 65536 < length bs → strip_output bs ≡ takelist bs
  unfolding strip_output
  long_output h = rw (strip_output, lt-ltb 65536 (length bs) h) refl

  opened_output : length bs ≤ 65536 → (o : Refusal ⊎ Header) → o ≡ open_answer bs → strip_output bs ≡ open_strip o bs
  unfolding strip_output
  opened_output h o e = rw (strip_output, le-ltb 65536 (length bs) h) (ap (λ (x : Refusal ⊎ Header). open_strip x bs) (sym e))

  pub refused_output : length bs ≤ 65536 → (r : Refusal) → inl r ≡ open_answer bs → strip_output bs ≡ takelist bs
  unfolding open_strip
  refused_output h r e = opened_output h (inl r) e

  pub strip_output_lem : length bs ≤ 65536 → (x : Header) → inr x ≡ open_answer bs → strip_output bs ≡ take_strip bs
  unfolding open_strip
  strip_output_lem h x e = opened_output h (inr x) e

-- a word has at least 6 symbols, ..
module _ (bs : List ℕ) (h : Header) (ok : Reading bs h) (short : length bs ≤ 65536) where
  six : h.words * 6 ≤ 65536
  six =
      let all : h.words * 6 ≤ h.words * word_length h.code = mul-le-mul_left h.words (word_long h.code (is_code bs h ok)).0 in
      omega (arith, all, whole bs h ok)

  -- .. so that the strip of a take of up to 65,536 bytes has room
  pub strip_room : strip_length h.words ≤ 900000
  unfolding strip_length
  strip_room = omega (arith, six)

-- the listing's text, where that is the output
pub as_listed : (a b old now : List ℕ) (end : ℕ) → a ≡ b → (end ≡ length b) × ((now ≡ over b old) × (end ≤ length now))
    → (end ≡ length a) × ((now ≡ over a old) × (end ≤ length now))
as_listed a b old now end e p = rw e p
