-- Laws of the program's output: what it is for an input, and that it has room in its buffer. Assumes nothing.
use Rattle.std.proofs.Common.{ℕ, zero, suc, ◌+◌, ◌*◌, ◌≤◌, ◌<◌, ◌≡◌, List, ◌++◌, length, drop, refl, sym, ap, ◌∙◌, arith, inl, inr, ◌⊎◌}
use native.Mathlib.Nat.{suc-mul, mul-add, mul-le-mul, mul-le-mul_left}
use native.Mathlib.Numerals.{add-one}
use borrow.Author.Tests.{lt-ltb, le-ltb}
use lib.ListN.{length-append}
use Rattle.bch.specs.Code.{word_length, message_length}
use Rattle.bch.proofs.codes.Settings.{word_long}
use Rattle.take_format.specs.Refusal.{Refusal}
use Rattle.take_format.specs.Batch.{message, answers_to, Totals, totals_of}
use Rattle.take_format.specs.Take.{Header, answers, totals, open_answer}
use Rattle.take_format.proofs.takes.Reading.{Reading, answer_at, totals_all, is_code, whole, depth_most, small_at}
use Rattle.listing.specs.Text.{word_line, totals_line, refusal_line, too_long}
use Rattle.listing.specs.Takelist.{line_at, lines_of, take_text, open_text, takelist}
use Rattle.listing.specs.Rows.{rows, row_at}
use Rattle.listing.proofs.Rows.{word_line_long}
use Rattle.listing.proofs.Words.{parity_fits, message_at, rows_more, reading}

module _ (bs : List ℕ) where
  pub long_input : 65536 < length bs → too_long ≡ takelist bs
  unfolding takelist
  long_input h = rw (takelist, lt-ltb 65536 (length bs) h) refl

  opened_input : length bs ≤ 65536 → (o : Refusal ⊎ Header) → open_answer bs ≡ o → open_text o bs ≡ takelist bs
  unfolding takelist
  opened_input h o e = rw (takelist, le-ltb 65536 (length bs) h) (ap (λ (x : Refusal ⊎ Header). open_text x bs) (sym e))

  pub refused_input : length bs ≤ 65536 → (r : Refusal) → open_answer bs ≡ inl r → refusal_line r ≡ takelist bs
  unfolding open_text
  refused_input h r e = opened_input h (inl r) e

  -- the lines of all words, and the totals: as what a header says has them ..
  pub take_text_lem : (h : Header) → Reading bs h → lines_of h.code h.depth h.words (drop h.offset bs) ++ totals_line
      (totals_of (answers_to h.code h.depth h.words (drop h.offset bs))) ≡ take_text bs
  unfolding take_text totals answers
  take_text_lem h ok =
      ap (λ (x : Header). lines_of x.code x.depth x.words (drop x.offset bs) ++ totals_line
      (totals_of (answers_to x.code x.depth x.words (drop x.offset bs)))) ok.read

  -- .. and as rows
  pub take_input : length bs ≤ 65536 → (h : Header) (k : Totals) → open_answer bs ≡ inr h → k ≡ totals bs
      → rows word_line bs h h.words ++ totals_line k ≡ takelist bs
  unfolding rows lines_of line_at open_text
  take_input short h k e t =
      let ok = reading bs h e in
      ap (λ (x : Totals). rows word_line bs h h.words ++ totals_line x) (t ∙ sym (totals_all bs h ok))
      ∙ take_text_lem h ok ∙ opened_input short (inr h) e

  -- a word has at least 6 symbols, so that all lines have room
  module _ (h : Header) (ok : Reading bs h) (short : length bs ≤ 65536) where
    six : h.words * 6 ≤ h.words * word_length h.code
    six = mul-le-mul_left h.words (word_long h.code (is_code bs h ok)).0

    rows_long : (w : ℕ) → w ≤ h.words → length (rows word_line bs h w) ≤ w * (message_length h.code + 81)
    unfolding rows
    rows_long zero l = omega arith
    rows_long (suc w) l =
        let m = message_at bs h ok w (omega arith) in
        let line = word_line_long w h.depth (answer_at bs h w) (message h.code (answer_at bs h w)) (omega (arith, six, whole bs h ok, short)) (depth_most bs h ok) (small_at bs h ok w (omega arith)) in
        omega (
          arith,
          ap (λ (k : ℕ). length (rows word_line bs h k)) (sym (add-one w)),
          ap length (sym (rows_more word_line bs h w)),
          length-append (rows word_line bs h w) (row_at word_line bs h w),
          rows_long w (omega arith),
          line,
          m.0,
          suc-mul w (message_length h.code + 81),
        )

    pub lines_room : h.words * (message_length h.code + 81) ≤ 899000
    lines_room =
        let n = word_length h.code in
        let five : 5 * 1 ≤ h.code.m * h.code.t = mul-le-mul {n₂ = h.code.m} {m₂ = h.code.t} (is_code bs h ok).m_least (is_code bs h ok).t_least in
        let most : h.words * (message_length h.code + 81) ≤ h.words * (n + 76) = mul-le-mul_left h.words (omega (arith, five, parity_fits bs h ok)) in
        omega (arith, most, six, mul-add h.words n 76, whole bs h ok, short)

    pub rows_room : length (rows word_line bs h h.words) ≤ 899000
    rows_room = omega (arith, rows_long h.words (omega arith), lines_room)
