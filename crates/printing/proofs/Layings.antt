-- Laws of laying a take out: its rows are its pages, and how long they are. Assumes nothing.
use Prim.Native.Nat.{ℕ, ◌<◌}
use native.Mathlib.Omega.{arith}
use mathlib.Core.Path.{◌≡◌, refl, ap, sym, ◌∙◌}
use mathlib.Core.List.{List, ◌++◌, append-nil}
use lib.ListN.{length, drop}
use Rattle.chase.specs.Soft.{Answer}
use Rattle.take_format.specs.Take.{Header}
use Rattle.take_format.proofs.takes.Reading.{Reading, answer_at, small_at, depth_most}
use Rattle.listing.specs.Text.{mark_name}
use Rattle.listing.specs.Rows.{rows}
use Rattle.listing.proofs.Words.{rows_none}
use Rattle.printing.specs.Layout.{Narrow, answer_row, heading_at, heading, pages, strip_text, strip_length}
use Rattle.printing.specs.Calls.{row_at, take_strip}
use Rattle.printing.proofs.Fields.{row_long}
use Rattle.printing.proofs.Widths.{answer_narrow}
use Rattle.printing.proofs.PageLaws.{strip_some, strip_none, strip_long}

-- a take that is opened, of a word count of two bytes
pub record Printable (bs : List ℕ) (h : Header) : Type 0 where
  pub reading : Reading bs h
  pub few : h.words < 65536

-- the line of word w
abbrev pub line_at : List ℕ → Header → ℕ → List ℕ
line_at bs h = row_at h.code h.depth (drop h.offset bs)

-- what is written for a word, with the heading of its page before the first
abbrev pub row : ℕ → Answer → List ℕ → List ℕ
row i a bits = heading_at i ++ answer_row i a

rows_pages : (bs : List ℕ) (h : Header) (w : ℕ) → rows row bs h w ≡ pages w (line_at bs h)
unfolding rows pages row_at
rows_pages bs h w = refl

module _ (bs : List ℕ) (h : Header) (ok : Printable bs h) where
  module _ (w : ℕ) (l : w < h.words) where
    -- a word's answer has room in its line, ..
    pub narrow_at : Narrow w (mark_name (answer_at bs h w).mark) (answer_at bs h w).distance (answer_at bs h w).margin (answer_at bs h w).tries
    narrow_at =
        answer_narrow w h.depth (omega (arith, ok.few)) (depth_most bs h ok.reading) (answer_at bs h w) (small_at bs h ok.reading w l)

    -- .. which has 24 characters and a line feed
    line_long : length (line_at bs h w) ≡ 25
    unfolding row_at answer_row
    line_long = row_long w _ _ _ _ narrow_at

  take_strip_lem : strip_text h.words (line_at bs h) ≡ take_strip bs
  unfolding take_strip
  take_strip_lem = ap (λ (x : Header). strip_text x.words (line_at bs x)) ok.reading.read

  -- the strip has the length that is told
  pub take_long : length (take_strip bs) ≡ strip_length h.words
  take_long = ap length (sym take_strip_lem) ∙ strip_long h.words (line_at bs h) line_long

  -- it is the rows of all words, ..
  pub strip_words : 0 < h.words → rows row bs h h.words ≡ take_strip bs
  strip_words some = rows_pages bs h h.words ∙ sym (strip_some h.words (line_at bs h) some) ∙ take_strip_lem

  -- .. and with none the heading alone
  pub strip_empty : h.words ≡ 0 → heading ++ rows row bs h h.words ≡ take_strip bs
  strip_empty z =
      ap (λ (k : ℕ). heading ++ rows row bs h k) z ∙ ap (λ (t : List ℕ). heading ++ t) (sym (rows_none row bs h)) ∙ append-nil heading
      ∙ sym (ap (λ (k : ℕ). strip_text k (line_at bs h)) z ∙ strip_none (line_at bs h)) ∙ take_strip_lem
