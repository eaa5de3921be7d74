-- The strip of a take (document 02, §3): pages of lines of 24 characters, each with a line feed behind it. A character is its ASCII code.
-- Assumes nothing.
use Rattle.std.specs.Prelude.{ℕ, ◌+◌, ◌-◌, ◌*◌, ◌/◌, ◌%◌, ◌≤◌, ◌≡◌, max, cond, List, [], ◌∷◌, ◌++◌, eqb, ℤ, length, replicate}
use Rattle.chase.specs.Soft.{Answer}
use Rattle.take_format.specs.Batch.{each, joined}
use Rattle.listing.specs.Text.{ascii, decimal, signed, mark_name, line}

-- ---- lines

-- a text filled from the left with spaces to a width
unfoldable pub padded : ℕ → List ℕ → List ℕ
padded w text = replicate (w - length text) 32 ++ text

-- of a word: index in 5, mark in 4, distance in 4, margin with its sign in 5, tries in 2, one space between them
unfoldable pub strip_line : ℕ → List ℕ → ℕ → ℤ → ℕ → List ℕ
unfolding line padded decimal signed
strip_line i mark distance margin tries =
    line
    (padded 5 (decimal i)
    ∷ padded 4 mark
    ∷ padded 4 (decimal distance)
    ∷ padded 5 (signed margin)
    ∷ padded 2 (decimal tries)
    ∷ [])

-- of word i by its answer, with the mark that `takelist` prints
unfoldable pub answer_row : ℕ → Answer → List ℕ
unfolding strip_line mark_name
answer_row i a = strip_line i (mark_name a.mark) a.distance a.margin a.tries

-- what has room in a line
pub record Narrow (i : ℕ) (m : List ℕ) (l : ℕ) (d : ℤ) (t : ℕ) : Type 0 where
  pub index : length (decimal i) ≤ 5
  pub mark : length m ≡ 4
  pub distance : length (decimal l) ≤ 4
  pub margin : length (signed d) ≤ 5
  pub tries : length (decimal t) ≤ 2

-- the heading of a page
unfoldable pub heading : List ℕ
unfolding ascii line
heading = line (ascii "INDEX MARK DIST MARGN TR" ∷ [])

-- ---- pages

-- a page starts before word 0 and after every 40 words
unfoldable pub heading_at : ℕ → List ℕ
unfolding heading
heading_at w = cond (eqb (w % 40) 0) heading []

-- the pages of W words, whose lines are row 0, row 1, ..
unfoldable pub pages : ℕ → (ℕ → List ℕ) → List ℕ
unfolding joined each heading_at
pages W row = joined (each W (λ w. heading_at w ++ row w))

-- with no words the heading alone
unfoldable pub strip_text : ℕ → (ℕ → List ℕ) → List ℕ
unfolding heading pages
strip_text W row = cond (eqb W 0) heading (pages W row)

-- its length
unfoldable pub strip_length : ℕ → ℕ
strip_length W = 25 * (W + max 1 ((W + 39) / 40))
