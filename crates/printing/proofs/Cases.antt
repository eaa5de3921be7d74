-- Worked cases of the strip: the lines of document 01's example ("Small code, two codewords", with the margin of request 2), a line whose
-- every column is full, a mark shorter than its column, strips with no words and at the edges of pages, and the order of the checks.
-- Assumes nothing.
use mathlib.Core.Path.{◌≡◌, refl}
use Prim.Native.Nat.{ℕ}
use mathlib.Core.Logic.{inl, inr}
use mathlib.Core.Option.{none}
use mathlib.Core.List.{List, [], ◌∷◌, ◌++◌, map}
use lib.IntN.{pos, negsuc}
use Rattle.chase.specs.Soft.{sure, lost_answer}
use lib.ListN.{replicate}
use Rattle.take_format.specs.Refusal.{refused}
use Rattle.listing.specs.Text.{ascii, decimal, digits, signed, mark_name, line}
use Rattle.printing.specs.Layout.{padded, strip_line, answer_row, strip_text, strip_length, heading}
use Rattle.printing.specs.Calls.{strip_refusal, length_answer, strip_buffer}

-- ---- lines

example_sure : answer_row 0 (record { mark = sure; distance = 1; margin = pos 9; flips = 1; place = 0; tries = 1; word = [] })
    ≡ ascii "    0 sure    1     9  1\n"
unfolding answer_row strip_line padded line mark_name signed decimal digits ascii
example_sure = refl

example_lost : answer_row 1 (lost_answer 1) ≡ ascii "    1 lost    0     0  1\n"
unfolding lost_answer answer_row strip_line padded line mark_name signed decimal digits ascii
example_lost = refl

negative_margin : strip_line 39 (ascii "fair") 23 (negsuc 6) 8 ≡ ascii "   39 fair   23    -7  8\n"
unfolding strip_line padded line signed decimal digits ascii
negative_margin = refl

full_columns : strip_line 65535 (ascii "fair") 1023 (negsuc 1022) 64 ≡ ascii "65535 fair 1023 -1023 64\n"
unfolding strip_line padded line signed decimal digits ascii
full_columns = refl

short_mark : strip_line 7 (ascii "no") 0 (pos 0) 0 ≡ ascii "    7   no    0     0  0\n"
unfolding strip_line padded line signed decimal digits ascii
short_mark = refl

-- ---- strips

no_words : strip_text 0 (λ w. []) ≡ ascii "INDEX MARK DIST MARGN TR\n"
unfolding strip_text heading line ascii
no_words = refl

lengths : map strip_length (0 ∷ 1 ∷ 39 ∷ 40 ∷ 41 ∷ 80 ∷ 81 ∷ []) ≡ 25 ∷ 50 ∷ 1000 ∷ 1025 ∷ 1075 ∷ 2050 ∷ 2100 ∷ []
unfolding strip_length
lengths = refl

-- ---- checks

-- a take of one word of code E, with its last symbol
one_word : ℕ → List ℕ
one_word symbol = 1 ∷ 0 ∷ 5 ∷ 1 ∷ 6 ∷ 0 ∷ 0 ∷ 0 ∷ 12 ∷ 0 ∷ 0 ∷ 0 ∷ 0 ∷ 0 ∷ 0 ∷ 0 ∷ 0 ∷ symbol ∷ []

-- 7 for a byte too few or too many, also before 9, and 14 before 7
room_cases : map (λ (room : ℕ). strip_refusal (one_word 31) (replicate room 0)) (49 ∷ 50 ∷ 51 ∷ [])
    ++ map (λ (room : ℕ). strip_refusal (one_word 32) (replicate room 0)) (49 ∷ 50 ∷ 51 ∷ [])
    ++ (strip_refusal (one_word 31 ++ (0 ∷ [])) [] ∷ [])
    ≡ refused 7 0 ∷ none ∷ refused 7 0 ∷ refused 7 0 ∷ refused 9 17 ∷ refused 7 0 ∷ refused 14 0 ∷ []
unfolding one_word strip_refusal
room_cases = refl

-- the length of what can be opened, and a refusal that keeps the buffer
length_cases : map length_answer (one_word 31 ∷ one_word 32 ∷ []) ≡ inr 50 ∷ inl (record { number = 9; place = 17 }) ∷ []
unfolding one_word length_answer
length_cases = refl

kept_case : strip_buffer (one_word 32) (7 ∷ 8 ∷ []) ≡ 7 ∷ 8 ∷ []
unfolding one_word strip_buffer
kept_case = refl
