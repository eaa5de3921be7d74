-- Worked cases of the text: the lines of document 01's example ("Small code, two codewords", with the margin of request 2), a fair word with a negative margin, a refusal,
-- and numbers of one, two and twenty digits. Assumes nothing.
use mathlib.Core.Path.{◌≡◌, refl}
use mathlib.Core.List.{[], ◌∷◌}
use lib.IntN.{pos, negsuc}
use Rattle.chase.specs.Soft.{fair, sure, lost_answer}
use Rattle.listing.specs.Text.{ascii, decimal, digits, signed, mark_name, message_text, bits_text, line, word_line, totals_line, refusal_line}

-- ---- the example

example_sure : word_line 0 (record { mark = sure; distance = 1; margin = pos 9; flips = 1; place = 0; tries = 1; word = [] }) (0 ∷ [])
    ≡ ascii "0 sure 1 9 1 0\n"
unfolding word_line line mark_name message_text bits_text signed decimal digits ascii
example_sure = refl

example_lost : word_line 1 (lost_answer 1) (0 ∷ []) ≡ ascii "1 lost 0 0 1 -\n"
unfolding lost_answer word_line line mark_name message_text bits_text signed decimal digits ascii
example_lost = refl

example_totals : totals_line (record { words = 2; sures = 1; fairs = 0; losts = 1; tries = 2 }) ≡ ascii "2 1 0 1 2\n"
unfolding totals_line line decimal digits ascii
example_totals = refl

-- ---- other lines

negative_margin : word_line 10 (record { mark = fair; distance = 23; margin = negsuc 6; flips = 3; place = 5; tries = 64; word = [] })
    (1 ∷ 0 ∷ 1 ∷ 1 ∷ [])
    ≡ ascii "10 fair 23 -7 64 1011\n"
unfolding word_line line mark_name message_text bits_text signed decimal digits ascii
negative_margin = refl

refusal : refusal_line (record { number = 9; place = 255 }) ≡ ascii "refused 9 255\n"
unfolding refusal_line line decimal digits ascii
refusal = refl

-- ---- numbers

zero_digits : decimal 0 ≡ ascii "0"
unfolding decimal digits ascii
zero_digits = refl

ten_digits : decimal 10 ≡ ascii "10"
unfolding decimal digits ascii
ten_digits = refl

most_digits : decimal 18446744073709551615 ≡ ascii "18446744073709551615"
unfolding decimal digits ascii
most_digits = refl
