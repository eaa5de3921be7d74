-- The text that the program `takelist` prints (document 01, "Small code, two codewords"): a line for each word, one for the totals, and one
-- for a refusal. A character is its ASCII code. Assumes nothing.
use Rattle.std.specs.Prelude.{ℕ, zero, suc, ◌+◌, ◌/◌, ◌%◌, true, false, List, [], ◌∷◌, ◌++◌, map, ltb, ℤ, pos, negsuc}
use Prim.Native.Char.{code}
use Prim.Native.String.{String, [] as []ˢ, ◌∷◌ as ◌∷ˢ◌}
use Rattle.chase.specs.Soft.{Mark, lost, fair, sure, Answer}
use Rattle.take_format.specs.Refusal.{Refusal}
use Rattle.take_format.specs.Batch.{Totals}

-- the codes of a quoted text
unfoldable pub ascii : String → List ℕ
ascii []ˢ = []
ascii (c ∷ˢ cs) = code c ∷ ascii cs

-- ---- fields

-- the digits of x in base ten, of which `more` may stand before the last
unfoldable pub digits : ℕ → ℕ → List ℕ
digits zero x = (48 + x) ∷ []
digits (suc more) x = elim (ltb x 10) [ true ↦ (48 + x) ∷ [] | false ↦ digits more (x / 10) ++ ((48 + x % 10) ∷ []) ]

-- a number in base ten (x digits are always enough)
unfoldable pub decimal : ℕ → List ℕ
unfolding digits
decimal x = digits x x

-- a hyphen before a negative one
unfoldable pub signed : ℤ → List ℕ
unfolding decimal
signed (pos x) = decimal x
signed (negsuc x) = 45 ∷ decimal (suc x)

-- `sure`, `fair` or `lost`
unfoldable pub mark_name : Mark → List ℕ
unfolding ascii
mark_name sure = ascii "sure"
mark_name fair = ascii "fair"
mark_name lost = ascii "lost"

-- message bits without spaces
unfoldable pub bits_text : List ℕ → List ℕ
bits_text bits = map (λ (b : ℕ). 48 + b) bits

-- the message of a word; a single hyphen for a lost one
unfoldable pub message_text : Mark → List ℕ → List ℕ
unfolding ascii bits_text
message_text sure bits = bits_text bits
message_text fair bits = bits_text bits
message_text lost bits = ascii "-"

-- ---- lines

-- one space between fields, and a line feed at the end
unfoldable pub line : List (List ℕ) → List ℕ
line [] = 10 ∷ []
line (f ∷ []) = f ++ (10 ∷ [])
line (f ∷ g ∷ gs) = f ++ (32 ∷ line (g ∷ gs))

-- of a word: index, mark, L, margin, tries and the message bits
unfoldable pub word_line : ℕ → Answer → List ℕ → List ℕ
unfolding line decimal mark_name signed message_text
word_line i a bits =
    line
    (decimal i
    ∷ mark_name a.mark
    ∷ decimal a.distance
    ∷ signed a.margin
    ∷ decimal a.tries
    ∷ message_text a.mark bits
    ∷ [])

-- of the five totals: words, sure, fair, lost, tries
unfoldable pub totals_line : Totals → List ℕ
unfolding line decimal
totals_line k =
    line (decimal k.words ∷ decimal k.sures ∷ decimal k.fairs ∷ decimal k.losts ∷ decimal k.tries ∷ [])

-- of a refusal: `refused`, number, place
unfoldable pub refusal_line : Refusal → List ℕ
unfolding ascii line decimal
refusal_line r = line (ascii "refused" ∷ decimal r.number ∷ decimal r.place ∷ [])

-- of input that is longer than takelist reads
unfoldable pub too_long : List ℕ
unfolding ascii line
too_long = line (ascii "too long" ∷ [])
