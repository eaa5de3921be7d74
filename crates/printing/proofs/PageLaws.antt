-- Laws of pages: one word more, and how long they are. Assumes nothing.
-- (`Cases` is named so that its cases are checked before these laws, which follow the definitions' text.)
use Prim.Native.Nat.{ℕ, zero, suc, ◌+◌, ◌*◌, ◌/◌, ◌%◌, ◌<◌}
use native.Mathlib.Omega.{arith}
use native.Mathlib.Decide.{dec_lt}
use mathlib.Core.Path.{◌≡◌, refl, ap, ap₂, sym, ◌∙◌}
use mathlib.Core.Logic.{◌≢◌}
use mathlib.Core.List.{List, [], ◌++◌}
use borrow.Author.Tests.{eq-eqb, ne_eqb}
use lib.ListN.{length, length-append}
use Rattle.take_format.specs.Batch.{each, joined}
use Rattle.take_format.proofs.takes.Batches.{each_more, joined_behind}
use Rattle.listing.specs.Text.{ascii, line}
use Rattle.printing.specs.Layout.{heading, heading_at, pages, strip_text, strip_length}

-- the pages of w words have so many characters
abbrev pub pages_length : ℕ → ℕ
pages_length w = 25 * (w + (w + 39) / 40)

pub heading_long : length heading ≡ 25
unfolding heading ascii line
heading_long = refl

-- one word more
pub pages_more : (w : ℕ) (row : ℕ → List ℕ) → pages (w + 1) row ≡ pages w row ++ (heading_at w ++ row w)
unfolding pages
pages_more w row = ap joined (each_more w (λ k. heading_at k ++ row k)) ∙ joined_behind (each w (λ k. heading_at k ++ row k)) (heading_at w ++ row w)

-- a heading, or none
pub heading_at_lem : (w : ℕ) → w % 40 ≡ 0 → heading_at w ≡ heading
unfolding heading_at
heading_at_lem w e = rw (eq-eqb (w % 40) 0 e) refl

pub heading_none : (w : ℕ) → w % 40 ≢ 0 → heading_at w ≡ []
unfolding heading_at
heading_none w e = rw (ne_eqb (w % 40) 0 e) refl

-- one word more
pub entry_long : (w : ℕ) → pages_length w + (length (heading_at w) + 25) ≡ pages_length (w + 1)
entry_long w = elim (dec_lt 0 (w % 40)) [
  | yes h ↦ omega (arith, h, ap length (heading_none w (λ e. omega (arith, h, e))))
  | no h ↦ let z : w % 40 ≡ 0 = omega arith in omega (arith, z, ap length (heading_at_lem w z), heading_long)
]

pub pages_long : (w : ℕ) (row : ℕ → List ℕ) → ((k : ℕ) → k < w → length (row k) ≡ 25) → length (pages w row) ≡ pages_length w
unfolding pages each joined
pages_long zero row h = refl
pages_long (suc w) row h =
    let ih : length (pages w row) ≡ pages_length w = pages_long w row (λ k l. h k (omega arith)) in
    let one : suc w ≡ w + 1 = omega arith in
    let here : length (row w) ≡ 25 = h w (omega arith) in
    ap (λ (k : ℕ). length (pages k row)) one
    ∙ ap length (pages_more w row)
    ∙ length-append (pages w row) (heading_at w ++ row w)
    ∙ ap₂ (λ (a b : ℕ). a + b) ih (length-append (heading_at w) (row w) ∙ ap (λ (k : ℕ). length (heading_at w) + k) here)
    ∙ entry_long w ∙ ap pages_length (sym one)

-- the strip
pub strip_none : (row : ℕ → List ℕ) → strip_text 0 row ≡ heading
unfolding strip_text
strip_none row = refl

pub strip_some : (W : ℕ) (row : ℕ → List ℕ) → 0 < W → strip_text W row ≡ pages W row
unfolding strip_text
strip_some W row h = rw (ne_eqb W 0 (λ e. omega (arith, h, e))) refl

pub length_none : strip_length 0 ≡ 25
unfolding strip_length
length_none = refl

pub length_some : (W : ℕ) → 0 < W → strip_length W ≡ pages_length W
unfolding strip_length
length_some W h = omega (arith, h)

-- its length
pub strip_long : (W : ℕ) (row : ℕ → List ℕ) → ((k : ℕ) → k < W → length (row k) ≡ 25) → length (strip_text W row) ≡ strip_length W
strip_long zero row h = ap length (strip_none row) ∙ heading_long ∙ sym length_none
strip_long (suc W) row h =
    ap length (strip_some (suc W) row (omega arith)) ∙ pages_long (suc W) row h ∙ sym (length_some (suc W) (omega arith))

pub not_zero : (x : ℕ) → x ≢ 0 → 0 < x
not_zero x h = elim (dec_lt 0 x) [
  | yes l ↦ l
  | no l ↦ let z : x ≡ 0 = omega arith in absurd (h z)
]
