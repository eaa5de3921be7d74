-- Laws of a line's fields: what the code writes of a field, and how long a line is. Assumes nothing.
-- (`Cases` is named so that its cases are checked before these laws, which follow the definitions' text.)
use Prim.Native.Nat.{ℕ, ◌-◌, ◌≤◌}
use native.Mathlib.Omega.{arith}
use mathlib.Core.Path.{◌≡◌, refl}
use mathlib.Core.List.{List, [], ◌∷◌, ◌++◌}
use lib.IntN.{ℤ}
use lib.ListN.{length, replicate, length-append, length-replicate}
use Rattle.chase.specs.Soft.{Answer}
use Rattle.listing.specs.Text.{decimal, signed, mark_name, line}
use Rattle.listing.specs.declared.take.Shown.{Shown}
use Rattle.listing.specs.Shown.{mark_of, Shows}
use Rattle.printing.specs.Layout.{padded, strip_line, answer_row, Narrow}

-- ---- what the code writes

-- the fields one behind the other, each with the character behind it, are the line
pub row_text : (i : ℕ) (s : Shown) (a : Answer) → Shows s a
    → padded 5 (decimal i)
    ++ (32 ∷ (padded 4 (mark_name (mark_of s.mark)) ++ (32 ∷ (padded 4 (decimal s.distance) ++ (32 ∷ (padded 5 (signed s.margin)
    ++ (32 ∷ (padded 2 (decimal s.tries) ++ (10 ∷ [])))))))))
    ≡ answer_row i a
unfolding answer_row strip_line line
row_text i s a h = rw (h.mark, h.distance, h.margin, h.tries) refl

-- ---- how long a line is

-- what is padded has its width
pub padded_long : (w : ℕ) (text : List ℕ) → length text ≤ w → length (padded w text) ≡ w
unfolding padded
padded_long w text h = omega (arith, h, length-append (replicate {A = ℕ} (w - length text) 32) text, length-replicate {A = ℕ} (w - length text) 32)

-- a line has 24 characters and a line feed
pub row_long : (i : ℕ) (mark : List ℕ) (L : ℕ) (margin : ℤ) (tries : ℕ) → Narrow i mark L margin tries → length (strip_line i mark L margin tries) ≡ 25
unfolding strip_line line
row_long i mark L margin tries n =
    let a = padded 5 (decimal i) in
    let b = padded 4 mark in
    let c = padded 4 (decimal L) in
    let d = padded 5 (signed margin) in
    let e = padded 2 (decimal tries) in
    let le = length-append e (10 ∷ []) in
    let ld = length-append d (32 ∷ (e ++ (10 ∷ []))) in
    let lc = length-append c (32 ∷ (d ++ (32 ∷ (e ++ (10 ∷ []))))) in
    let lb = length-append b (32 ∷ (c ++ (32 ∷ (d ++ (32 ∷ (e ++ (10 ∷ []))))))) in
    let la = length-append a (32 ∷ (b ++ (32 ∷ (c ++ (32 ∷ (d ++ (32 ∷ (e ++ (10 ∷ []))))))))) in
    omega (
      arith,
      la,
      lb,
      lc,
      ld,
      le,
      padded_long 5 (decimal i) n.index,
      padded_long 4 mark (omega (arith, n.mark)),
      padded_long 4 (decimal L) n.distance,
      padded_long 5 (signed margin) n.margin,
      padded_long 2 (decimal tries) n.tries,
    )
