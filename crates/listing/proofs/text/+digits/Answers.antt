-- The digits of a tenth, where there are any, and one behind them. Assumes nothing.
use Rattle.std.proofs.Common.{ℕ, ◌+◌, ◌%◌, arith, ap, sym, ◌∙◌, [], ◌∷◌, length, ◌≡◌, ◌≤◌, ◌<◌, List, refl}
use native.Mathlib.Decide.{dec_lt}
use mathlib.Core.Logic.{◌≢◌}
use lib.ListN.{set}
use Rattle.listing.specs.Put.{Put}
use Rattle.listing.specs.Text.{decimal}
use Rattle.listing.proofs.Texts.{put_then, put_said, put_at, put_none, put_one, put_full}
use Rattle.listing.proofs.Decimals.{decimal_small, decimal_more}
use Rattle.listing.proofs.text.+digits.Goals.{then-x-ge10, else-x-ge10}
use Rattle.listing.proofs.text.+digits.Goals as goal

one : (x : ℕ) → x < 10 → (48 + x % 10) ∷ [] ≡ decimal x
one x h = let e : x % 10 ≡ x = omega (arith, h) in ap (λ (k : ℕ). (48 + k) ∷ []) e ∙ sym (decimal_small x h)

pub returns-then-next-bytes : goal.returns-then-next-bytes
returns-then-next-bytes t c =
    let x = c.args.x in
    let last = put_full c.if-x-ge10.bytes c.if-x-ge10.next (48 + x % 10) c.if-next-bytes.true in
    elim c.if-x-ge10.branch [
      | then-x-ge10 w ↦ put_said (put_then (put_at w.bytes-is w.next-is w.digits-next.ensures) last) (sym (decimal_more x w.if-x-ge10.true))
      | else-x-ge10 w ↦ put_said (put_then (put_at w.bytes-is w.next-is (put_none c.args.bytes.now c.args.at c.requires)) last) (one x w.if-x-ge10.false)
    ]

-- by the number that it is
digit : (bs : List ℕ) (at d c : ℕ) → at < length bs → d ≡ c → Put bs at (c ∷ []) (set bs at d) (at + 1)
digit bs at d c h e = put_at (ap (λ (k : ℕ). set bs at k) e) refl (put_one bs at c h)

lt_of : (m n : ℕ) → m ≤ n → m ≢ n → m < n
lt_of m n h e = elim (dec_lt m n) [
  | yes l ↦ l
  | no l ↦ let z : m ≡ n = omega arith in absurd (e z)
]

pub returns : goal.returns
returns t c =
    let x = c.args.x in
    let bs = c.if-x-ge10.bytes in
    let next = c.if-x-ge10.next in
    let less = λ (l : next ≤ length bs). lt_of next (length bs) l c.if-next-bytes.false in
    elim c.if-x-ge10.branch [
      | then-x-ge10 w ↦
          let room = less (omega (arith, ap length w.bytes-is, w.next-is, w.digits-next.ensures.inside)) in
          put_said (put_then (put_at w.bytes-is w.next-is w.digits-next.ensures) (digit bs next _ (48 + x % 10) room (omega arith)))
          (sym (decimal_more x w.if-x-ge10.true))
      | else-x-ge10 w ↦
          let room = less (omega (arith, ap length w.bytes-is, w.next-is, c.requires)) in
          put_said (put_then (put_at w.bytes-is w.next-is (put_none c.args.bytes.now c.args.at c.requires)) (digit bs next _ (48 + x % 10) room (omega arith)))
          (one x w.if-x-ge10.false)
    ]
