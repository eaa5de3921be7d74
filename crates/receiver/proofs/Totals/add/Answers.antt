-- Each total grows by what the word adds. Assumes nothing.
use Prim.Native.Nat.{ℕ, ◌+◌, ◌-◌, ◌^◌, min}
use denote.Enum.Bare.{sameb}
use lib.Dec.{eqb}
use mathlib.Core.Bool.{Bool, true, false, cond}
use mathlib.Core.Path.{◌≡◌, refl, ap, ◌∙◌}
use mir.Val.{bool_byte}
use Rattle.take_format.specs.Batch.{counted_of, capped}
use Rattle.receiver.specs.Answer.{byte_of}
use Rattle.receiver.specs.contracts.Mark.{the_type}
use Rattle.receiver.specs.declared.Mark.{Mark}
use Rattle.receiver.specs.declared.Mark.TheVariants.{Lost, Fair, Sure}
use Rattle.receiver.proofs.Marks.{same_mark}
use Rattle.receiver.proofs.Totals.add.Goals as goal

one_if : (b : Bool) → bool_byte b ≡ cond b 1 0
one_if true = refl
one_if false = refl

-- a mark's total grows by 1 where the word has the mark
grows : (total new bit : ℕ) (is : Bool) (m a : Mark) → is ≡ sameb the_type m a → bit ≡ bool_byte is
    → new ≡ min (total + bit) (2 ^ 64 - 1) → new ≡ min (total + cond (eqb (byte_of a) (byte_of m)) 1 0) (2 ^ 64 - 1)
grows total new bit is m a e f g =
    g ∙ ap (λ (n : ℕ). min (total + n) (2 ^ 64 - 1)) (f ∙ one_if is ∙ ap (λ (b : Bool). cond b 1 0) (e ∙ same_mark m a))

pub returns : goal.returns
unfolding capped counted_of
returns c =
    let k = c.args.self in
    let m = c.args.mark in
    let sures = grows k.sure _ _ _ m Sure c.eq.ensures c.from.ensures c.saturating_add-2.ensures in
    let fairs = grows k.fair _ _ _ m Fair c.eq-2.ensures c.from-2.ensures c.saturating_add-3.ensures in
    let losts = grows k.lost _ _ _ m Lost c.eq-3.ensures c.from-3.ensures c.saturating_add-4.ensures in
    λ i. record { words = c.saturating_add.ensures i; sures = sures i; fairs = fairs i; losts = losts i; tries = c.saturating_add-5.ensures i }
