-- Where the test word flips, what is located is turned round. Assumes nothing.
use Prim.Native.Nat.{◌%◌}
use mathlib.Core.Path.{◌≡◌, refl, ap, ◌∙◌}
use mathlib.Core.Bool.{Bool, true, false, not, beq}
use lib.Dec.{eqb}
use Rattle.chase.proofs.ranking.Allowances.{turned}
use Rattle.receiver.proofs.weighing.turns.Goals as goal

turned-is : (a b : Bool) → not (beq a b) ≡ turned a b
unfolding turned
turned-is true true = refl
turned-is true false = refl
turned-is false true = refl
turned-is false false = refl

pub returns : goal.returns
returns c =
    let b : Bool = eqb (c.args.r % 2) 1 in
    ap (λ (a : Bool). not (beq a b)) c.is_among.ensures ∙ turned-is _ b
