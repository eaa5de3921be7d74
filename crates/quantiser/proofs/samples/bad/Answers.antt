-- By the kind. Assumes nothing.
use mathlib.Core.Path.{ap, ◌∙◌}
use mathlib.Core.Bool.{Bool, ◌&&◌, ◌||◌}
use lib.Dec.{ltb, eqb}
use Rattle.quantiser.proofs.Bad.{bad_is}
use Rattle.quantiser.proofs.samples.bad.Goals as goal

pub returns : goal.returns
returns c = ap (λ (b : Bool). ltb 1 c.args.kind || (eqb c.args.kind 1 && b)) c.is_nan.ensures.value ∙ bad_is c.args.kind c.args.level
