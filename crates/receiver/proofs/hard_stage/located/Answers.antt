-- At most one error needs no roots. Assumes nothing.
use native.Mathlib.Omega.{arith}
use mathlib.Core.Path.{sym, ◌∙◌}
use Rattle.receiver.proofs.Repairing.{few_repaired, all_repaired}
use Rattle.receiver.proofs.hard_stage.located.Goals as goal

pub returns-then-rest_of-eq0 : goal.returns-then-rest_of-eq0
returns-then-rest_of-eq0 c =
    let flat = sym c.rest_of.ensures ∙ c.if-rest_of-eq0.true in
    λ xs long bits is. few_repaired _ xs _ _ long bits is _ c.requires.0 flat c.few.ensures

pub returns : goal.returns
returns c = λ xs long bits is. all_repaired _ xs _ _ long bits is _ _ _ c.fill_roots.ensures c.from.ensures (omega arith) c.next.ensures
