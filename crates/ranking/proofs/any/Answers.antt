-- What is found after all sixteen tells whether there is one. Assumes nothing.
use Rattle.std.proofs.Common.{arith, ◌≡◌, ◌∙◌, ap, ℕ, ◌%◌, Bool, false, nat_eq}
use Rattle.std.proofs.lemmas.Grind.{common_steps}
use Rattle.std.specs.List.{fold}
use mathlib.Core.Bool.{◌||◌}
use Rattle.ranking.proofs.Marking.{any_found}
use Rattle.ranking.proofs.any.Goals as goal

pub returns : goal.returns
returns c =
    let a = c.args in
    let add = λ (f : Bool) (s : ℕ). f || nat_eq (s % 16) a.z in
    let e : c.fold.result ≡ fold add false c.iter.result.rest.now = grind (arith, common_steps) in
    e ∙ ap (fold add false) c.iter.ensures.rest ∙ any_found false a.z a.s.now
