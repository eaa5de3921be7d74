-- Where there is no mark, there is no bit. Assumes nothing.
use mathlib.Core.Path.{sym, ◌∙◌}
use Rattle.ranking.specs.Levels.{marks}
use Rattle.ranking.proofs.Marking.{bits_unmarked}
use Rattle.ranking.proofs.which_if_any.Goals as goal

pub returns-else-any : goal.returns-else-any
returns-else-any c =
    let a = c.args in
    sym (bits_unmarked (marks a.z a.s.now) (sym c.any.ensures ∙ c.if-any.false))
