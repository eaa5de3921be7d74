-- The least of those above z. Assumes nothing.
use Rattle.std.proofs.Common.{rules, ◌≡◌, ℕ, ◌%◌, map, min, nat_lt}
use Rattle.std.specs.List.{fold}
use mathlib.Core.Bool.{cond}
use Rattle.ranking.proofs.Steps.{next_least}
use Rattle.ranking.proofs.least_above.Goals as goal

pub returns : goal.returns
returns c =
    let a = c.args in
    let e : c.fold.result ≡ fold min 16 (map (λ (s : ℕ). cond (nat_lt a.z (s % 16)) (s % 16) 16) a.s.now) = search rules in
    rw e (next_least a.z a.s.now c.requires)
