-- The bits are those of the marks, from the last down. Assumes nothing.
use Rattle.std.proofs.Common.{rules, ◌≡◌, ℕ, ◌*◌, ◌%◌, ◌^◌, bit_or, nat_eq, reverse}
use Rattle.std.specs.List.{fold}
use mathlib.Core.Bool.{cond}
use Rattle.ranking.proofs.Marking.{sixteen_taken}
use Rattle.ranking.proofs.which.Goals as goal

pub returns : goal.returns
returns c =
    let a = c.args in
    let e : c.fold.result ≡ fold (λ (b s : ℕ). bit_or (b * 2 % 2 ^ 32) (cond (nat_eq (s % 16) a.z) 1 0)) 0 (reverse a.s.now) = search rules in
    sixteen_taken a.z c.fold.result a.s.now c.requires e
