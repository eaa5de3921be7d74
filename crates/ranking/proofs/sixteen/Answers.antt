-- The bits of the symbols that are read, but for those before i. Assumes nothing.
use Prim.Native.Nat.{ℕ, ◌-◌, ◌/◌, ◌^◌}
use native.Mathlib.Omega.{arith}
use mathlib.Core.Path.{◌≡◌, ap, ◌∙◌}
use lib.ListN.{take, drop}
use Rattle.ranking.specs.Levels.{marks, bits_of}
use Rattle.ranking.proofs.Marking.{sixteen_few, sixteen_last, sixteen_small}
use Rattle.ranking.proofs.sixteen.Goals as goal

pub returns-then-n-lt16 : goal.returns-then-n-lt16
returns-then-n-lt16 c =
    let a = c.args in
    let e : c.which.result / 2 ^ a.i ≡ bits_of (take 16 (drop a.i (marks a.z a.s.now)))
    = ap (λ (x : ℕ). x / 2 ^ a.i) c.which.ensures.0 ∙ sixteen_few a.z a.i a.s.now c.if-n-lt16.true in
    (e, omega (arith, e, sixteen_small a.z a.i a.s.now))

pub returns : goal.returns
returns c =
    let a = c.args in
    let at = c.min-at in
    let e : c.which_if_any.result / 2 ^ (a.i - at.result) ≡ bits_of (take 16 (drop a.i (marks a.z a.s.now)))
    = ap (λ (x : ℕ). x / 2 ^ (a.i - at.result)) c.which_if_any.ensures
    ∙ sixteen_last a.z a.i at.result a.s.now (omega (arith, c.if-n-lt16.false)) at.ensures in
    (e, omega (arith, e, sixteen_small a.z a.i a.s.now))
