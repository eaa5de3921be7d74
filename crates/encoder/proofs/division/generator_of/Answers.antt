-- The table holds the generators. Assumes nothing.
use Prim.Native.Nat.{ℕ, ◌-◌, ◌<◌}
use native.Mathlib.Omega.{arith}
use mathlib.Core.Path.{ap}
use mathlib.Core.List.{List, []}
use lib.ListN.{get_or}
use lib.Seq.{get_or-take}
use Rattle.bch.specs.Generator.{generators, generator}
use Rattle.encoder.proofs.division.generator_of.Goals as goal

pub returns : goal.returns
unfolding generator
returns c =
    let a = c.args in
    let row : a.m - 5 < 4 = omega arith in
    ap (λ (gs : List ℕ). get_or gs (a.t - 1) 0) (get_or-take 4 generators (a.m - 5) [] row)
