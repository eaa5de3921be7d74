-- The logarithm of 0 is the last exponent. Assumes nothing.
use Prim.Native.Nat.{◌+◌, ◌^◌, ◌≤◌}
use native.Mathlib.Omega.{arith}
use native.Mathlib.Decide.{ℕ_discrete}
use mathlib.Core.Path.{refl}
use Rattle.receiver.proofs.Places.{prime}
use Rattle.bch.proofs.tables.CodeTables.{log_in}
use Rattle.bch.proofs.tables.TableLoops.{filled_log_lt}
use Rattle.receiver.proofs.tables.Field.log_of.Goals as goal

pub returns : goal.returns
returns c =
    let x = c.args.x in
    let s = c.args.self.now in
    let m = s.code.m in
    let k = s.fielded.made in
    let f = s.fielded.field in
    let below = filled_log_lt m (prime s.code k) k.size_most s.code.t s.numbers.now f x in
    let most : log_in s.numbers.now x ≤ 2 ^ m + 7 =
    elim (ℕ_discrete x 0) [ yes e ↦ rw e (omega (arith, f.log_none)) | no n ↦ omega (arith, below n c.requires) ] in
    (refl, most, λ n. below n c.requires)
