-- What is left of the sum, with what is added already, is the whole sum. Assumes nothing.
use Prim.Native.Nat.{◌+◌, ◌-◌, ◌*◌, ◌≤◌}
use mathlib.Core.Path.{◌≡◌}
use mathlib.Core.List.{◌++◌}
use lib.ListN.{length, take, drop}
use Rattle.chase.proofs.ranking.Allowances.{unflipped_sum}
use Rattle.receiver.specs.Located.{flips_of}
use Rattle.receiver.proofs.least_keys.Ranked.allowance.Given as goal

abbrev pub invariant-loop-key : goal.invariant-loop-key
invariant-loop-key l =
    let all = take l.self.d (l.self.keys.at ++ l.self.keys.more) in
    (l.sum ≤ 64 * length l.yielded) × (l.sum + unflipped_sum (flips_of l.f) l.r (l.self.d - l.full) (drop (length l.yielded) all)
    ≡ unflipped_sum (flips_of l.f) l.j (l.self.d - l.q) all)
