-- The larger number of keys serves for both. Assumes nothing.
use native.Mathlib.Omega.{arith}
use Rattle.ranking.proofs.Callers.{keys_deep}
use Rattle.receiver.proofs.least_keys.Ranked.new.Goals as goal

pub invariant_of-result-clause-deep : goal.invariant_of-result-clause-deep
invariant_of-result-clause-deep c =
    let a = c.args in
    let count = c.max in
    let w = c.weakest in
    let p = c.requires in
    keys_deep count.result a.symbols.now w.result.at w.result.more w.ensures.at_value w.ensures.more_value a.d a.p
    (omega (arith, count.ensures)) p.0 p.1 (omega (arith, count.ensures)) p.4 p.5 (omega (arith, count.ensures)) p.3
