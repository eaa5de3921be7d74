-- The keys by levels are the keys in the weakest order. Assumes nothing.
use Rattle.ranking.proofs.Orders.{first_weakest}
use Rattle.ranking.proofs.weakest.Goals as goal

pub returns : goal.returns
returns c =
    let size = c.min-size in
    let n = c.min-n in
    let k = c.first_keys in
    let e = first_weakest c.args.count size.result n.result c.args.symbols.now k.result.at k.result.more size.ensures n.ensures k.ensures.1 k.ensures.0 in
    record { at_value = e.0; more_value = e.1 }
