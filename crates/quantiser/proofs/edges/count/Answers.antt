-- Each edge adds 1 where it is at most the level. Assumes nothing.
use native.Mathlib.Omega.{arith}
use borrow.Author.Rules.{rules}
use borrow.Author.Tests.{tests}
use mathlib.Core.Path.{◌∙◌}
use Rattle.std.proofs.lemmas.Iterator.{YieldsList-from_slice, YieldsList-from_map}
use Rattle.std.proofs.lemmas.Iterator.Consumers.{YieldsList-at, sum_by_from_yields_List, fits_by_from_yields_list}
use Rattle.quantiser.proofs.Counting.{reached, reached_most, reached_all}
use Rattle.quantiser.proofs.edges.count.Goals as goal

pub sum-requires-clause-fits : goal.sum-requires-clause-fits
sum-requires-clause-fits c =
    let es = c.args.edges.now in
    fits_by_from_yields_list (reached c.args.level) es c.map.result 256
    (YieldsList-from_map _ (reached c.args.level) (YieldsList-at c.map.ensures.source (YieldsList-from_slice es (cc))) c.map.ensures.closure
    (λ x r q k. search (rules, tests)))
    (omega (arith, reached_most c.args.level es))

pub returns : goal.returns
returns c =
    let es = c.args.edges.now in
    let value = sum_by_from_yields_List (reached c.args.level) es c.map.result c.sum.result c.sum.ensures.ran
    (YieldsList-from_map _ (reached c.args.level) (YieldsList-at c.map.ensures.source (YieldsList-from_slice es (cc))) c.map.ensures.closure
    (λ x r q k. search (rules, tests))) in
    record { value = value ∙ reached_all c.args.level es; upper_bound = omega (arith, value, reached_most c.args.level es) }
