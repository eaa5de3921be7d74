-- What is left to try, with the best so far, gives what all tries give. Assumes nothing.
use native.Mathlib.Omega.{arith}
use mathlib.Core.Path.{sym, ◌∙◌}
use Rattle.receiver.proofs.Turns.{are_syndromes, turn_missed, turn_weight, turn_distinct, turn_judged}
use Rattle.receiver.proofs.search.Search.try_on.Goals as goal

pub next-spot-requires : goal.next-spot-requires
next-spot-requires c = (are_syndromes c.args.self.now _ c.requires.tests, c.loop-o.invariant.2)

pub returns-in_default : goal.returns-in_default
returns-in_default c =
    let i = c.loop-o.invariant in
    let t = turn_missed c.args.self.now _ c.requires.tests _ i.1 i.0 _ (rw c.in_default.is at c.next-spot.ensures) in
    (t.0, λ _. t.1)

pub weigh-weight-requires : goal.weigh-weight-requires
weigh-weight-requires c =
    let s = c.args.self.now in
    let i = c.loop-o.invariant in
    let f = c.in-Some.flips in
    let next = rw c.in-Some.is at c.next-spot.ensures in
    record {
      distinct = turn_distinct s _ c.requires.tests _ i.1 i.0 _ f next;
      start_value = c.weight_in.ensures ∙ turn_weight s _ c.requires.tests _ i.1 i.0 _ f next;
    }

pub returns-then-is_sure : goal.returns-then-is_sure
returns-then-is_sure c =
    let i = c.loop-o.invariant in
    let next = rw c.in-Some.is at c.next-spot.ensures in
    let w = c.weigh-weight in
    let t = turn_judged c.args.self.now _ c.requires.tests _ i.1 i.0 _ c.in-Some.flips next w.result w.ensures _ c.judged-o.ensures in
    (t.0, λ z. cc)

pub loop-o-smaller : goal.loop-o-smaller
loop-o-smaller c =
    let i = c.loop-o.invariant in
    let next = rw c.in-Some.is at c.next-spot.ensures in
    let w = c.weigh-weight in
    let t = turn_judged c.args.self.now _ c.requires.tests _ i.1 i.0 _ c.in-Some.flips next w.result w.ensures _ c.judged-o.ensures in
    omega (arith, t.1, t.2)

pub loop-o-preserved : goal.loop-o-preserved
loop-o-preserved c =
    let i = c.loop-o.invariant in
    let next = rw c.in-Some.is at c.next-spot.ensures in
    let w = c.weigh-weight in
    let t = turn_judged c.args.self.now _ c.requires.tests _ i.1 i.0 _ c.in-Some.flips next w.result w.ensures _ c.judged-o.ensures in
    (t.0, sym c.is_sure.ensures ∙ c.if-is_sure.false, t.2)
