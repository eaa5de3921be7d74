-- Each weak position doubles the test words, and those that are new are tried. Assumes nothing.
use native.Mathlib.Omega.{arith}
use mathlib.Core.Path.{sym, ◌∙◌}
use Rattle.receiver.proofs.Turns.{grown_first, grown_room, grown_next, grown_tests}
use Rattle.receiver.proofs.search.Search.search_on.Goals.{then-due+else-is_sure, else-due}
use Rattle.receiver.proofs.search.Search.search_on.Goals as goal

pub loop-b-init : goal.loop-b-init
loop-b-init c =
    let t = c.requires.tried in
    (grown_first c.args.self.now _ c.requires.base, t.0, t.1, omega (arith, t.2), λ _. t.2)

pub double-requires-clause-size_in_bounds : goal.double-requires-clause-size_in_bounds
double-requires-clause-size_in_bounds c = grown_room c.args.self.now _ _ _ c.loop-b.invariant.0 c.loop-b-test.true

pub slice_bounds-tests-end : goal.slice_bounds-tests-end
slice_bounds-tests-end c =
    let s = c.args.self.now in
    let g = grown_next s _ _ _ c.loop-b.invariant.0 c.loop-b-test.true _ c.double.ensures in
    (grown_tests s _ _ _ g).0

pub slice_bounds-try_on-end : goal.slice_bounds-try_on-end
slice_bounds-try_on-end c =
    let s = c.args.self.now in
    let g = grown_next s _ _ _ c.loop-b.invariant.0 c.loop-b-test.true _ c.double.ensures in
    (grown_tests s _ _ _ g).1

pub try_on-o-requires : goal.try_on-o-requires
try_on-o-requires c =
    let s = c.args.self.now in
    let i = c.loop-b.invariant in
    let g = grown_next s _ _ _ i.0 c.loop-b-test.true _ c.double.ensures in
    let t = grown_tests s _ _ _ g in
    record { tests = t.2; tried = (i.1, i.2, omega (arith, i.3, i.0.size, t.1)) }

pub loop-b-preserved : goal.loop-b-preserved
loop-b-preserved c =
    let s = c.args.self.now in
    let i = c.loop-b.invariant in
    let g = grown_next s _ _ _ i.0 c.loop-b-test.true _ c.double.ensures in
    let t = grown_tests s _ _ _ g in
    elim c.if-due.branch [
      | then-due+else-is_sure w ↦
          let unsure = sym w.is_sure.ensures ∙ w.if-is_sure.false in
          let made = w.try_on-o.ensures.1 unsure ∙ sym t.1 ∙ g.size in
          rw w.o-is (g, w.try_on-o.ensures.0, unsure, omega (arith, made), λ _. made)
      | else-due w ↦
          rw w.o-is (g, i.1, i.2, omega (arith, i.3, i.0.size, g.size), λ q. absurd (omega (arith, c.due.ensures w.if-due.false, q)))
    ]
