-- The levels passed have no more symbols. Assumes nothing.
use Prim.Native.Nat.{ℕ, suc, ◌+◌, ◌-◌, ◌≤◌}
use native.Mathlib.Omega.{arith}
use mathlib.Core.Path.{◌≡◌, refl, ap, sym, ◌∙◌}
use mathlib.Core.List.{◌++◌}
use Rattle.ranking.specs.Levels.{Next, level_from, level_keys}
use Rattle.ranking.proofs.Steps.{next_one, levels_over, level_passed}
use Rattle.ranking.proofs.Cursors.{found_come, empty_come}
use Rattle.ranking.proofs.Cursor.onward.Goals as goal

pub loop-z-init : goal.loop-z-init
loop-z-init c =
    let s = c.args.self.now in
    let z : s.z ≤ 16 = omega (arith, s.level) in
    record { level = z; same = refl; come = empty_come s.next s.left s.key s.z s.symbols.now (omega (arith, c.if-self-ne0.false)) }

pub returns-in-Some : goal.returns-in-Some
returns-in-Some c =
    let l = c.loop-z in
    let f = c.in-Some in
    let here = found_come l.z l.from f.i f.bits c.args.self.now.symbols.now (rw l.invariant.same at f.ensures) in
    record { same = rw (c.from.ensures, l.invariant.same) (here ∙ sym l.invariant.come); some = f.ensures.some }

pub loop-z-preserved-then-from-eq0 : goal.loop-z-preserved-then-from-eq0
loop-z-preserved-then-from-eq0 c =
    let l = c.loop-z in
    let ss = c.args.self.now.symbols.now in
    let y = c.next_above-z in
    let n : Next l.z y.result ss = rw l.invariant.same at y.ensures in
    let come = level_passed l.z y.result l.from ss _ c.loop-z-test.true l.invariant.come (rw l.invariant.same at c.in_default.ensures) n in
    record { level = n.most; same = l.invariant.same; come = come }

pub loop-z-preserved : goal.loop-z-preserved
loop-z-preserved c =
    let l = c.loop-z in
    let ss = c.args.self.now.symbols.now in
    let n = next_one l.z ss c.loop-z-test.true in
    let come = level_passed l.z (l.z + 1) l.from ss _ c.loop-z-test.true l.invariant.come (rw l.invariant.same at c.in_default.ensures) n in
    record { level = n.most; same = l.invariant.same; come = come }

pub returns : goal.returns
returns c =
    let l = c.loop-z in
    let ss = c.args.self.now.symbols.now in
    let over : l.z ≡ 16 = omega (arith, l.invariant.level) in
    let none = l.invariant.come ∙ ap (λ (z : ℕ). level_from z l.from ss ++ level_keys (15 - z) (suc z) ss) over ∙ levels_over l.from ss in
    record { same = rw l.invariant.same refl; some = rw l.invariant.same none }
