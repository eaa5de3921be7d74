-- The first k keys are in their places, and the others are still to come. Assumes nothing.
use Prim.Native.Nat.{ℕ}
use native.Mathlib.Omega.{arith}
use mathlib.Core.Path.{◌≡◌, refl, ap, sym, ◌∙◌}
use mathlib.Core.List.{◌++◌}
use mathlib.Core.Logic.{inl, inr}
use lib.ListN.{take, length-set}
use Rattle.std.specs.Iterator.Adapters.{zip_first, zip_second}
use Rattle.ranking.specs.Weakest.{padded}
use Rattle.ranking.specs.Levels.{level_keys}
use Rattle.ranking.specs.Cursors.{to_come}
use Rattle.ranking.proofs.Cursors.{start_come, next_put, low_put, high_put, all_taken}
use Rattle.ranking.proofs.first_keys.Goals as goal

pub loop-k-init : goal.loop-k-init
unfolding padded
loop-k-init c =
    let z = c.zip-k-items.ensures in
    rw (c.into_iter-k-iterator.ensures.into_iter_gives, z.first, z.second)
    (record { six = refl; two = refl; within = omega arith; end = refl; placed = refl; come = start_come c.args.symbols.now })

pub loop-k-preserved-then-k-lt6 : goal.loop-k-preserved-then-k-lt6
loop-k-preserved-then-k-lt6 c =
    let l = c.loop-k in
    let i = l.invariant in
    let h = c.in-Some.ensures.steps in
    let k = (zip_first l.k-iterator).start in
    let key = c.in-Some.key in
    let next = next_put k key (l.at ++ l.more) (level_keys 16 0 c.args.symbols.now) (to_come (zip_second c.next.new.self)) (omega arith) i.placed
    (sym i.come ∙ h.1) in
    rw (h.0.1.1, h.0.1.2) (record {
      six = simp length-set i.six;
      two = i.two;
      within = omega arith;
      end = h.0.0 ∙ i.end;
      placed = low_put k key l.at l.more (omega (arith, c.if-k-lt6.true, h.0.1.1)) i.six ∙ next.0;
      come = sym next.1;
    })

pub loop-k-preserved : goal.loop-k-preserved
loop-k-preserved c =
    let l = c.loop-k in
    let i = l.invariant in
    let h = c.in-Some.ensures.steps in
    let k = (zip_first l.k-iterator).start in
    let key = c.in-Some.key in
    let next = next_put k key (l.at ++ l.more) (level_keys 16 0 c.args.symbols.now) (to_come (zip_second c.next.new.self)) (omega arith) i.placed
    (sym i.come ∙ h.1) in
    rw (h.0.1.1, h.0.1.2) (record {
      six = i.six;
      two = simp length-set i.two;
      within = omega arith;
      end = h.0.0 ∙ i.end;
      placed = high_put k key l.at l.more (omega (arith, c.if-k-lt6.false, h.0.1.1)) i.six ∙ next.0;
      come = sym next.1;
    })

pub returns : goal.returns
returns c =
    let l = c.loop-k in
    let i = l.invariant in
    elim c.in-None.ensures.steps [
      | inl d ↦ (let all : (zip_first l.k-iterator).start ≡ c.args.size = omega (arith, d.1.1, i.end, i.within) in
          (i.placed ∙ ap (λ (k : ℕ). padded (take k (level_keys 16 0 c.args.symbols.now))) all, i.six))
      | inr d ↦ (
        i.placed ∙ ap padded (all_taken (zip_first l.k-iterator).start c.args.size (level_keys 16 0 c.args.symbols.now) i.within
            (sym i.come ∙ d.1.0)),
        i.six,
      )
    ]
