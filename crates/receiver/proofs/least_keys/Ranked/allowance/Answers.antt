-- What is left of the sum, with what is added already, is the whole sum. Assumes nothing.
use Prim.Native.Nat.{ℕ, ◌+◌, ◌-◌, ◌/◌, ◌%◌, ◌<◌}
use native.Mathlib.Omega.{arith}
use mathlib.Core.Path.{◌≡◌, ap, sym, ◌∙◌}
use mathlib.Core.Bool.{true, false}
use mathlib.Core.List.{List, ◌++◌}
use lib.Dec.{eqb}
use lib.ListN.{length, get_or, take, drop, length-append, length-take}
use Rattle.std.proofs.lemmas.Grind.{get_or_default_zero}
use Rattle.std.proofs.lemmas.Iterator.{YieldsList-from_slice, YieldsList-from_take}
use Rattle.std.proofs.lemmas.Iterator.Consumers.{YieldsList-from_chain, YieldsList-turn, YieldsList-end}
use Rattle.std.proofs.lemmas.List.{length_push}
use Rattle.bch.specs.Words.{is_in}
use Rattle.chase.proofs.ranking.Allowances.{turned, unflipped_sum, sum_skip, sum_add, sum_enough, sum_end}
use Rattle.receiver.specs.Located.{flips_of}
use Rattle.receiver.proofs.least_keys.Ranked.allowance.Goals as goal
use Rattle.receiver.proofs.least_keys.Ranked.allowance.Goals.{then-not-turns, else-not-turns}

module _ (P ks : List ℕ) (d r full k sum total key : ℕ) (here : (k < length ks) × (key ≡ get_or ks k key)) (short : full < d)
    (old : sum + unflipped_sum P r (d - full) (drop k ks) ≡ total) where
  same : get_or ks k 0 ≡ key
  same = sym (here.1 ∙ get_or_default_zero ks k key here.0)

  one_more : d - full ≡ d - (full + 1) + 1
  one_more = omega arith

  -- its position is not flipped, ..
  added : (z : ℕ) → z ≡ key / 1024 → turned (is_in (key % 1024) P) (eqb (r % 2) 1) ≡ false
      → sum + z + unflipped_sum P (r / 2) (d - (full + 1)) (drop (k + 1) ks) ≡ total
  added z e h =
      let step = sum_add P r (d - (full + 1)) k ks here.0 (rw same h) in
      omega (arith, old, rw (← one_more) at step, same)

  -- .. or it is
  passed : turned (is_in (key % 1024) P) (eqb (r % 2) 1) ≡ true → sum + unflipped_sum P (r / 2) (d - full) (drop (k + 1) ks) ≡ total
  passed h =
      let step = sum_skip P r (d - (full + 1)) k ks here.0 (rw same h) in
      omega (arith, old, rw (← one_more) at step)

pub returns-then-self-full : goal.returns-then-self-full
returns-then-self-full c =
    let a = c.args in
    let l = c.loop-key in
    let ks = drop (length l.yielded) (take a.self.now.d (a.self.now.keys.at ++ a.self.now.keys.more)) in
    let none : a.self.now.d - l.full ≡ 0 = omega (arith, c.if-self-full.true) in
    omega (arith, l.invariant.1, ap (λ (k : ℕ). unflipped_sum (flips_of a.f.now) l.r k ks) none, sum_enough (flips_of a.f.now) l.r ks)

pub overflow_add-sum : goal.overflow_add-sum
overflow_add-sum c =
    let word = c.args.self.now in
    let l = c.loop-key in
    let road =
    YieldsList-from_take {s = c.into_iter-key-iterator.result} word.d
    (YieldsList-from_chain (YieldsList-from_slice word.keys.at (cc)) (YieldsList-from_slice word.keys.more (cc)) (cc) (cc)) (cc) in
    let t = YieldsList-turn road l.yielded _ l.yielded_by _ _ c.in-Some.key c.in-Some.is c.next.ensures.steps in
    omega (arith, t.0, length-take word.d (word.keys.at ++ word.keys.more), length-append word.keys.at word.keys.more, c.held-sum.ensures.1)

pub loop-key-preserved : goal.loop-key-preserved
loop-key-preserved c =
    let word = c.args.self.now in
    let l = c.loop-key in
    let P = flips_of c.args.f.now in
    let ks = take word.d (word.keys.at ++ word.keys.more) in
    let k = length l.yielded in
    let road =
    YieldsList-from_take {s = c.into_iter-key-iterator.result} word.d
    (YieldsList-from_chain (YieldsList-from_slice word.keys.at (cc)) (YieldsList-from_slice word.keys.more (cc)) (cc) (cc)) (cc) in
    let t = YieldsList-turn road l.yielded _ l.yielded_by _ _ c.in-Some.key c.in-Some.is c.next.ensures.steps in
    let e = rw c.place_of.ensures at c.turns.ensures in
    rw length_push (elim c.if-not-turns.branch [
      | then-not-turns w ↦ (
        omega (arith, l.invariant.0, w.held-sum.ensures.1, w.sum-is),
        rw (w.sum-is, w.full-is)
            (added P ks word.d l.r l.full k l.sum _ c.in-Some.key.now t c.if-self-full.false l.invariant.1 w.held-sum.result w.held-sum.ensures.0
            (sym e ∙ w.if-not-turns.true)),
      )
      | else-not-turns w ↦ (
        omega (arith, l.invariant.0, w.sum-is),
        rw (w.sum-is, w.full-is)
            (passed P ks word.d l.r l.full k l.sum _ c.in-Some.key.now t c.if-self-full.false l.invariant.1 (sym e ∙ w.if-not-turns.false)),
      )
    ])

pub returns : goal.returns
returns c =
    let word = c.args.self.now in
    let l = c.loop-key in
    let ks = take word.d (word.keys.at ++ word.keys.more) in
    let road =
    YieldsList-from_take {s = c.into_iter-key-iterator.result} word.d
    (YieldsList-from_chain (YieldsList-from_slice word.keys.at (cc)) (YieldsList-from_slice word.keys.more (cc)) (cc) (cc)) (cc) in
    let t = YieldsList-end road l.yielded _ l.yielded_by _ _ c.in-None.is c.next.ensures.steps in
    omega (arith, l.invariant.1, sum_end (flips_of c.args.f.now) l.r (word.d - l.full) (length l.yielded) ks t.1)
