-- Below i the logarithms and the powers are written, and x is the power of i. Assumes nothing.
use Prim.Native.Nat.{ℕ, ◌+◌, ◌-◌, ◌^◌, ◌<◌}
use mathlib.Core.Path.{◌≡◌, refl, ap, sym, ◌∙◌}
use native.Mathlib.Omega.{arith}
use Rattle.galois.specs.Field.{alpha, double}
use Rattle.galois.proofs.FieldTables.{alpha_next}
use Rattle.bch.proofs.tables.TableFills.{logs_none, logs_more, logs_all}
use Rattle.receiver.proofs.Places.{prime}
use Rattle.receiver.proofs.tables.fill_logs.Goals as goal

pub loop-i-init : goal.loop-i-init
unfolding alpha
loop-i-init c = (refl, omega (arith, c.requires.0.size_least), logs_none c.args.c.m c.args.numbers.now c.requires.1 c.requires.2)

pub loop-i-preserved : goal.loop-i-preserved
loop-i-preserved c =
    let m = c.args.c.m in
    let l = c.loop-i in
    let k = c.requires.0 in
    let h : l.i < 2 ^ m - 1 = omega (arith, k.is_period) in (
      c.twice-x.ensures.0 ∙ ap (double m) l.invariant.0 ∙ sym (alpha_next m l.i),
      c.twice-x.ensures.1,
      logs_more m (prime c.args.c k) l.i l.x _ _ _ l.numbers h l.invariant.0 refl (ap (λ (p : ℕ). p + l.i) k.is_powers) l.invariant.0
          l.invariant.2,
    )

pub returns : goal.returns
returns c =
    let k = c.requires.0 in
    let l = c.loop-i in
    let e : l.i ≡ 2 ^ c.args.c.m - 1 = omega (arith, k.is_period) in
    logs_all c.args.c.m (prime c.args.c k) _ l.numbers (omega (arith, k.is_period, k.size_least)) (rw e at l.invariant.2)
