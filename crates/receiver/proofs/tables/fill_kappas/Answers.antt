-- Roots l below the loop's are written; e is 3 l less a period for each turn, so that it is the place's exponent. Assumes nothing.
use Prim.Native.Nat.{ℕ, ◌+◌, ◌-◌, ◌%◌, ◌^◌, ◌≤◌, ◌<◌}
use native.Mathlib.Omega.{arith}
use mathlib.Core.Path.{◌≡◌, refl, ap, ◌∙◌}
use mathlib.Core.List.{List}
use lib.Bits.{bit_xor}
use lib.ListN.{get_or}
use Rattle.bch.proofs.tables.RootFills.{behind}
use Rattle.bch.proofs.tables.TableLoops.{FieldFilled, trios_step, next_entry}
use Rattle.refusal.specs.Named.{Made}
use Rattle.refusal.specs.declared.Code as struct
use Rattle.receiver.proofs.Places.{prime, turning}
use Rattle.receiver.proofs.tables.fill_kappas.Goals as goal

-- the element that is looked up: the powers begin at 2^m
is_next : (k : struct.Code) → Made k → (ts : List ℕ) (l : ℕ)
    → bit_xor (get_or ts (k.powers + l) 0 % 1024) 1 ≡ bit_xor (get_or ts (2 ^ k.m + l) 0 % 1024) 1
is_next k made ts l = ap (λ (p : ℕ). bit_xor (get_or ts (p + l) 0 % 1024) 1) made.is_powers

-- it is in the field, and its logarithm is below the period
next_lt : (k : struct.Code) → Made k → (ts : List ℕ) → FieldFilled k.m k.t ts → (l : ℕ) → 1 ≤ l → l < 2 ^ k.m - 1
    → let x = bit_xor (get_or ts (k.powers + l) 0 % 1024) 1 in (x < 2 ^ k.m) × (get_or ts x 0 < 2 ^ k.m - 1)
next_lt k made ts f l least h =
    let w = made.lawful in
    next_entry k.m (prime k made) made.size_most k.t ts f l _ w.t_least w.t_most w.m_most least h (is_next k made ts l)

pub bounds-numbers-x : goal.bounds-numbers-x
bounds-numbers-x c =
    let k = c.requires.0 in
    let l = c.loop-e in
    let i = l.invariant in
    let h = turning c.args.c k 3 l.l l.e c.loop.counter c.loop-test.true i.1 c.loop-e-test.true in
    omega (arith, next_lt c.args.c k l.numbers i.3 l.l i.0 h.1, i.3.long)

pub behind-requires : goal.behind-requires
behind-requires c =
    let k = c.requires.0 in
    let l = c.loop-e in
    let i = l.invariant in
    let h = turning c.args.c k 3 l.l l.e c.loop.counter c.loop-test.true i.1 c.loop-e-test.true in
    let q = next_lt c.args.c k l.numbers i.3 l.l i.0 h.1 in
    (c.loop-e-test.true, omega (arith, q.1, k.is_period), omega (arith, k.is_period, k.size_most))

pub loop-e-preserved : goal.loop-e-preserved
loop-e-preserved c =
    let k = c.requires.0 in
    let w = k.lawful in
    let m = c.args.c.m in
    let l = c.loop-e in
    let i = l.invariant in
    let h = turning c.args.c k 3 l.l l.e c.loop.counter c.loop-test.true i.1 c.loop-e-test.true in
    let x = bit_xor (get_or l.numbers (c.args.c.powers + l.l) 0 % 1024) 1 in
    let b = c.behind.result in
    let is_b : b ≡ behind (2 ^ m - 1) l.e (get_or l.numbers x 0) =
    c.behind.ensures.0 ∙ ap (λ (p : ℕ). behind p l.e (get_or l.numbers x 0)) k.is_period in
    let r =
    trios_step m (prime c.args.c k) k.size_most c.args.c.t l.numbers i.3 l.l l.e x b _ _ w.t_least w.t_most w.m_most i.0 h.1 h.0 h.2
    (is_next c.args.c k l.numbers l.l) is_b (ap (λ (p : ℕ). p + b) k.is_roots) refl i.4 in
    (omega arith, omega (arith, i.1), omega (arith, h.1, k.is_period), r.0, r.1)
