-- The entries of the elements below 2 h are written. Assumes nothing.
use Prim.Native.Nat.{ℕ, ◌+◌, ◌-◌, ◌*◌, ◌/◌, ◌^◌, ◌≤◌, ◌<◌}
use native.Mathlib.Omega.{arith}
use mathlib.Core.Path.{◌≡◌, refl, ap, subst, ◌∙◌}
use mathlib.Core.List.{List}
use lib.ListN.{get_or, set}
use Rattle.galois.proofs.FieldTables.{even_size}
use Rattle.bch.proofs.tables.CodeTables.{PairRoots, reduced, roots_in}
use Rattle.bch.proofs.tables.TableLoops.{FieldFilled, filled_log_lt, pairs_step}
use Rattle.refusal.specs.Named.{Made}
use Rattle.refusal.specs.declared.Code as struct
use Rattle.receiver.proofs.Places.{prime}
use Rattle.receiver.proofs.tables.fill_quadratics.Goals as goal

-- the logarithms of w and w + 1 are below the period
logs_lt : (k : struct.Code) → Made k → (ts : List ℕ) → FieldFilled k.m k.t ts → (h : ℕ) → 1 ≤ h → h < k.powers / 2
    → (get_or ts (2 * h) 0 < k.period) × (get_or ts (2 * h + 1) 0 < k.period)
logs_lt k made ts f h least below =
    let lt : (x : ℕ) → 2 ≤ x → x < 2 ^ k.m → get_or ts x 0 < k.period =
    λ x l u. omega (arith, filled_log_lt k.m (prime k made) made.size_most k.t ts f x (λ z. omega arith) u, made.is_period) in
    (lt (2 * h) (omega arith) (omega (arith, made.is_powers)), lt (2 * h + 1) (omega arith) (omega (arith, made.is_powers)))

pub overflow_add-a : goal.overflow_add-a
overflow_add-a c =
    let l = c.loop-h in
    let q = logs_lt c.args.c c.requires.0 l.numbers l.invariant.0 l.h l.auto.h c.loop-h-test.true in
    record { fits = omega arith }

pub overflow_mul-numbers : goal.overflow_mul-numbers
overflow_mul-numbers c =
    let l = c.loop-h in
    let q = logs_lt c.args.c c.requires.0 l.numbers l.invariant.0 l.h l.auto.h c.loop-h-test.true in
    record { fits = omega arith }

pub overflow_add-numbers : goal.overflow_add-numbers
overflow_add-numbers c =
    let l = c.loop-h in
    let q = logs_lt c.args.c c.requires.0 l.numbers l.invariant.0 l.h l.auto.h c.loop-h-test.true in
    record { fits = omega arith }

pub overflow_add-numbers-in-loop-h : goal.overflow_add-numbers-in-loop-h
overflow_add-numbers-in-loop-h c =
    let l = c.loop-h in
    let q = logs_lt c.args.c c.requires.0 l.numbers l.invariant.0 l.h l.auto.h c.loop-h-test.true in
    record { fits = omega arith }

pub offset_bounds-numbers-c : goal.offset_bounds-numbers-c
offset_bounds-numbers-c c =
    let l = c.loop-h in
    let q = logs_lt c.args.c c.requires.0 l.numbers l.invariant.0 l.h l.auto.h c.loop-h-test.true in
    record { fits = omega arith }

pub bounds-numbers-c : goal.bounds-numbers-c
bounds-numbers-c c =
    let l = c.loop-h in
    let q = logs_lt c.args.c c.requires.0 l.numbers l.invariant.0 l.h l.auto.h c.loop-h-test.true in
    omega (arith, l.invariant.0.long)

pub loop-h-preserved : goal.loop-h-preserved
loop-h-preserved c =
    let k = c.args.c in
    let made = c.requires.0 in
    let l = c.loop-h in
    let w = 2 * l.h in
    let a = get_or l.numbers w 0 in
    let b = get_or l.numbers (w + 1) 0 in
    let e = c.reduced-e.result in
    let below : w < 2 ^ k.m - 1 = omega (arith, made.is_powers, c.loop-h-test.true) in
    let is_e = c.reduced-e.ensures.0 ∙ ap (λ (p : ℕ). reduced p (a + b)) made.is_period in
    let q =
    pairs_step k.m (prime k made) made.size_most k.t l.numbers l.invariant.0 w a b e (k.roots + e) (a + 1024 * b) (omega arith)
    (omega (arith, l.auto.h)) below refl refl is_e (ap (λ (p : ℕ). p + e) made.is_roots) refl l.invariant.1 in
    let next : w + 2 ≡ 2 * (l.h + 1) = omega arith in
    (q.0, subst (λ (j : ℕ). PairRoots k.m j (roots_in k.m (set l.numbers (k.roots + e) (a + 1024 * b)))) next q.1)

pub returns : goal.returns
returns c =
    let k = c.args.c in
    let l = c.loop-h in
    let even = even_size k.m (omega (arith, c.requires.0.lawful.m_least)) in
    let end : 2 * l.h ≡ 2 ^ k.m = omega (arith, even, c.requires.0.is_powers, c.requires.0.size_least) in
    record {
      field = l.invariant.0;
      pairs = λ z. subst (λ (j : ℕ). PairRoots k.m j (roots_in k.m l.numbers)) end l.invariant.1;
      none = λ n. absurd (n c.if-c-ne2.false);
    }
