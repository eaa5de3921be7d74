-- Below i the powers hold what is added, from i on what they held; e is d i less a period for each turn. Assumes nothing.
use Prim.Native.Nat.{ℕ, ◌+◌, ◌-◌, ◌*◌, ◌%◌, ◌^◌, ◌≤◌, ◌<◌, min}
use native.Mathlib.Nat.{mul-le-mul, mul-suc}
use native.Mathlib.Numerals.{add-one}
use native.Mathlib.Omega.{arith}
use mathlib.Core.Path.{◌≡◌, ap, subst, sym, ◌∙◌}
use mathlib.Core.Logic.{◌⊎◌, inl, inr}
use lib.ListN.{get_or, set}
use mir.Syntax.{w32}
use mir.Val.{Fits}
use Rattle.galois.specs.Field.{alpha}
use Rattle.galois.proofs.Tests.{lt_or_le}
use Rattle.bch.proofs.tables.TableFills.{FieldPart, stage, stage_low, mixed, mixed_none, mixed_here, mixed_more, mixed_all}
use Rattle.receiver.proofs.Places.{prime, turning}
use Rattle.receiver.proofs.tables.add_powers.Goals as goal

-- what is added, and the sum, in 32 bits
sum_fits : (y k x : ℕ) → y < k → k * 1024 ≤ 2147483648 → Fits w32 (y + k * (x % 1024))
sum_fits y k x low room =
    let most : k * (x % 1024) ≤ k * 1024 = mul-le-mul (omega arith) (omega arith) in
    record { fits = omega arith }

-- a step
turn_step : (p d i e n : ℕ) → e + n * p ≡ d * i → e + d + n * p ≡ d * (i + 1)
turn_step p d i e n sum = let q : d * (i + 1) ≡ d * i + d = ap (λ (x : ℕ). d * x) (add-one i) ∙ omega (arith, mul-suc d i) in omega arith

-- after all turns i is the period
turns_done : (p d i e n : ℕ) → 1 ≤ d → n ≡ d → i ≤ p → e + n * p ≡ d * i → i ≡ p
turns_done p d i e n some all most sum = go (lt_or_le i p)
  where
    go : (i < p) ⊎ (p ≤ i) → i ≡ p
    go (inl h) =
        let a : d * (i + 1) ≤ d * p = mul-le-mul (omega arith) (omega arith) in
        let b : n * p ≡ d * p = ap (λ (x : ℕ). x * p) all in
        absurd (omega (arith, turn_step p d i e n sum))
    go (inr h) = omega arith

pub loop-init : goal.loop-init
loop-init c =
    let a = c.args in
    let m = a.c.m in
    let few : min a.t a.c.t ≡ a.t = omega (arith, c.if-c-t.false) in
    let f = subst (λ (t : ℕ). FieldPart m (stage m t) (2 ^ m - 1) a.numbers.now) few c.requires.2 in
    (omega arith, omega arith, mixed_none m (stage m a.t) (stage m (a.t + 1)) a.numbers.now f)

pub overflow_add-numbers-in-loop-e-2 : goal.overflow_add-numbers-in-loop-e-2
overflow_add-numbers-in-loop-e-2 c =
    let a = c.args in
    let m = a.c.m in
    let l = c.loop-e in
    let k = c.requires.0 in
    let h = turning a.c k a.d l.i l.e c.loop.counter c.loop-test.true l.invariant.0 c.loop-e-test.true in
    let entry : get_or l.numbers (a.c.powers + l.i) 0 ≡ stage m a.t l.i =
    ap (λ (p : ℕ). get_or l.numbers (p + l.i) 0) k.is_powers
    ∙ mixed_here m (stage m a.t) (stage m (a.t + 1)) l.numbers l.i h.1 l.invariant.2 in
    sum_fits _ _ _ (subst (λ (x : ℕ). x < a.scale) (sym entry) (c.requires.1.low l.i)) c.requires.1.room

pub loop-e-preserved : goal.loop-e-preserved
loop-e-preserved c =
    let a = c.args in
    let m = a.c.m in
    let l = c.loop-e in
    let u = c.requires.1 in
    let k = c.requires.0 in
    let h = turning a.c k a.d l.i l.e c.loop.counter c.loop-test.true l.invariant.0 c.loop-e-test.true in
    let low : (t : ℕ) → 1 ≤ t → t ≤ 3 → (j : ℕ) → j < 2 ^ m - 1 → stage m t j % 1024 ≡ alpha m j =
    λ t x y j z. stage_low m (prime a.c k) k.lawful.m_most j t x y in
    let added =
    mixed_more m (stage m a.t) (stage m (a.t + 1)) l.numbers a.d a.scale l.i l.e h.1 h.0 h.2
    (low a.t u.some (omega (arith, u.few))) (low (a.t + 1) (omega arith) (omega (arith, u.few))) (λ j z. u.sum j) l.invariant.2 in (
      turn_step a.c.period a.d l.i l.e c.loop.counter l.invariant.0,
      omega (arith, h.1, k.is_period),
      subst
          (λ (p : ℕ). FieldPart m (mixed (stage m a.t) (stage m (a.t + 1)) (l.i + 1)) (2 ^ m - 1)
          (set l.numbers (p + l.i) (get_or l.numbers (p + l.i) 0 + a.scale * (get_or l.numbers (p + l.e) 0 % 1024))))
          (sym k.is_powers) added,
    )

pub returns : goal.returns
returns c =
    let a = c.args in
    let m = a.c.m in
    let l = c.loop in
    let all : l.counter ≡ a.d = omega arith in
    let end = turns_done a.c.period a.d l.i l.e l.counter c.requires.1.d_least all l.invariant.1 l.invariant.0 ∙ c.requires.0.is_period in
    let f = stage m a.t in
    let g = stage m (a.t + 1) in
    let more : a.t + 1 ≡ min (a.t + 1) a.c.t = omega (arith, c.if-c-t.false) in
    subst (λ (t : ℕ). FieldPart m (stage m t) (2 ^ m - 1) l.numbers) more
    (mixed_all m f g l.numbers (subst (λ (i : ℕ). FieldPart m (mixed f g i) (2 ^ m - 1) l.numbers) end l.invariant.2))
