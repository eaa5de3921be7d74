-- The powers that t asks for, one after the other, then the first of them repeated. Assumes nothing.
use Prim.Native.Nat.{ℕ, min}
use mathlib.Core.Path.{◌≡◌, ap, ◌∙◌}
use native.Mathlib.Omega.{arith}
use Rattle.galois.specs.Field.{alpha}
use Rattle.bch.proofs.tables.TableFills.{stage, stage_one, part_as, adds_three, adds_five}
use Rattle.bch.proofs.tables.TableLoops.{again_as, field_filled, roots_empty}
use Rattle.receiver.proofs.Places.{prime}
use Rattle.receiver.proofs.tables.fill_field.Goals as goal

pub add_powers-requires : goal.add_powers-requires
add_powers-requires c =
    let k = c.requires.0 in
    let m = c.args.c.m in
    let g = prime c.args.c k in
    let one : 1 ≡ min 1 c.args.c.t = omega (arith, k.lawful.t_least) in
    let same : (i : ℕ) → alpha m i ≡ stage m (min 1 c.args.c.t) i =
    λ i. stage_one m g k.lawful.m_most i ∙ ap (λ (t : ℕ). stage m t i) one in
    (k, adds_three m g k.lawful.m_most, part_as m _ _ _ _ (λ i h. same i) c.fill_logs.ensures)

pub add_powers-requires-2 : goal.add_powers-requires-2
add_powers-requires-2 c =
    let k = c.requires.0 in
    (k, adds_five c.args.c.m (prime c.args.c k) k.lawful.m_most, c.add_powers.ensures)

pub returns : goal.returns
returns c =
    let k = c.requires.0 in
    let m = c.args.c.m in
    let g = prime c.args.c k in
    let all : min 3 c.args.c.t ≡ c.args.c.t = omega (arith, k.lawful.t_most) in
    let same : (i : ℕ) → stage m (min 3 c.args.c.t) i ≡ stage m c.args.c.t i = λ i. ap (λ (t : ℕ). stage m t i) all in
    let f = part_as m _ (stage m c.args.c.t) _ _ (λ i h. same i) c.add_powers-2.ensures in
    let r = again_as k.is_period k.is_powers c.wrap.ensures in
    (record { made = k; field = field_filled m g k.size_least _ _ _ f r }, roots_empty m g k.size_least _ _ _ f r)
