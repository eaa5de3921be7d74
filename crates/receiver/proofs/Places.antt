-- Filling the tables of a code: its polynomial, and the exponent d i in the loops that take a period off it at each turn. Assumes nothing.
use Prim.Native.Nat.{ℕ, ◌+◌, ◌-◌, ◌*◌, ◌^◌, ◌<◌}
use native.Mathlib.Omega.{arith}
use mathlib.Core.Path.{◌≡◌, subst}
use Rattle.galois.specs.Field.{alpha}
use Rattle.galois.proofs.Primitive.{Primitive, primitive_5_10}
use Rattle.bch.proofs.tables.TableLoops.{turn_inside, turn_power}
use Rattle.refusal.specs.Named.{Made}
use Rattle.refusal.specs.declared.Code as struct

-- the code's polynomial is primitive
pub prime : (k : struct.Code) → Made k → Primitive k.m
prime k made = primitive_5_10 k.m made.lawful.m_least made.lawful.m_most

-- after n of d turns, an exponent e below the period is that of an i below it, and stands for d i
pub turning : (k : struct.Code) → Made k → (d i e n : ℕ) → n < d → e + n * k.period ≡ d * i → e < k.period
    → (e < 2 ^ k.m - 1) × (i < 2 ^ k.m - 1) × (alpha k.m e ≡ alpha k.m (d * i))
turning k made d i e n more sum below =
    let h : e < 2 ^ k.m - 1 = omega (arith, made.is_period) in
    let s : e + n * (2 ^ k.m - 1) ≡ d * i = subst (λ (p : ℕ). e + n * p ≡ d * i) made.is_period sum in
    let inside = turn_inside (2 ^ k.m - 1) d i e h (record { turns = n; few = more; sum = s }) in
    (h, inside, turn_power k.m (prime k made) d i e (record { turns = n; sum = s }))
