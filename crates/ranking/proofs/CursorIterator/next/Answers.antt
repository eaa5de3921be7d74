-- The key of the lowest bit is the next, and the higher bits are left. Assumes nothing.
use Prim.Native.Nat.{◌<◌}
use native.Mathlib.Omega.{arith}
use mathlib.Core.Path.{refl, ap, sym, ◌∙◌}
use lib.Count.{count_trailing_zeros}
use lib.ListN.{length}
use Rattle.ranking.specs.declared.Cursor.{Cursor}
use Rattle.ranking.proofs.Cursors.{Stepped, stepped}
use Rattle.ranking.proofs.CursorIterator.next.Goals as goal

next_key : (s : Cursor) → 0 < s.left → Stepped s.next s.left s.key s.z (count_trailing_zeros 32 s.left)
next_key s some = stepped s.next s.left s.key s.z _ refl some s.begun s.few s.bits

pub invariant_of-self : goal.invariant_of-self
invariant_of-self c =
    let s = c.onward.new.self in
    let n = next_key s c.in_ok-onward.ensures.some in
    record { short = s.short; level = s.level; near = s.near; begun = n.begun; few = omega (arith, s.few); bits = n.bits }

pub returns-clause-steps : goal.returns-clause-steps
returns-clause-steps c =
    let s = c.onward.new.self in
    sym c.in_ok-onward.ensures.same ∙ (next_key s c.in_ok-onward.ensures.some).taken s.symbols.now

pub returns-clause-goes : goal.returns-clause-goes
returns-clause-goes c =
    let s = c.onward.new.self in
    let e = ap length (sym c.in_ok-onward.ensures.same ∙ (next_key s c.in_ok-onward.ensures.some).taken s.symbols.now) in
    record { on = λ _. (tt, tt, omega (arith, e)); keeps = tt; rests = λ _. tt }
