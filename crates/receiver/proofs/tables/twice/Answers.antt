-- A step of α is `double`. Assumes nothing.
use Prim.Native.Nat.{◌*◌, ◌^◌, ◌≤◌, ◌<◌}
use native.Mathlib.Omega.{arith}
use mathlib.Core.Path.{◌≡◌, ap, ◌∙◌}
use lib.Bits.{bit_xor}
use Rattle.galois.specs.Field.{double}
use Rattle.galois.proofs.Primitive.{primitive_5_10}
use Rattle.galois.proofs.FieldLaws.{double_lt}
use Rattle.galois.proofs.FieldTables.{double_small, double_large}
use Rattle.receiver.proofs.tables.twice.Goals as goal

pub returns-then-y-top : goal.returns-then-y-top
returns-then-y-top c =
    let h : 2 * c.args.a < 2 ^ c.args.m = omega arith in
    (double_small _ _ h, h)

pub returns-else-y-top : goal.returns-else-y-top
returns-else-y-top c =
    let a = c.args in
    let p = c.requires in
    let h : 2 ^ a.m ≤ 2 * a.a = omega arith in
    let e : bit_xor (2 * a.a) a.g ≡ double a.m a.a = ap (bit_xor (2 * a.a)) p.3 ∙ double_large a.m a.a h in
    (e, rw e (double_lt a.m (primitive_5_10 a.m p.0 p.1) a.a p.4))
