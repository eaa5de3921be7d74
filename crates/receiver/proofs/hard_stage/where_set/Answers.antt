-- A bit masks all bits of x, or none. Assumes nothing.
use Prim.Native.Nat.{ℕ, ◌*◌, ◌^◌, ◌<◌}
use native.Mathlib.Omega.{arith}
use mathlib.Core.Path.{◌≡◌, ◌∙◌}
use lib.Bits.{bit_and, and_comm, and_mask}
use Rattle.galois.proofs.Xor.{bit_cases}
use Rattle.receiver.proofs.hard_stage.where_set.Goals as goal

pub returns : goal.returns
returns c =
    let a = c.args in
    let small : a.x < 2 ^ 32 = omega arith in
    rw c.from.ensures
    (bit_cases (λ (b : ℕ). bit_and (b * 4294967295) a.x ≡ b * a.x) (omega arith)
    (and_comm 4294967295 a.x ∙ and_mask a.x 32 ∙ omega arith) a.bit c.requires)
