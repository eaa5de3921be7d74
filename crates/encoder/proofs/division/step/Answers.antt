-- The smaller of the two numbers is the step's. Assumes nothing.
use Prim.Native.Nat.{◌*◌, ◌<◌, ◌≤◌}
use native.Mathlib.Omega.{arith}
use mathlib.Core.Path.{◌≡◌, ◌∙◌}
use mathlib.Core.Logic.{⊎_elim}
use lib.Bits.{bit_xor}
use Rattle.galois.proofs.Tests.{lt_or_le}
use Rattle.bch.proofs.encoding.Division.{shifted, step_added, step_kept}
use Rattle.encoder.proofs.division.step.Goals as goal

pub returns : goal.returns
unfolding shifted
returns c =
    let a = c.args in
    let p = c.requires in
    let v = bit_xor (2 * a.register) (a.bit * a.top) in
    let w = bit_xor v a.g in
    ⊎_elim
    (λ (less : w < v). let e : c.min.result ≡ w = omega (arith, c.min.ensures) in
    e ∙ rw p.1 (step_added a.r a.g p.2 a.register a.bit (rw p.1 at less)))
    (λ (least : v ≤ w). let e : c.min.result ≡ v = omega (arith, c.min.ensures) in
    e ∙ rw p.1 (step_kept a.r a.g p.2 a.register a.bit p.3 p.4 (rw p.1 at least)))
    (lt_or_le w v)
