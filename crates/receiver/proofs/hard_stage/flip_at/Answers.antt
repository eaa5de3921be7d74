-- What is left to flip makes of the bits what all flips make of them. Assumes nothing.
use Prim.Native.Nat.{◌≤◌}
use native.Mathlib.Omega.{arith}
use mathlib.Core.Path.{sym, ◌∙◌}
use lib.ListN.{length}
use lib.Seq.{get_or-take, length-take-le}
use Rattle.bch.proofs.codes.Behind.{bits_from}
use Rattle.bch.proofs.codes.Entries.{below_in}
use Rattle.bch.proofs.logarithms.Repairs.{flip_more}
use Rattle.receiver.specs.Located.{flips_of}
use Rattle.receiver.proofs.hard_stage.flip_at.Goals as goal

pub flip-requires : goal.flip-requires
flip-requires c =
    let f = c.args.f.now in
    let i = c.loop-i.i in
    let there : f.count ≤ length f.at = omega arith in
    let inside = below_in _ i (flips_of f) c.requires.1 (omega (arith, length-take-le f.count f.at there, c.loop-i-test.true)) in
    let e = c.entry.ensures ∙ sym (get_or-take f.count f.at i 0 c.loop-i-test.true) in
    (c.loop-i.invariant.0, rw e (omega (arith, inside, c.loop-i.auto.out)))

pub loop-i-preserved : goal.loop-i-preserved
loop-i-preserved c =
    let f = c.args.f.now in
    let l = c.loop-i in
    let x = c.entry.result in
    rw c.flip.ensures (
      bits_from c.args.from x l.out l.invariant.0,
      flip_more c.args.from f.count l.i x f.at l.out (omega arith) c.loop-i-test.true c.entry.ensures l.invariant.1,
    )
