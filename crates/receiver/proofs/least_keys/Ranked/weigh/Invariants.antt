-- Each position located adds its flip to what the test word weighs, or takes it away. Assumes nothing.
use lib.ListN.{take}
use Rattle.bch.specs.Words.{flipped_at}
use Rattle.chase.specs.Soft.{hard_bits, reliabilities}
use Rattle.chase.specs.Word.{test}
use Rattle.chase.proofs.weighing.Weights.{Weighs}
use Rattle.receiver.specs.Located.{flips_of}
use Rattle.receiver.proofs.least_keys.Ranked.weigh.Given as goal

abbrev pub invariant-loop-i : goal.invariant-loop-i
invariant-loop-i l =
    let ss = l.self.symbols.now in
    Weighs (reliabilities ss) (flipped_at (take l.i (flips_of l.f)) (test l.self.p ss l.j)) (hard_bits ss) l.q l.sum
