-- The bits are the hard bits of their symbols. Assumes nothing.
use Prim.Native.Nat.{ℕ, ◌/◌}
use native.Mathlib.Omega.{arith}
use mathlib.Core.Path.{ap, ◌∙◌}
use Rattle.std.proofs.Common.{get_or-drop}
use lib.ListN.{drop}
use lib.Seq.{get_or-take}
use Rattle.chase.proofs.test_words.TestWords.{hard_filled}
use Rattle.receiver.proofs.soft_stage.write_bits.Goals as goal

pub returns : goal.returns
returns c =
    let l = c.loop-i in
    let a = c.args in
    hard_filled a.from a.s.now l.out (omega arith) (λ k h. l.invariant k (omega arith)
    ∙ ap (λ (x : ℕ). x / 16) (get_or-take _ (drop a.from a.s.now) k 0 (omega arith) ∙ get_or-drop a.from a.s.now k 0))
