-- What is left of j, over the weak positions left, makes of the bits what j makes of them over all. Assumes nothing.
use mathlib.Core.Path.{◌≡◌}
use lib.ListN.{drop}
use Rattle.bch.specs.Words.{Bits}
use Rattle.bch.proofs.codes.Behind.{flipped_from}
use Rattle.chase.proofs.search.Ready.{places_of}
use Rattle.chase.proofs.test_words.TestWords.{chosen}
use Rattle.receiver.proofs.soft_stage.flip_weak.Given as goal

abbrev pub invariant-loop-key : goal.invariant-loop-key
invariant-loop-key l =
    let ws = places_of l.word.keys.at l.word.p in
    Bits l.out × (flipped_from l.from (chosen l.r (drop l.key-index ws)) l.out ≡ flipped_from l.from (chosen l.j ws) l.initial.out)
