-- The positions that j flips are gone through one after the other. Assumes nothing.
use mathlib.Core.Path.{◌≡◌}
use lib.ListN.{drop}
use Rattle.bch.specs.Words.{is_in}
use Rattle.chase.proofs.test_words.TestWords.{chosen}
use Rattle.chase.proofs.search.Ready.{places_of}
use Rattle.receiver.proofs.least_keys.Ranked.chosen_at.Given as goal

abbrev pub invariant-loop-key : goal.invariant-loop-key
invariant-loop-key l =
    is_in l.x (chosen l.r (drop l.key-index (places_of l.self.keys.at l.self.p))) ≡ is_in l.x (chosen l.j (places_of l.self.keys.at l.self.p))
