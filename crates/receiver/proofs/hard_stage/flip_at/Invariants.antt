-- What is left to flip makes of the bits what all flips make of them. Assumes nothing.
use mathlib.Core.Path.{◌≡◌}
use lib.ListN.{drop}
use Rattle.bch.specs.Words.{Bits}
use Rattle.bch.proofs.codes.Behind.{flipped_from}
use Rattle.receiver.specs.Located.{flips_of}
use Rattle.receiver.proofs.hard_stage.flip_at.Given as goal

abbrev pub invariant-loop-i : goal.invariant-loop-i
invariant-loop-i l = Bits l.out × (flipped_from l.from (drop l.i (flips_of l.f)) l.out ≡ flipped_from l.from (flips_of l.f) l.initial.out)
