-- The bits so far are characters. Assumes nothing.
use Rattle.std.proofs.Common.{◌≡◌}
use Rattle.bch.specs.Words.{Bits}
use Rattle.listing.proofs.Texts.{shown_to}
use Rattle.listing.proofs.lines.bits.Given as goal

abbrev pub invariant-loop-b : goal.invariant-loop-b
invariant-loop-b l = Bits l.initial.b-items → l.b-items ≡ shown_to l.b-index l.initial.b-items
