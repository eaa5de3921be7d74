-- By the sample's case. Assumes nothing.
use borrow.Author.Rules.{rules}
use mathlib.Core.Path.{ap, sym}
use lib.Ieee.{of_bits}
use Rattle.quantiser.specs.Told.{sample_told, level_of}
use Rattle.quantiser.specs.declared.Sample.{Sample}
use Rattle.quantiser.proofs.samples.level_of.Goals as goal

pub returns-in-Blank : goal.returns-in-Blank
unfolding sample_told level_of of_bits
returns-in-Blank c = sym (ap (λ (s : Sample). level_of (sample_told s)) c.in-Blank.is)

pub returns-in-Heard : goal.returns-in-Heard
unfolding sample_told level_of
returns-in-Heard c = search rules
