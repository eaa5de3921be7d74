-- By the sample's case. Assumes nothing.
use borrow.Author.Rules.{rules}
use Rattle.quantiser.specs.Told.{sample_told, heard_of}
use Rattle.quantiser.proofs.samples.heard.Goals as goal

pub returns-in-Blank : goal.returns-in-Blank
unfolding sample_told heard_of
returns-in-Blank c = record { value = search rules; upper_bound = search rules }

pub returns-in-Heard : goal.returns-in-Heard
unfolding sample_told heard_of
returns-in-Heard c = record { value = search rules; upper_bound = search rules }
