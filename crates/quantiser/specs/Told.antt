-- What the quantiser's values mean, in document 01's numbers. Assumes nothing.
use Rattle.std.specs.Prelude.{ℕ, zero, suc, Bool, true, false, ◌⊎◌, List, Float, Result}
use Rattle.std.specs.Float.Ieee.{is_nan}
use Rattle.take_format.specs.Refusal.{Refusal}
use Rattle.take_format.specs.Samples as Samples
use Rattle.refusal.specs.Checked.{answer_of}
use Rattle.refusal.specs.declared.Refusal as refusal
use Rattle.quantiser.specs.declared.Ladder.{Ladder}
use Rattle.quantiser.specs.declared.Sample.{Sample}
use Rattle.quantiser.specs.declared.Sample.TheVariants.{Blank, Heard}

-- a ladder's edges
abbrev pub edges_of : Ladder → List Float
edges_of l = l.edges

-- what making a ladder gives: a refusal, or its edges
abbrev pub made_of : Result Ladder refusal.Refusal → Refusal ⊎ List Float
made_of = answer_of edges_of

-- a sample
unfoldable pub sample_told : Sample → Samples.Sample
sample_told Blank = Samples.blank
sample_told (Heard x) = Samples.heard x

-- of a sample: 1 where it was heard, and its level; a blank has 0 for both. Cited by the contracts of private functions alone
unfoldable pub heard_of : Samples.Sample → ℕ
heard_of Samples.blank = 0
heard_of (Samples.heard x) = 1

unfoldable pub level_of : Samples.Sample → Float
level_of Samples.blank = Samples.zero_level
level_of (Samples.heard x) = x

-- whether a kind and a level are refused. Cited by the contract of a private function alone
unfoldable pub is_bad : ℕ → Float → Bool
is_bad zero x = false
is_bad (suc zero) x = is_nan x
is_bad (suc (suc k)) x = true
