-- What is left rises above the last edge exactly where all rise. Assumes nothing.
use mathlib.Core.Path.{◌≡◌}
use lib.ListN.{drop}
use Rattle.take_format.specs.Samples.{zero_level, rising}
use Rattle.quantiser.proofs.edges.rise.Given as goal

abbrev pub invariant-loop-edge : goal.invariant-loop-edge
invariant-loop-edge l = rising l.below (drop l.edge-index l.edges) ≡ rising zero_level l.edges
