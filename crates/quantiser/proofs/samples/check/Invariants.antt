-- What is left to check is refused as all is. Assumes nothing.
use mathlib.Core.Path.{◌≡◌}
use Rattle.take_format.specs.Samples.{samples_check}
use Rattle.quantiser.proofs.samples.check.Given as goal

abbrev pub invariant-loop-place : goal.invariant-loop-place
invariant-loop-place l =
    samples_check l.place-iterator.count l.place-iterator.iter.a.rest.now l.place-iterator.iter.b.rest.now ≡ samples_check 0 l.kinds l.levels
