-- The first k keys are in their places, and the others are still to come. Assumes nothing.
use Prim.Native.Nat.{◌≤◌}
use mathlib.Core.Path.{◌≡◌}
use mathlib.Core.List.{◌++◌}
use lib.ListN.{length, take, drop}
use Rattle.std.specs.Iterator.Adapters.{zip_first, zip_second}
use Rattle.ranking.specs.Weakest.{padded}
use Rattle.ranking.specs.Levels.{level_keys}
use Rattle.ranking.specs.Cursors.{to_come}
use Rattle.ranking.proofs.first_keys.Given as goal

abbrev pub invariant-loop-k : goal.invariant-loop-k
invariant-loop-k l = record {
  six : length l.at ≡ 6;
  two : length l.more ≡ 2;
  within : (zip_first l.k-iterator).start ≤ l.size;
  end : (zip_first l.k-iterator).end ≡ l.size;
  placed : l.at ++ l.more ≡ padded (take ((zip_first l.k-iterator).start) (level_keys 16 0 l.symbols));
  come : to_come (zip_second l.k-iterator) ≡ drop ((zip_first l.k-iterator).start) (level_keys 16 0 l.symbols);
}
