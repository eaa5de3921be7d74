-- The levels passed have no more symbols. Assumes nothing.
use Prim.Native.Nat.{suc, ◌-◌, ◌≤◌}
use mathlib.Core.Path.{◌≡◌}
use mathlib.Core.List.{◌++◌}
use Rattle.ranking.specs.Levels.{level_from, level_keys}
use Rattle.ranking.specs.Cursors.{to_come}
use Rattle.ranking.proofs.Cursor.onward.Given as goal

abbrev pub invariant-loop-z : goal.invariant-loop-z
invariant-loop-z l = record {
  level : l.z ≤ 16;
  same : l.self ≡ l.fn.self;
  come : to_come l.fn.self ≡ level_from l.z l.from l.fn.self.symbols.now ++ level_keys (15 - l.z) (suc l.z) l.fn.self.symbols.now;
}

abbrev pub decreases-loop-z : goal.decreases-loop-z
decreases-loop-z l = 16 - l.z
