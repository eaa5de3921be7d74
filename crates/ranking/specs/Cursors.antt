-- The keys that a cursor has before it. Cited by the contracts of private functions alone. Assumes nothing.
use Rattle.std.specs.Prelude.{ℕ, List}
use Rattle.ranking.specs.Levels.{come}
use Rattle.ranking.specs.declared.Cursor.{Cursor}

-- the keys still to come
abbrev pub to_come : Cursor → List ℕ
to_come c = come c.next c.left c.key c.z c.symbols.now
