-- The tables of a code, as far as they are filled. Cited by the contracts of private functions alone. Assumes nothing.
use Rattle.std.specs.Prelude.{List, ℕ}
use Rattle.bch.proofs.tables.CodeTables.{CodeTables}
use Rattle.bch.proofs.tables.TableLoops.{FieldFilled}
use Rattle.refusal.specs.Named.{Made}
use Rattle.refusal.specs.declared.Code as refusal

-- those of the field: logarithms and powers
pub record Fielded (c : refusal.Code) (ts : List ℕ) : Type 0 where
  pub made : Made c
  pub field : FieldFilled c.m c.t ts

-- and the roots
pub record Filled (c : refusal.Code) (ts : List ℕ) : Type 0 where
  pub fielded : Fielded c ts
  pub tables : CodeTables c.m c.t ts
