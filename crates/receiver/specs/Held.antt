-- The code and the numbers of tables. Cited by the contracts of private functions alone. Assumes nothing.
use Rattle.std.specs.Prelude.{List, ℕ}
use Rattle.refusal.specs.declared.Code as refusal
use Rattle.receiver.specs.declared.tables.Tables.{Tables}

abbrev pub code_in : Tables → refusal.Code
code_in t = t.field.code

abbrev pub numbers_in : Tables → List ℕ
numbers_in t = t.field.numbers.now
