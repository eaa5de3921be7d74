-- The tables that are filled here are those of the code. Assumes nothing.
use native.Mathlib.Omega.{arith}
use Rattle.galois.proofs.FieldTables.{zeros}
use Rattle.receiver.proofs.all_words.decode.Goals as goal

pub filled-requires : goal.filled-requires
filled-requires c = let made = c.requires.made.0 in (made, omega (arith, made.size_most), zeros 3088)
