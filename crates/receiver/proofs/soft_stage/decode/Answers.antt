-- There is room for the tables. Assumes nothing.
use native.Mathlib.Omega.{arith}
use Rattle.galois.proofs.FieldTables.{zeros}
use Rattle.receiver.proofs.soft_stage.decode.Goals as goal

pub decode_in-requires-clause-made : goal.decode_in-requires-clause-made
decode_in-requires-clause-made c = (c.requires.0, omega (arith, c.requires.0.is_powers), zeros 208)

pub decode_in-requires-in-65-to-256-clause-made : goal.decode_in-requires-in-65-to-256-clause-made
decode_in-requires-in-65-to-256-clause-made c = (c.requires.0, omega (arith, c.requires.0.is_powers), zeros 784)

pub decode_in-requires-in_default-clause-made : goal.decode_in-requires-in_default-clause-made
decode_in-requires-in_default-clause-made c = (c.requires.0, omega (arith, c.requires.0.size_most), zeros 3088)
