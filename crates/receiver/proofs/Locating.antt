-- What the locator's functions rest on: the steps by logarithms, and how large what is read in the tables is. Assumes nothing.
use Rattle.std.proofs.lemmas.Nat.{xor_lt}
use Rattle.bch.proofs.decoding.Elements.{zero_is, zero_not}
use Rattle.bch.proofs.logarithms.LogSteps.{one_lost, one_found, two_lost, two_found, three_lost, three_found, pair_lost, pair_found}
use Rattle.bch.proofs.logarithms.LogSteps.{trio_first, trio_second, trio_third, trio_all, cubes_lost, cubes_odd, cubes_found, kappa_lost, kappa_found}
use Rattle.bch.proofs.logarithms.LogSteps.{locate_none, locate_one, locate_single, locate_two_zero, locate_two, locate_flat, locate_cubes, locate_kappa}
use Rattle.receiver.proofs.Powers.{low_lt, both_lt, parts_lt, part_not}

pub ruleset placed = (one_lost, one_found, two_lost, two_found, three_lost, three_found, zero_is, zero_not)

pub ruleset solved = (pair_lost, pair_found, trio_first, trio_second, trio_third, trio_all, cubes_lost, cubes_odd, cubes_found, kappa_lost, kappa_found)

pub ruleset branches = (locate_none, locate_one, locate_single, locate_two_zero, locate_two, locate_flat, locate_cubes, locate_kappa)

pub ruleset small = (xor_lt, low_lt, both_lt, parts_lt, part_not)

pub ruleset steps = (placed, solved, branches, small)
