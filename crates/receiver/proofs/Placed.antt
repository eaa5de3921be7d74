-- Positions that are placed in a word are below its length; those of a record stand in three places. Assumes nothing.
use Prim.Native.Nat.{ℕ, suc, ◌<◌}
use native.Mathlib.Omega.{arith}
use mathlib.Core.Path.{◌≡◌, ap, ◌∙◌}
use mathlib.Core.List.{List, [], ◌∷◌}
use lib.ListN.{length, get_or, take}
use lib.Seq.{get_or-take, length-take-le}
use Rattle.bch.specs.Words.{Below}
use Rattle.bch.proofs.tables.Placing.{Placed, length_three}
use Rattle.receiver.specs.declared.flips.Flips.{Flips}

below_each : (n : ℕ) (xs : List ℕ) → ((i : ℕ) → i < length xs → get_or xs i 0 < n) → Below n xs
unfolding Below
below_each n [] h = tt
below_each n (x ∷ xs) h = (h 0 (omega arith), below_each n xs (λ i l. h (suc i) (omega arith)))

pub placed_below : (n count : ℕ) (xs : List ℕ) → Placed n count xs → Below n (take count xs)
placed_below n count xs p =
    let long = length-take-le count xs (omega (arith, p.few, p.long)) in
    below_each n (take count xs) (λ i h. let k : i < count = omega (arith, long) in rw (get_or-take count xs i 0 k) (p.inside i k))

pub flips_long : (f : Flips) → length f.at ≡ 3
flips_long f = ap length f.zeros ∙ length_three (take f.count f.at)
