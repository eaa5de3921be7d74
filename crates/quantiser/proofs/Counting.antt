-- The count of a ladder's edges as a sum: 1 for each that is at most a level. Assumes nothing.
use Prim.Native.Nat.{ℕ, ◌+◌, ◌≤◌}
use native.Mathlib.Omega.{arith}
use mathlib.Core.Path.{◌≡◌, refl, ap, ◌∙◌}
use mathlib.Core.Bool.{Bool, true, false, cond}
use mathlib.Core.List.{List, [], ◌∷◌}
use lib.Ieee.{Float, le}
use lib.ListN.{length}
use Rattle.std.specs.List.{sum_by}
use Rattle.std.proofs.lemmas.List.Sums.{sum_by-cons}
use Rattle.take_format.specs.Samples.{edges_at_most}

abbrev pub reached : Float → Float → ℕ
reached x e = cond (le e x) 1 0

pub reached_all : (x : Float) (es : List Float) → sum_by (reached x) es ≡ edges_at_most x es
unfolding edges_at_most
reached_all x [] = refl
reached_all x (e ∷ es) = sum_by-cons (reached x) e es ∙ ap (λ (n : ℕ). reached x e + n) (reached_all x es)

-- one for each edge at most
one : (b : Bool) → cond b 1 0 ≤ 1
one true = omega arith
one false = omega arith

pub reached_most : (x : Float) (es : List Float) → sum_by (reached x) es ≤ length es
reached_most x [] = omega arith
reached_most x (e ∷ es) = omega (arith, sum_by-cons (reached x) e es, one (le e x), reached_most x es)
