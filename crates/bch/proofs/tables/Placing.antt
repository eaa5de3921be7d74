-- The first t parts of a packed number, and positions found as a count and a list. Assumes nothing.
use Prim.Native.Nat.{ℕ, suc, ◌+◌, ◌%◌, ◌≤◌, ◌<◌}
use native.Mathlib.Omega.{arith}
use native.Mathlib.Numerals.{add-one}
use mathlib.Core.Path.{◌≡◌, refl, ap₂, sym, ◌∙◌}
use mathlib.Core.Bool.{Bool, true, false, cond}
use mathlib.Core.List.{List, [], ◌∷◌, ◌++◌}
use mathlib.Core.Option.{Option, none, some}
use lib.Dec.{eqb}
use lib.ListN.{length, get_or, take, drop, replicate}
use lib.Seq.{drop-cons, get_or-take, length-take-le}
use Rattle.bch.specs.Words.{Below}
use Rattle.bch.specs.Hard.{three_places}
use Rattle.bch.proofs.codes.Entries.{below_append, below_take, below_zeros, below_at}

-- the first t parts of a packed number
unfoldable pub lower_part : ℕ → ℕ → ℕ
lower_part t x = cond (eqb t 1) (x % 1024) (cond (eqb t 2) (x % 1048576) x)

-- the positions found, if any
unfoldable pub positions : Bool → ℕ → List ℕ → Option (List ℕ)
positions true count xs = some (take count xs)
positions false count xs = none

-- three places are three, however many of them are used
pub length_three : (P : List ℕ) → length (three_places P) ≡ 3
unfolding three_places
length_three [] = refl
length_three (x ∷ []) = refl
length_three (x ∷ y ∷ []) = refl
length_three (x ∷ y ∷ z ∷ P) = refl

-- and hold what is below a bound
pub three_below : (n : ℕ) (P : List ℕ) → Below (suc n) P → (i : ℕ) → get_or (three_places P) i 0 < suc n
unfolding three_places
three_below n P h i =
    below_at n (three_places P) i (below_take (suc n) 3 (P ++ replicate 3 0) (below_append (suc n) P (replicate 3 0) h (below_zeros n 3)))

-- at most three positions below n
pub record Placed (n count : ℕ) (xs : List ℕ) : Type 0 where
  pub few : count ≤ 3
  pub long : length xs ≡ 3
  pub inside : (k : ℕ) → k < count → get_or xs k 0 < n

-- the first of what is left
pub next : (xs : List ℕ) (count i : ℕ) → count ≤ length xs → i < count → drop i (take count xs) ≡ get_or xs i 0 ∷ drop (i + 1) (take count xs)
next xs count i l h =
    let k : i < length (take count xs) = omega (arith, length-take-le count xs l) in
    drop-cons (take count xs) i 0 k ∙ ap₂ (λ (x j : ℕ). x ∷ drop j (take count xs)) (get_or-take count xs i 0 h) (sym (add-one i))
