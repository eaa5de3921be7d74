-- Lists whose entries are all below a bound, as bits, symbols and positions are: their parts, joins and single entries.
-- Assumes nothing.
use Prim.Native.Nat.{ℕ, zero, suc, ◌≤◌, ◌<◌}
use native.Mathlib.Omega.{arith}
use mathlib.Core.List.{List, [], ◌∷◌, ◌++◌}
use lib.ListN.{length, get_or, set, take, drop, replicate}
use Rattle.bch.specs.Words.{Below}

-- a larger bound
pub below_wider : (n k : ℕ) (xs : List ℕ) → n ≤ k → Below n xs → Below k xs
unfolding Below
below_wider n k [] l h = tt
below_wider n k (x ∷ xs) l h = (omega (arith, h.0), below_wider n k xs l h.1)

-- a joined list
pub below_append : (n : ℕ) (xs ys : List ℕ) → Below n xs → Below n ys → Below n (xs ++ ys)
unfolding Below
below_append n [] ys h k = k
below_append n (x ∷ xs) ys h k = (h.0, below_append n xs ys h.1 k)

-- the first entries
pub below_take : (n k : ℕ) (xs : List ℕ) → Below n xs → Below n (take k xs)
unfolding Below
below_take n zero xs h = tt
below_take n (suc k) [] h = tt
below_take n (suc k) (x ∷ xs) h = (h.0, below_take n k xs h.1)

-- the rest
pub below_drop : (n k : ℕ) (xs : List ℕ) → Below n xs → Below n (drop k xs)
unfolding Below
below_drop n zero xs h = h
below_drop n (suc k) [] h = tt
below_drop n (suc k) (x ∷ xs) h = below_drop n k xs h.1

-- zeros
pub below_zeros : (n k : ℕ) → Below (suc n) (replicate k 0)
unfolding Below
below_zeros n zero = tt
below_zeros n (suc k) = (omega arith, below_zeros n k)

-- one entry set
pub below_set : (n : ℕ) (xs : List ℕ) (i v : ℕ) → v < n → Below n xs → Below n (set xs i v)
unfolding Below
below_set n [] i v h b = tt
below_set n (x ∷ xs) zero v h b = (h, b.1)
below_set n (x ∷ xs) (suc i) v h b = (b.0, below_set n xs i v h b.1)

-- one entry, or 0 beyond the end
pub below_at : (n : ℕ) (xs : List ℕ) (i : ℕ) → Below (suc n) xs → get_or xs i 0 < suc n
unfolding Below
below_at n [] i b = omega arith
below_at n (x ∷ xs) zero b = b.0
below_at n (x ∷ xs) (suc i) b = below_at n xs i b.1

-- one entry before the end
pub below_in : (n i : ℕ) (xs : List ℕ) → Below n xs → i < length xs → get_or xs i 0 < n
unfolding Below
below_in n i [] b h = absurd (omega arith)
below_in n zero (x ∷ xs) b h = b.0
below_in n (suc i) (x ∷ xs) b h = below_in n i xs b.1 (omega arith)
