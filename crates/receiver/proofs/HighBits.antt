-- The bits that stand so high in bytes: as many, each read off its byte; 0 high they are the bytes, and 4 high the hard bits of symbols.
-- Assumes nothing.
use Prim.Native.Nat.{ℕ, ◌/◌, ◌^◌}
use native.Mathlib.Nat.{zero-div, div-one}
use mathlib.Core.Path.{◌≡◌, refl, ap, ap₂, sym, ◌∙◌}
use mathlib.Core.List.{List, [], ◌∷◌}
use lib.ListN.{length, get_or, length-map, get_or-map}
use Rattle.chase.specs.Soft.{hard_bits}
use Rattle.receiver.specs.Located.{bits_at}

pub bits_long : (k : ℕ) (xs : List ℕ) → length (bits_at k xs) ≡ length xs
bits_long k xs = length-map xs (λ (x : ℕ). x / 2 ^ k)

pub bit_at : (k : ℕ) (xs : List ℕ) (i : ℕ) → get_or (bits_at k xs) i 0 ≡ get_or xs i 0 / 2 ^ k
bit_at k xs i = ap (λ (d : ℕ). get_or (bits_at k xs) i d) (sym (zero-div (2 ^ k))) ∙ get_or-map (λ (x : ℕ). x / 2 ^ k) xs i 0

pub low_bits : (xs : List ℕ) → bits_at 0 xs ≡ xs
low_bits [] = refl
low_bits (x ∷ xs) = ap₂ (λ (y : ℕ) (ys : List ℕ). y ∷ ys) (div-one x) (low_bits xs)

pub symbol_bits : (ss : List ℕ) → bits_at 4 ss ≡ hard_bits ss
unfolding hard_bits
symbol_bits ss = refl
