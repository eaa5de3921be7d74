-- Tables that the decoder by κ asks for are to be had: a solution by search, below 2^m, makes `quad`, `first` and `second`
-- what they are asked to be. Assumes nothing.
use Prim.Native.Nat.{ℕ, zero, suc, ◌+◌, ◌-◌, ◌^◌, ◌≤◌, ◌<◌}
use native.Mathlib.Omega.{arith}
use native.Mathlib.Decide.{ℕ_discrete}
use mathlib.Core.Path.{◌≡◌, refl, sym, ap, ◌∙◌}
use mathlib.Core.Logic.{◌≢◌}
use mathlib.Core.Bool.{Bool, true, false, cond}
use borrow.Author.Tests.{eqb-true, eqb-false, ne_eqb}
use lib.Bits.{bit_xor}
use lib.Dec.{eqb}
use lib.Pow.{pow_pos}
use Rattle.bch.specs.Locator.{square}
use Rattle.bch.proofs.decoding.Elements.{Quadratics}
use Rattle.bch.proofs.decoding.KappaDecoder.{kappa_at, Solves, Kappas}

-- the greatest w below n with f w = c, or 0
unfoldable pub solution : ℕ → (ℕ → ℕ) → ℕ → ℕ
solution zero f c = 0
solution (suc n) f c = elim (eqb (f n) c) [ true ↦ n | false ↦ solution n f c ]

-- it is below n, ..
solution_lt : (n : ℕ) (f : ℕ → ℕ) (c : ℕ) → 0 < n → solution n f c < n
unfolding solution
solution_lt zero f c h = absurd (omega arith)
solution_lt (suc zero) f c h = go (eqb (f 0) c)
  where
    go : (b : Bool) → (elim b as (λ _. ℕ) [ true ↦ 0 | false ↦ 0 ]) < 1
    go true = omega arith
    go false = omega arith
solution_lt (suc (suc n)) f c h = go (eqb (f (suc n)) c) (solution_lt (suc n) f c (omega arith))
  where
    go : (b : Bool) → solution (suc n) f c < suc n → (elim b as (λ _. ℕ) [ true ↦ suc n | false ↦ solution (suc n) f c ]) < suc (suc n)
    go true i = omega arith
    go false i = omega arith

-- .. and where there is a solution, it is one
pub solution_is : (n : ℕ) (f : ℕ → ℕ) (c w : ℕ) → w < n → f w ≡ c → (solution n f c < n) × (f (solution n f c) ≡ c)
unfolding solution
solution_is zero f c w h e = absurd (omega arith)
solution_is (suc n) f c w h e = go (eqb (f n) c) refl (solution_is n f c w) (ℕ_discrete w n)
  where
    go : (b : Bool) → eqb (f n) c ≡ b → (w < n → f w ≡ c → (solution n f c < n) × (f (solution n f c) ≡ c)) → Dec (w ≡ n)
        → let v = elim b as (λ _. ℕ) [ true ↦ n | false ↦ solution n f c ] in (v < suc n) × (f v ≡ c)
    go true k i d = (omega arith, eqb-true (f n) c k)
    go false k i (yes q) = absurd (eqb-false (f n) c k (ap f (sym q) ∙ e))
    go false k i (no q) = let r = i (omega arith) e in (omega (arith, r.0), r.1)

-- a solution v of v² + v = c
unfoldable pub quad_of : ℕ → ℕ → ℕ
unfolding solution
quad_of m c = solution (2 ^ m) (λ w. bit_xor (square m w) w) c

-- it makes a table of quadratics
pub quadratics : (m : ℕ) → Quadratics m (quad_of m)
unfolding quad_of
quadratics m =
    record {
      below = λ c h. solution_lt (2 ^ m) (λ x. bit_xor (square m x) x) c (pow_pos m);
      solves = λ w h. (solution_is (2 ^ m) (λ x. bit_xor (square m x) x) (bit_xor (square m w) w) w h refl).1;
    }

-- a solution v of v³ = k·(v + 1) but 0 and 1
unfoldable pub first_of : ℕ → ℕ → ℕ
unfolding solution
first_of m k = solution (2 ^ m - 2) (λ w. kappa_at m (w + 2)) k + 2

-- another one: for the first the search sees another value than k
unfoldable pub second_of : ℕ → ℕ → ℕ
unfolding solution first_of
second_of m k = let v = first_of m k in solution (2 ^ m - 2) (λ w. cond (eqb (w + 2) v) (k + 1) (kappa_at m (w + 2))) k + 2

-- the two make tables of κ
pub kappa_tables : (m : ℕ) → Kappas m (first_of m) (second_of m)
unfolding first_of second_of
kappa_tables m = record { one = one; two = λ w h l n. (two w h l n).0; apart = λ w h l n. (two w h l n).1 }
  where
    one : (w : ℕ) → 2 ≤ w → w < 2 ^ m → Solves m (kappa_at m w) (first_of m (kappa_at m w))
    one w h l =
        let e : w - 2 + 2 ≡ w = omega arith in
        let (b, s) = solution_is (2 ^ m - 2) (λ x. kappa_at m (x + 2)) (kappa_at m w) (w - 2) (omega arith) (ap (kappa_at m) e) in
        record { least = omega arith; below = omega arith; at = s }

    two : (w : ℕ) → 2 ≤ w → w < 2 ^ m → w ≢ first_of m (kappa_at m w)
        → Solves m (kappa_at m w) (second_of m (kappa_at m w)) × (second_of m (kappa_at m w) ≢ first_of m (kappa_at m w))
    two w h l n =
        let e : w - 2 + 2 ≡ w = omega arith in
        let other : cond (eqb (w - 2 + 2) v) (k + 1) (kappa_at m (w - 2 + 2)) ≡ k =
        ap (λ (b : Bool). cond b (k + 1) (kappa_at m (w - 2 + 2))) (ne_eqb (w - 2 + 2) v (λ q. n (sym e ∙ q))) ∙ ap (kappa_at m) e in
        let (b, s) = solution_is (2 ^ m - 2) f k (w - 2) (omega arith) other in
        go (solution (2 ^ m - 2) f k) b (eqb (solution (2 ^ m - 2) f k + 2) v) refl s
      where
        k : ℕ
        k = kappa_at m w

        v : ℕ
        v = first_of m k

        f : ℕ → ℕ
        f x = cond (eqb (x + 2) v) (k + 1) (kappa_at m (x + 2))

        go : (r : ℕ) → r < 2 ^ m - 2 → (b : Bool) → eqb (r + 2) v ≡ b → cond b (k + 1) (kappa_at m (r + 2)) ≡ k
            → Solves m k (r + 2) × (r + 2 ≢ v)
        go r l true q s = absurd (omega arith)
        go r l false q s = (record { least = omega arith; below = omega arith; at = s }, eqb-false (r + 2) v q)
