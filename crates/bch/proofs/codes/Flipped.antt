-- A word flipped at a list of positions, bit by bit: each of distinct positions is flipped, and no other bit changes.
-- Assumes nothing.
use Prim.Native.Nat.{ℕ, zero, suc, ◌-◌, ◌<◌}
use native.Mathlib.Omega.{arith}
use mathlib.Core.Path.{◌≡◌, refl, ap, sym, ◌∙◌}
use mathlib.Core.Logic.{◌≢◌}
use mathlib.Core.Bool.{Bool, true, false, cond}
use mathlib.Core.List.{List, [], ◌∷◌, ◌++◌}
use borrow.Author.Tests.{ne_eqb}
use lib.Dec.{eqb}
use lib.ListN.{length, get_or, take}
use lib.Seq.{get_or-set_same, get_or-set_other, take-suc}
use Rattle.bch.specs.Words.{flip, flipped_at, is_in, Distinct}
use Rattle.bch.proofs.codes.Counting.{Compared, alike, unlike, compared, length_flip}

-- ---- one list of positions after another

-- at the positions of one list and then of another
pub flipped_append : (P Q xs : List ℕ) → flipped_at (P ++ Q) xs ≡ flipped_at Q (flipped_at P xs)
unfolding flipped_at
flipped_append [] Q xs = refl
flipped_append (p ∷ P) Q xs = flipped_append P Q (flip xs p)

-- at one position more
pub flipped_more_lem : (a : ℕ) (P xs : List ℕ) → a < length P → flipped_at (take (suc a) P) xs ≡ flip (flipped_at (take a P) xs) (get_or P a 0)
unfolding flipped_at
flipped_more_lem a P xs h = rw (take-suc P a 0 h) (flipped_append (take a P) (get_or P a 0 ∷ []) xs)

-- ---- one bit

-- what is none of a list is neither its first nor one of the others
pub is_in_cons : (p q : ℕ) (P : List ℕ) → is_in p (q ∷ P) ≡ false → (p ≡ q → ⊥) × (is_in p P ≡ false)
unfolding is_in
is_in_cons p q P = go (eqb p q) (compared p q)
  where
    go : (b : Bool) → Compared p q b → cond b true (is_in p P) ≡ false → (p ≡ q → ⊥) × (is_in p P ≡ false)
    go true (alike e) h = absurd (let z : ◌≡◌ {A = ℕ} 0 1 = cc in omega arith)
    go false (unlike n) h = (n, h)

-- what differs from each of a list is none of it
pub is_in_none : (p : ℕ) (P : List ℕ) → ((a : ℕ) → a < length P → get_or P a 0 ≢ p) → is_in p P ≡ false
unfolding is_in
is_in_none p [] h = refl
is_in_none p (q ∷ P) h = rw (ne_eqb p q (λ e. h 0 (omega arith) (sym e))) (is_in_none p P (λ a l. h (suc a) (omega arith)))

-- a position that is none of them stands as it was, ..
pub flipped_other : (p : ℕ) (P xs : List ℕ) → is_in p P ≡ false → get_or (flipped_at P xs) p 0 ≡ get_or xs p 0
unfolding flipped_at flip
flipped_other p [] xs h = refl
flipped_other p (q ∷ P) xs h =
    let r = is_in_cons p q P h in
    flipped_other p P (flip xs q) r.1 ∙ get_or-set_other xs q p (1 - get_or xs q 0) 0 r.0

-- .. and one that is, is flipped
pub flipped_one : (n p : ℕ) (P xs : List ℕ) → length xs ≡ n → Distinct n P → is_in p P ≡ true → get_or (flipped_at P xs) p 0 ≡ 1 - get_or xs p 0
unfolding flipped_at flip Distinct is_in
flipped_one n p [] xs l d h = absurd (let z : ◌≡◌ {A = ℕ} 0 1 = cc in omega arith)
flipped_one n p (q ∷ P) xs l d h = go (eqb p q) (compared p q) h (flipped_one n p P (flip xs q) (length_flip xs q ∙ l) d.2)
  where
    go : (b : Bool) → Compared p q b → cond b true (is_in p P) ≡ true → (is_in p P ≡ true → get_or (flipped_at P (flip xs q)) p 0 ≡ 1 - get_or (flip xs q) p 0)
        → get_or (flipped_at P (flip xs q)) p 0 ≡ 1 - get_or xs p 0
    go true (alike e) k i =
        rw e (flipped_other q P (flip xs q) d.1 ∙ get_or-set_same xs q (1 - get_or xs q 0) 0 (omega (arith, d.0)))
    go false (unlike n) k i = i k ∙ ap (λ (x : ℕ). 1 - x) (get_or-set_other xs q p (1 - get_or xs q 0) 0 n)

-- ---- distinct positions

elsewhere : (a q : ℕ) (P : List ℕ) → is_in q P ≡ false → a < length P → get_or P a 0 ≡ q → ⊥
elsewhere a q [] h l e = omega arith
elsewhere zero q (p ∷ P) h l e = (is_in_cons q p P h).0 (sym e)
elsewhere (suc a) q (p ∷ P) h l e = elsewhere a q P (is_in_cons q p P h).1 (omega arith) e

-- none is one of those before it
pub not_before : (n a : ℕ) (P : List ℕ) → Distinct n P → a < length P → is_in (get_or P a 0) (take a P) ≡ false
unfolding Distinct is_in
not_before n a [] d h = absurd (omega arith)
not_before n zero (p ∷ P) d h = refl
not_before n (suc a) (p ∷ P) d h = rw (ne_eqb (get_or P a 0) p (elsewhere a p P d.1 (omega arith))) (not_before n a P d.2 (omega arith))

-- each is below n
pub distinct_at : (n a : ℕ) (P : List ℕ) → Distinct n P → a < length P → get_or P a 0 < n
unfolding Distinct
distinct_at n a [] d h = absurd (omega arith)
distinct_at n zero (p ∷ P) d h = d.0
distinct_at n (suc a) (p ∷ P) d h = distinct_at n a P d.2 (omega arith)
