-- The smallest reliabilities among the positions that a word does not flip, found among the weakest of all positions: where q are
-- flipped, the first d in the weakest order hold the d - q of them that are asked for. Assumes nothing.
use Prim.Native.Nat.{ℕ, zero, suc, ◌+◌, ◌-◌, ◌≤◌, ◌<◌}
use native.Mathlib.Omega.{arith}
use native.Mathlib.Decide.{dec_le}
use mathlib.Core.Path.{◌≡◌, refl, sym, ap, ◌∙◌}
use mathlib.Core.Bool.{Bool, true, false, not, cond}
use mathlib.Core.List.{List, [], ◌∷◌, map}
use borrow.Author.Tests.{leb-true}
use lib.Dec.{eqb, leb}
use lib.ListN.{length, get_or, take}
use Rattle.bch.specs.Words.{flips}
use Rattle.chase.specs.Soft.{Ranked, insert_ranked, rank, sum, smallest_sum, unflipped, allowance}
use Rattle.chase.proofs.ranking.Ranking.{All, all_map, Before, Ordered, ordered}
use Rattle.chase.proofs.ranking.Levels.{insert_first}

-- the sum of the first k reliabilities of a list of positions, leaving out those that a test tells to be flipped
unfoldable pub skipping_sum : (ℕ → Bool) → ℕ → List Ranked → ℕ
skipping_sum f zero rs = 0
skipping_sum f (suc k) [] = 0
skipping_sum f (suc k) (r ∷ rs) = cond (f r.at) (skipping_sum f (suc k) rs) (r.z + skipping_sum f k rs)

-- a test tells in which positions, from `at` on, two words differ
abbrev pub TellsFrom : ℕ → (ℕ → Bool) → List ℕ → List ℕ → Type 0
TellsFrom at f xs ys = (i : ℕ) → i < length xs → f (at + i) ≡ not (eqb (get_or xs i 0) (get_or ys i 0))

-- a test tells in which positions two words differ
abbrev pub Tells : (ℕ → Bool) → List ℕ → List ℕ → Type 0
Tells f xs ys = (i : ℕ) → i < length xs → f i ≡ not (eqb (get_or xs i 0) (get_or ys i 0))

tells_next : (at : ℕ) (f : ℕ → Bool) (x y : ℕ) (xs ys : List ℕ) → TellsFrom at f (x ∷ xs) (y ∷ ys) → TellsFrom (suc at) f xs ys
tells_next at f x y xs ys h i l = let e : suc at + i ≡ at + suc i = omega arith in rw e (h (suc i) (omega arith))

tells_here : (at : ℕ) (f : ℕ → Bool) (x y : ℕ) (xs ys : List ℕ) → TellsFrom at f (x ∷ xs) (y ∷ ys) → f at ≡ not (eqb x y)
tells_here at f x y xs ys h = let e : at ≡ at + 0 = omega arith in ap f e ∙ h 0 (omega arith)

-- ---- the positions that are left

left : (ℕ → Bool) → List Ranked → List Ranked
left f [] = []
left f (r ∷ rs) = cond (f r.at) (left f rs) (r ∷ left f rs)

-- the sum is of those that are left
skipping_left : (f : ℕ → Bool) (k : ℕ) (rs : List Ranked) → skipping_sum f k rs ≡ sum (take k (map (λ (r : Ranked). r.z) (left f rs)))
unfolding skipping_sum left sum
skipping_left f zero rs = refl
skipping_left f (suc k) [] = refl
skipping_left f (suc k) (r ∷ rs) = go (f r.at) (skipping_left f (suc k) rs) (skipping_left f k rs)
  where
    go : (b : Bool) → skipping_sum f (suc k) rs ≡ sum (take (suc k) (map (λ (r : Ranked). r.z) (left f rs)))
        → skipping_sum f k rs ≡ sum (take k (map (λ (r : Ranked). r.z) (left f rs)))
        → cond b (skipping_sum f (suc k) rs) (r.z + skipping_sum f k rs)
        ≡ sum (take (suc k) (map (λ (r : Ranked). r.z) (cond b (left f rs) (r ∷ left f rs))))
    go true i j = i
    go false i j = ap (λ (x : ℕ). r.z + x) j

-- how many are flipped
flipped : (ℕ → Bool) → List Ranked → ℕ
flipped f [] = 0
flipped f (r ∷ rs) = cond (f r.at) 1 0 + flipped f rs

-- the first d are enough, where no more than d - k are flipped
skipping_first : (f : ℕ → Bool) (k d : ℕ) (rs : List Ranked) → k + flipped f rs ≤ d → skipping_sum f k (take d rs) ≡ skipping_sum f k rs
unfolding skipping_sum flipped
skipping_first f zero d rs h = refl
skipping_first f (suc k) zero rs h = absurd (omega arith)
skipping_first f (suc k) (suc d) [] h = refl
skipping_first f (suc k) (suc d) (r ∷ rs) h = go (f r.at) h (skipping_first f (suc k) d rs) (skipping_first f k d rs)
  where
    go : (b : Bool) → suc k + (cond b 1 0 + flipped f rs) ≤ suc d
        → (suc k + flipped f rs ≤ d → skipping_sum f (suc k) (take d rs) ≡ skipping_sum f (suc k) rs)
        → (k + flipped f rs ≤ d → skipping_sum f k (take d rs) ≡ skipping_sum f k rs)
        → cond b (skipping_sum f (suc k) (take d rs)) (r.z + skipping_sum f k (take d rs))
        ≡ cond b (skipping_sum f (suc k) rs) (r.z + skipping_sum f k rs)
    go true h i j = i (omega arith)
    go false h i j = let e : k + flipped f rs ≤ d = omega arith in ap (λ (x : ℕ). r.z + x) (j e)

-- ---- one position more

flipped_in_lem : (f : ℕ → Bool) (r : Ranked) (rs : List Ranked) → flipped f (insert_ranked r rs) ≡ cond (f r.at) 1 0 + flipped f rs
unfolding flipped insert_ranked
flipped_in_lem f r [] = refl
flipped_in_lem f r (s ∷ rs) = go (leb r.z s.z) (flipped_in_lem f r rs)
  where
    go : (b : Bool) → flipped f (insert_ranked r rs) ≡ cond (f r.at) 1 0 + flipped f rs
        → flipped f (cond b (r ∷ s ∷ rs) (s ∷ insert_ranked r rs)) ≡ cond (f r.at) 1 0 + (cond (f s.at) 1 0 + flipped f rs)
    go true i = refl
    go false i = omega arith

left_flipped : (f : ℕ → Bool) (r : Ranked) (rs : List Ranked) → f r.at ≡ true → left f (insert_ranked r rs) ≡ left f rs
unfolding left insert_ranked
left_flipped f r [] h = rw h refl
left_flipped f r (s ∷ rs) h = go (leb r.z s.z) (left_flipped f r rs h)
  where
    go : (b : Bool) → left f (insert_ranked r rs) ≡ left f rs
        → left f (cond b (r ∷ s ∷ rs) (s ∷ insert_ranked r rs)) ≡ cond (f s.at) (left f rs) (s ∷ left f rs)
    go true i = rw h refl
    go false i = ap (λ (l : List Ranked). cond (f s.at) l (s ∷ l)) i

all_left : (P : Ranked → Type 0) (f : ℕ → Bool) (rs : List Ranked) → All P rs → All P (left f rs)
unfolding All left
all_left P f [] a = tt
all_left P f (r ∷ rs) a = go (f r.at) (all_left P f rs a.1)
  where
    go : (b : Bool) → All P (left f rs) → All P (cond b (left f rs) (r ∷ left f rs))
    go true i = i
    go false i = (a.0, i)

left_kept : (f : ℕ → Bool) (r : Ranked) (rs : List Ranked) → f r.at ≡ false → Ordered rs → left f (insert_ranked r rs) ≡ insert_ranked r (left f rs)
unfolding left insert_ranked Ordered
left_kept f r [] h o = rw h refl
left_kept f r (s ∷ rs) h o = go (leb r.z s.z) refl (left_kept f r rs h o.1)
  where
    go : (b : Bool) → leb r.z s.z ≡ b → left f (insert_ranked r rs) ≡ insert_ranked r (left f rs)
        → left f (cond b (r ∷ s ∷ rs) (s ∷ insert_ranked r rs)) ≡ insert_ranked r (cond (f s.at) (left f rs) (s ∷ left f rs))
    go true e i =
        let le : r.z ≤ s.z = leb-true _ _ e in
        let a : All (λ v. r.z ≤ v.z) (s ∷ rs) = (le, all_map (Before s) (λ v. r.z ≤ v.z) (λ v b. omega (arith, b.weaker)) rs o.0) in
        rw h (sym (insert_first r (left f (s ∷ rs)) (all_left (λ v. r.z ≤ v.z) f (s ∷ rs) a)))
    go false e i = go₂ (f s.at)
      where
        go₂ : (b : Bool) → cond b (left f (insert_ranked r rs)) (s ∷ left f (insert_ranked r rs)) ≡ insert_ranked r (cond b (left f rs) (s ∷ left f rs))
        go₂ true = i
        go₂ false = rw e (ap (λ (l : List Ranked). s ∷ l) i)

-- ---- the reliabilities alone

put_in : ℕ → List ℕ → List ℕ
put_in z [] = z ∷ []
put_in z (y ∷ ys) = cond (leb z y) (z ∷ y ∷ ys) (y ∷ put_in z ys)

insert_z : (r : Ranked) (rs : List Ranked) → map (λ (r : Ranked). r.z) (insert_ranked r rs) ≡ put_in r.z (map (λ (r : Ranked). r.z) rs)
unfolding insert_ranked put_in
insert_z r [] = refl
insert_z r (s ∷ rs) = go (leb r.z s.z) (insert_z r rs)
  where
    go : (b : Bool) → map (λ (r : Ranked). r.z) (insert_ranked r rs) ≡ put_in r.z (map (λ (r : Ranked). r.z) rs)
        → map (λ (r : Ranked). r.z) (cond b (r ∷ s ∷ rs) (s ∷ insert_ranked r rs))
        ≡ cond b (r.z ∷ s.z ∷ map (λ (r : Ranked). r.z) rs) (s.z ∷ put_in r.z (map (λ (r : Ranked). r.z) rs))
    go true i = refl
    go false i = ap (λ (l : List ℕ). s.z ∷ l) i

-- those of the positions left, in the weakest order of all, are those of the positions left in their own weakest order
left_rank : (at to : ℕ) (f : ℕ → Bool) (zs xs ys : List ℕ) → length xs ≡ length zs → length ys ≡ length zs → TellsFrom at f xs ys
    → map (λ (r : Ranked). r.z) (left f (rank at zs)) ≡ map (λ (r : Ranked). r.z) (rank to (unflipped zs xs ys))
unfolding rank unflipped left
left_rank at to f [] xs ys l m h = refl
left_rank at to f (z ∷ zs) [] ys l m h = absurd (omega arith)
left_rank at to f (z ∷ zs) (x ∷ xs) [] l m h = absurd (omega arith)
left_rank at to f (z ∷ zs) (x ∷ xs) (y ∷ ys) l m h =
    go (eqb x y) (tells_here at f x y xs ys h)
    (λ to. left_rank (suc at) to f zs xs ys (omega arith) (omega arith) (tells_next at f x y xs ys h))
  where
    r : Ranked
    r = record { z = z; at = at }

    s : Ranked
    s = record { z = z; at = to }

    go : (b : Bool) → f at ≡ not b
        → ((to : ℕ) → map (λ (r : Ranked). r.z) (left f (rank (suc at) zs)) ≡ map (λ (r : Ranked). r.z) (rank to (unflipped zs xs ys)))
        → map (λ (r : Ranked). r.z) (left f (insert_ranked r (rank (suc at) zs)))
        ≡ map (λ (r : Ranked). r.z) (rank to (cond b (z ∷ unflipped zs xs ys) (unflipped zs xs ys)))
    go true e i =
        ap (map (λ (r : Ranked). r.z)) (left_kept f r (rank (suc at) zs) e (ordered (suc at) zs))
        ∙ insert_z r (left f (rank (suc at) zs))
        ∙ ap (put_in z) (i (suc to))
        ∙ sym (insert_z s (rank (suc to) (unflipped zs xs ys)))
    go false e i = ap (map (λ (r : Ranked). r.z)) (left_flipped f r (rank (suc at) zs) e) ∙ i to

flipped_rank : (at : ℕ) (f : ℕ → Bool) (zs xs ys : List ℕ) → length xs ≡ length zs → length ys ≡ length zs → TellsFrom at f xs ys
    → flipped f (rank at zs) ≡ flips xs ys
unfolding rank flips flipped
flipped_rank at f [] [] ys l m h = refl
flipped_rank at f [] (x ∷ xs) ys l m h = absurd (omega arith)
flipped_rank at f (z ∷ zs) [] ys l m h = absurd (omega arith)
flipped_rank at f (z ∷ zs) (x ∷ xs) [] l m h = absurd (omega arith)
flipped_rank at f (z ∷ zs) (x ∷ xs) (y ∷ ys) l m h =
    flipped_in_lem f (record { z = z; at = at }) (rank (suc at) zs)
    ∙ go (eqb x y) (tells_here at f x y xs ys h) (flipped_rank (suc at) f zs xs ys (omega arith) (omega arith) (tells_next at f x y xs ys h))
  where
    go : (b : Bool) → f at ≡ not b → flipped f (rank (suc at) zs) ≡ flips xs ys
        → cond (f at) 1 0 + flipped f (rank (suc at) zs) ≡ cond b 0 1 + flips xs ys
    go true e i = rw e (ap (λ (k : ℕ). 0 + k) i)
    go false e i = rw e (ap (λ (k : ℕ). 1 + k) i)

-- ---- the law

-- A of a word xs against ys is found among the d weakest positions: the first d - q that are not flipped
pub allowance_first : (d : ℕ) (f : ℕ → Bool) (zs xs ys : List ℕ) → length xs ≡ length zs → length ys ≡ length zs → Tells f xs ys
    → skipping_sum f (d - flips xs ys) (take d (rank 0 zs)) ≡ allowance d zs xs ys
unfolding allowance smallest_sum
allowance_first d f zs xs ys l m h = go (dec_le (flips xs ys) d)
  where
    from : TellsFrom 0 f xs ys
    from i k = let e : 0 + i ≡ i = omega arith in rw e (h i k)

    go : Dec (flips xs ys ≤ d) → skipping_sum f (d - flips xs ys) (take d (rank 0 zs))
        ≡ sum (take (d - flips xs ys) (map (λ (r : Ranked). r.z) (rank 0 (unflipped zs xs ys))))
    go (yes k) =
        skipping_first f (d - flips xs ys) d (rank 0 zs) (omega (arith, flipped_rank 0 f zs xs ys l m from))
        ∙ skipping_left f (d - flips xs ys) (rank 0 zs)
        ∙ ap (λ (vs : List ℕ). sum (take (d - flips xs ys) vs)) (left_rank 0 0 f zs xs ys l m from)
    go (no k) = let q : d - flips xs ys ≡ 0 = omega arith in rw q (skipping_left f 0 (take d (rank 0 zs)))
