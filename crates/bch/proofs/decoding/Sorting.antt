-- Sorting a list of positions: a list with the members of a rising list, and no more of them, is sorted to that list; a list
-- that is sorted to a rising one has distinct members; and its sums do not depend on the order. Assumes nothing.
use Prim.Native.Nat.{ℕ, suc, ◌*◌, ◌≤◌, ◌<◌, min, max}
use native.Mathlib.Omega.{arith}
use mathlib.Core.Path.{◌≡◌, refl, sym, ap, ap₂, ◌∙◌}
use mathlib.Core.Bool.{Bool, true, false, cond}
use mathlib.Core.List.{List, [], ◌∷◌, Memᴰ}
use borrow.Author.Tests.{leb-true, leb-false, le-leb, lt-leb, ne_eqb}
use lib.Dec.{leb, eqb}
use lib.Bits.{bit_xor}
use lib.ListN.{length}
use Rattle.galois.specs.Field.{alpha}
use Rattle.galois.proofs.Xor.{xor_left_comm}
use Rattle.bch.specs.Words.{Below, is_in, Distinct}
use Rattle.bch.proofs.codes.Positions.{Rising, rising_member, rising_from, sum_at}

-- ---- the definitions

-- a is put before the first of the list that is not smaller
unfoldable pub insert : ℕ → List ℕ → List ℕ
insert a [] = a ∷ []
insert a (b ∷ l) = cond (leb a b) (a ∷ b ∷ l) (b ∷ insert a l)

-- the list in order
unfoldable pub sorted : List ℕ → List ℕ
unfolding insert
sorted [] = []
sorted (a ∷ l) = insert a (sorted l)

-- ---- sorting

length_insert : (a : ℕ) (l : List ℕ) → length (insert a l) ≡ suc (length l)
unfolding insert
length_insert a [] = refl
length_insert a (b ∷ l) = go (leb a b) (length_insert a l)
  where
    go : (c : Bool) → length (insert a l) ≡ suc (length l) → length (cond c (a ∷ b ∷ l) (b ∷ insert a l)) ≡ suc (suc (length l))
    go true e = refl
    go false e = ap suc e

-- sorting keeps the length
pub length_sorted : (l : List ℕ) → length (sorted l) ≡ length l
unfolding sorted
length_sorted [] = refl
length_sorted (a ∷ l) = length_insert a (sorted l) ∙ ap suc (length_sorted l)

insert_low : (a b : ℕ) (l : List ℕ) → a ≤ b → insert a (b ∷ l) ≡ a ∷ b ∷ l
unfolding insert
insert_low a b l h = ap (λ (c : Bool). cond c (a ∷ b ∷ l) (b ∷ insert a l)) (le-leb a b h)

insert_high : (a b : ℕ) (l : List ℕ) → b < a → insert a (b ∷ l) ≡ b ∷ insert a l
unfolding insert
insert_high a b l h = ap (λ (c : Bool). cond c (a ∷ b ∷ l) (b ∷ insert a l)) (lt-leb a b h)

insert_two : (a b : ℕ) (l : List ℕ) → a ≤ b → insert a l ≡ a ∷ l → insert b l ≡ b ∷ l → insert a (insert b l) ≡ insert b (insert a l)
insert_two a b l h ea eb = ap (insert a) eb ∙ insert_low a b l h ∙ sym (ap (insert b) ea ∙ go (leb b a) refl)
  where
    go : (c : Bool) → leb b a ≡ c → insert b (a ∷ l) ≡ a ∷ b ∷ l
    go true e =
        let k : b ≤ a = leb-true b a e in
        let s : a ≡ b = omega arith in
        insert_low b a l k ∙ cc
    go false e = insert_high b a l (leb-false b a e) ∙ ap (λ (x : List ℕ). a ∷ x) eb

insert_comm : (a b : ℕ) (l : List ℕ) → insert a (insert b l) ≡ insert b (insert a l)
unfolding insert
insert_comm a b [] = go (leb a b) refl (leb b a) refl
  where
    go : (c : Bool) → leb a b ≡ c → (d : Bool) → leb b a ≡ d → cond c (a ∷ b ∷ []) (b ∷ a ∷ []) ≡ cond d (b ∷ a ∷ []) (a ∷ b ∷ [])
    go true e true f =
        let h : a ≤ b = leb-true a b e in
        let k : b ≤ a = leb-true b a f in
        let s : a ≡ b = omega arith in
        cc
    go true e false f = refl
    go false e true f = refl
    go false e false f = absurd (omega (arith, leb-false a b e, leb-false b a f))
insert_comm a b (c ∷ l) = go (leb a c) refl (leb b c) refl (leb a b) refl (insert_comm a b l)
  where
    go : (x : Bool) → leb a c ≡ x → (y : Bool) → leb b c ≡ y → (z : Bool) → leb a b ≡ z → insert a (insert b l) ≡ insert b (insert a l)
        → insert a (insert b (c ∷ l)) ≡ insert b (insert a (c ∷ l))
    go true e true f true k i = insert_two a b (c ∷ l) (leb-true a b k) (insert_low a c l (leb-true a c e)) (insert_low b c l (leb-true b c f))
    go true e true f false k i =
        let h : b < a = leb-false a b k in
        sym (insert_two b a (c ∷ l) (omega arith) (insert_low b c l (leb-true b c f)) (insert_low a c l (leb-true a c e)))
    go true e false f z k i =
        let ha : a ≤ c = leb-true a c e in
        let hb : c < b = leb-false b c f in
        ap (insert a) (insert_high b c l hb) ∙ insert_low a c (insert b l) ha
        ∙ sym (ap (insert b) (insert_low a c l ha) ∙ insert_high b a (c ∷ l) (omega arith) ∙ ap (λ (x : List ℕ). a ∷ x) (insert_high b c l hb))
    go false e true f z k i =
        let ha : c < a = leb-false a c e in
        let hb : b ≤ c = leb-true b c f in
        ap (insert a) (insert_low b c l hb) ∙ insert_high a b (c ∷ l) (omega arith) ∙ ap (λ (x : List ℕ). b ∷ x) (insert_high a c l ha)
        ∙ sym (ap (insert b) (insert_high a c l ha) ∙ insert_low b c (insert a l) hb)
    go false e false f z k i =
        let ha : c < a = leb-false a c e in
        let hb : c < b = leb-false b c f in
        ap (insert a) (insert_high b c l hb) ∙ insert_high a c (insert b l) ha ∙ ap (λ (x : List ℕ). c ∷ x) i
        ∙ sym (ap (insert b) (insert_high a c l ha) ∙ insert_high b c (insert a l) hb)

-- two numbers in order, ..
pub sorted_two : (x y : ℕ) → sorted (x ∷ y ∷ []) ≡ min x y ∷ max x y ∷ []
unfolding sorted insert
sorted_two x y = go (leb x y) refl
  where
    go : (b : Bool) → leb x y ≡ b → cond b (x ∷ y ∷ []) (y ∷ x ∷ []) ≡ min x y ∷ max x y ∷ []
    go true e =
        let h : x ≤ y = leb-true x y e in
        let p : x ≡ min x y = omega arith in
        let q : y ≡ max x y = omega arith in
        ap₂ (λ (u v : ℕ). u ∷ v ∷ []) p q
    go false e =
        let h : y < x = leb-false x y e in
        let p : y ≡ min x y = omega arith in
        let q : x ≡ max x y = omega arith in
        ap₂ (λ (u v : ℕ). u ∷ v ∷ []) p q

-- .. a third put to them, ..
insert_pair : (x a b : ℕ) → a ≤ b → insert x (a ∷ b ∷ []) ≡ min x a ∷ min (max x a) b ∷ max (max x a) b ∷ []
unfolding insert sorted
insert_pair x a b l = go (leb x a) refl
  where
    three : {u v w u' v' w' : ℕ} → u ≡ u' → v ≡ v' → w ≡ w' → u ∷ v ∷ w ∷ [] ≡ u' ∷ v' ∷ w' ∷ []
    three p q r = cc

    go : (c : Bool) → leb x a ≡ c → cond c (x ∷ a ∷ b ∷ []) (a ∷ insert x (b ∷ [])) ≡ min x a ∷ min (max x a) b ∷ max (max x a) b ∷ []
    go true e =
        let h : x ≤ a = leb-true x a e in
        let p : x ≡ min x a = omega arith in
        let q : a ≡ min (max x a) b = omega arith in
        let r : b ≡ max (max x a) b = omega arith in
        three p q r
    go false e =
        let h : a < x = leb-false x a e in
        let p : a ≡ min x a = omega arith in
        let q : min x b ≡ min (max x a) b = omega arith in
        let r : max x b ≡ max (max x a) b = omega arith in
        ap (λ (k : List ℕ). a ∷ k) (sorted_two x b) ∙ three p q r

-- .. and three
pub sorted_three : (x y z : ℕ)
    → sorted (x ∷ y ∷ z ∷ []) ≡ min x (min y z) ∷ min (max x (min y z)) (max y z) ∷ max (max x (min y z)) (max y z) ∷ []
unfolding sorted
sorted_three x y z = ap (insert x) (sorted_two y z) ∙ insert_pair x (min y z) (max y z) (omega arith)

-- a list without one of its members
record Without (p : ℕ) (Q : List ℕ) : Type 0 where
  rest : List ℕ
  long : length Q ≡ suc (length rest)
  again : sorted Q ≡ insert p (sorted rest)
  kept : (x : ℕ) → (x ≡ p → ⊥) → Memᴰ x Q → Memᴰ x rest

without : (p : ℕ) (Q : List ℕ) → Memᴰ p Q → Without p Q
unfolding sorted
without p [] x' = elim x' [ ]
without p (q ∷ Q) (Memᴰ.head e) =
    record { rest = Q; long = refl; again = ap (λ (x : ℕ). insert x (sorted Q)) (sym e); kept = λ x n k. pick x n k }
  where
    pick : (x : ℕ) → (x ≡ p → ⊥) → Memᴰ x (q ∷ Q) → Memᴰ x Q
    pick x n (Memᴰ.head f) = absurd (n (f ∙ sym e))
    pick x n (Memᴰ.tail k) = k
without p (q ∷ Q) (Memᴰ.tail i) = go (without p Q i)
  where
    go : Without p Q → Without p (q ∷ Q)
    go w =
        record {
          rest = q ∷ w.rest;
          long = ap suc w.long;
          again = ap (insert q) w.again ∙ insert_comm q p (sorted w.rest);
          kept = λ x n k. pick x n k;
        }
      where
        pick : (x : ℕ) → (x ≡ p → ⊥) → Memᴰ x (q ∷ Q) → Memᴰ x (q ∷ w.rest)
        pick x n (Memᴰ.head f) = Memᴰ.head f
        pick x n (Memᴰ.tail k) = Memᴰ.tail (w.kept x n k)

insert_first : (p high : ℕ) (P : List ℕ) → Rising (suc p) high P → insert p P ≡ p ∷ P
unfolding insert Rising
insert_first p high [] r = refl
insert_first p high (q ∷ P) r = insert_low p q P (omega (arith, r.0))

-- a list that has all members of a rising list, and is no longer, is sorted to it
pub sorted_is : (low high : ℕ) (P Q : List ℕ) → Rising low high P → ((p : ℕ) → Memᴰ p P → Memᴰ p Q) → length Q ≤ length P → sorted Q ≡ P
unfolding Rising sorted
sorted_is low high [] [] r f h = refl
sorted_is low high [] (q ∷ Q) r f h = absurd (omega arith)
sorted_is low high (p ∷ P) Q r f h =
    let w : Without p Q = without p Q (f p (Memᴰ.head refl)) in
    let e : sorted w.rest ≡ P =
    sorted_is (suc p) high P w.rest r.2 (λ x k. w.kept x (above x k) (f x (Memᴰ.tail k))) (omega (arith, w.long)) in
    w.again ∙ ap (insert p) e ∙ insert_first p high P r.2
  where
    above : (x : ℕ) → Memᴰ x P → x ≡ p → ⊥
    above x k e = let i = rising_member (suc p) high P r.2 x k in omega arith

-- ---- the sums

sum_insert : (m i a : ℕ) (l : List ℕ) → sum_at m i (insert a l) ≡ sum_at m i (a ∷ l)
unfolding insert sum_at
sum_insert m i a [] = refl
sum_insert m i a (b ∷ l) = go (leb a b) (sum_insert m i a l)
  where
    go : (c : Bool) → sum_at m i (insert a l) ≡ sum_at m i (a ∷ l) → sum_at m i (cond c (a ∷ b ∷ l) (b ∷ insert a l)) ≡ sum_at m i (a ∷ b ∷ l)
    go true e = refl
    go false e = ap (bit_xor (alpha m (i * b))) e ∙ xor_left_comm (alpha m (i * b)) (alpha m (i * a)) (sum_at m i l)

-- a list in order has the same sums
pub sum_sorted : (m i : ℕ) (l : List ℕ) → sum_at m i (sorted l) ≡ sum_at m i l
unfolding sorted sum_at
sum_sorted m i [] = refl
sum_sorted m i (a ∷ l) = sum_insert m i a (sorted l) ∙ ap (bit_xor (alpha m (i * a))) (sum_sorted m i l)

-- ---- a list that is sorted to a rising one

in_insert : (p a : ℕ) (l : List ℕ) → is_in p (insert a l) ≡ is_in p (a ∷ l)
unfolding insert is_in
in_insert p a [] = refl
in_insert p a (b ∷ l) = go (leb a b) (in_insert p a l)
  where
    swap : (x y z : Bool) → cond x true (cond y true z) ≡ cond y true (cond x true z)
    swap true true z = refl
    swap true false z = refl
    swap false true z = refl
    swap false false z = refl

    go : (c : Bool) → is_in p (insert a l) ≡ is_in p (a ∷ l) → is_in p (cond c (a ∷ b ∷ l) (b ∷ insert a l)) ≡ is_in p (a ∷ b ∷ l)
    go true e = refl
    go false e = ap (cond (eqb p b) true) e ∙ swap (eqb p b) (eqb p a) (is_in p l)

in_sorted : (p : ℕ) (l : List ℕ) → is_in p (sorted l) ≡ is_in p l
unfolding sorted is_in
in_sorted p [] = refl
in_sorted p (a ∷ l) = in_insert p a (sorted l) ∙ ap (cond (eqb p a) true) (in_sorted p l)

-- what is below all members is none of them
not_in : (low high p : ℕ) (P : List ℕ) → p < low → Rising low high P → is_in p P ≡ false
unfolding Rising is_in
not_in low high p [] h r = refl
not_in low high p (q ∷ P) h r = rw (ne_eqb p q (λ e. omega (arith, r.0))) (not_in (suc q) high p P (omega (arith, r.0)) r.2)

-- the number that was put in, and the list without it
rising_insert : (low high a : ℕ) (l : List ℕ) → Rising low high (insert a l) → (a < high) × (is_in a l ≡ false) × Rising low high l
unfolding insert Rising is_in
rising_insert low high a [] r = (r.1, refl, tt)
rising_insert low high a (b ∷ l) r = go (leb a b) refl r (rising_insert (suc b) high a l)
  where
    go : (c : Bool) → leb a b ≡ c → Rising low high (cond c (a ∷ b ∷ l) (b ∷ insert a l))
        → (Rising (suc b) high (insert a l) → (a < high) × (is_in a l ≡ false) × Rising (suc b) high l)
        → (a < high) × (is_in a (b ∷ l) ≡ false) × Rising low high (b ∷ l)
    go true e r f = (r.1, not_in (suc a) high a (b ∷ l) (omega arith) r.2, rising_from low (suc a) high (b ∷ l) (omega (arith, r.0)) r.2)
    go false e r f =
        let (below, new, rest) = f r.2 in
        (below, rw (ne_eqb a b (λ q. omega (arith, leb-false a b e))) new, (r.0, r.1, rest))

-- a list that is sorted to rising positions below n holds distinct positions below n
pub sorted_distinct : (n : ℕ) (l : List ℕ) → Rising 0 n (sorted l) → Distinct n l
unfolding sorted Distinct
sorted_distinct n [] r = tt
sorted_distinct n (a ∷ l) r =
    let (below, new, rest) = rising_insert 0 n a (sorted l) r in
    (below, sym (in_sorted a l) ∙ new, sorted_distinct n l rest)

-- rising positions are distinct
pub rising_distinct : (low high : ℕ) (P : List ℕ) → Rising low high P → Distinct high P
unfolding Rising Distinct
rising_distinct low high [] r = tt
rising_distinct low high (p ∷ P) r = (r.1, not_in (suc p) high p P (omega arith) r.2, rising_distinct (suc p) high P r.2)

-- distinct positions below n are below n
pub distinct_below : (n : ℕ) (l : List ℕ) → Distinct n l → Below n l
unfolding Distinct Below
distinct_below n [] d = tt
distinct_below n (a ∷ l) d = (d.0, distinct_below n l d.2)
