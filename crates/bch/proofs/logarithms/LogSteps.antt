-- The locator by logarithms as a function computes it, its positions put in order: each way out of each branch. Assumes nothing.
use Prim.Native.Nat.{ℕ, ◌+◌, ◌-◌, ◌*◌, ◌/◌, ◌%◌, ◌^◌, ◌≤◌, ◌<◌, min, max}
use native.Mathlib.Omega.{arith}
use mathlib.Core.Path.{◌≡◌, refl, sym, ap, ap₂, ◌∙◌}
use mathlib.Core.Logic.{◌≢◌}
use mathlib.Core.Bool.{Bool, true, false, cond}
use mathlib.Core.List.{List, [], ◌∷◌}
use mathlib.Core.Option.{Option, none as lost, some, map}
use borrow.Author.Tests.{lt-ltb, le-ltb}
use lib.Bits.{bit_xor}
use lib.Dec.{T, ltb}
use Rattle.bch.specs.Words.{Below}
use Rattle.bch.proofs.decoding.Decoder.{is_below, is_below→, →is_below, when}
use Rattle.bch.proofs.decoding.Elements.{if_zero, zero_is, zero_not}
use Rattle.bch.proofs.decoding.KappaSums.{within}
use Rattle.bch.proofs.decoding.Sorting.{sorted, sorted_two, sorted_three}
use Rattle.bch.proofs.tables.CodeTables.{CodeTables, log_in, powers_in, roots_in, folded, reduced}
use Rattle.bch.proofs.logarithms.LogLocator.{pair_in, trio_in, cubes_in, kappa_in, more_in, locate_in}

-- a code's numbers, and where its tables stand
pub record Ready (m t n period powers roots : ℕ) (ts : List ℕ) : Type 0 where
  pub tables : CodeTables m t ts
  pub is_period : period ≡ 2 ^ m - 1
  pub is_powers : powers ≡ 2 ^ m
  pub is_roots : roots ≡ 2 * 2 ^ m + 8
  pub fits : n ≤ 2 ^ m - 1

-- ---- in order

-- these positions are those, in order
abbrev pub Ordered : Option (List ℕ) → Option (List ℕ) → Type 0
Ordered o p = o ≡ map sorted p

pub ordered_as : {o p q : Option (List ℕ)} → Ordered o p → p ≡ q → Ordered o q
ordered_as h e = h ∙ ap (map sorted) e

-- ---- positions below n

module _ (n : ℕ) where
  not_within : (P : List ℕ) → (Below n P → ⊥) → lost ≡ within n P
  unfolding within when
  not_within P h = go (is_below n P) (is_below→ n P)
    where
      go : (b : Bool) → (T b → Below n P) → lost ≡ when b P
      go true f = absurd (h (f tt))
      go false f = refl

  all_within : (P : List ℕ) → Below n P → some P ≡ within n P
  unfolding within when
  all_within P h = go (is_below n P) (→is_below n P h)
    where
      go : (b : Bool) → T b → some P ≡ when b P
      go true t = refl
      go false t = absurd t

  -- one
  pub one_lost : (x : ℕ) → n ≤ x → Ordered lost (within n (x ∷ []))
  unfolding Below
  one_lost x h = ap (map sorted) (not_within (x ∷ []) (λ b. omega (arith, b.0)))

  pub one_found : (x : ℕ) → x < n → Ordered (some (x ∷ [])) (within n (x ∷ []))
  unfolding Below sorted
  one_found x h = ap (map sorted) (all_within (x ∷ []) (h, tt))

  -- two: the larger is looked at
  pub two_lost : (x y high : ℕ) → high ≡ max x y → n ≤ high → Ordered lost (within n (x ∷ y ∷ []))
  unfolding Below
  two_lost x y high e h = ap (map sorted) (not_within (x ∷ y ∷ []) (λ b. omega (arith, b.0, b.1.0)))

  pub two_found : (x y low high : ℕ) → low ≡ min x y → high ≡ max x y → high < n
      → Ordered (some (low ∷ high ∷ [])) (within n (x ∷ y ∷ []))
  unfolding Below
  two_found x y low high d e h =
      let hx : x < n = omega arith in
      let hy : y < n = omega arith in
      let q : low ∷ high ∷ [] ≡ min x y ∷ max x y ∷ [] = cc in
      ap some (q ∙ sym (sorted_two x y)) ∙ ap (map sorted) (all_within (x ∷ y ∷ []) (hx, (hy, tt)))

  -- three: the first is put to the other two, a and b, in order; then the largest is looked at
  module _ (x y z a b u : ℕ) (ha : a ≡ min y z) (hb : b ≡ max y z) (hu : u ≡ max x a) (high : ℕ) (e : high ≡ max u b) where
    pub three_lost : n ≤ high → Ordered lost (within n (x ∷ y ∷ z ∷ []))
    unfolding Below
    three_lost h = ap (map sorted) (not_within (x ∷ y ∷ z ∷ []) (λ k. omega (arith, k.0, k.1.0, k.1.1.0)))

    pub three_found : (low mid : ℕ) → low ≡ min x a → mid ≡ min u b → high < n
        → Ordered (some (low ∷ mid ∷ high ∷ [])) (within n (x ∷ y ∷ z ∷ []))
    unfolding Below
    three_found low mid d c h =
        let hx : x < n = omega arith in
        let hy : y < n = omega arith in
        let hz : z < n = omega arith in
        let q : low ∷ mid ∷ high ∷ [] ≡ min x (min y z) ∷ min (max x (min y z)) (max y z) ∷ max (max x (min y z)) (max y z) ∷ [] = cc in
        ap some (q ∙ sym (sorted_three x y z)) ∙ ap (map sorted) (all_within (x ∷ y ∷ z ∷ []) (hx, (hy, (hz, tt))))

-- ---- two elements

module _ (m n : ℕ) (ts : List ℕ) (l1 d ld p e r : ℕ) (hp : p ≡ 2 ^ m - 1) (hd : ld ≡ log_in ts d) (he : e ≡ folded m (ld + 3 * (p - l1)))
    (hr : r ≡ roots_in m ts e) where
  is_r : r ≡ roots_in m ts (folded m (log_in ts d + 3 * (2 ^ m - 1 - l1)))
  is_r = hr ∙ ap (roots_in m ts) (he ∙ ap₂ (λ (x y : ℕ). folded m (x + 3 * (y - l1))) hd hp)

  pub pair_lost : {o : Option (List ℕ)} → r ≡ 0 → Ordered o lost → Ordered o (pair_in m n ts l1 d)
  unfolding pair_in
  pair_lost z q = ordered_as q (sym (zero_is _ lost _ (sym is_r ∙ z)))

  pub pair_found : {o : Option (List ℕ)} → r ≢ 0 → (x y : ℕ) → x ≡ reduced p (l1 + r % 1024) → y ≡ reduced p (l1 + r / 1024)
      → Ordered o (within n (x ∷ y ∷ [])) → Ordered o (pair_in m n ts l1 d)
  unfolding pair_in
  pair_found k x y hx hy q =
      ordered_as q
      (ap₂ (λ (u v : ℕ). within n (u ∷ v ∷ [])) (hx ∙ ap₂ (λ (a b : ℕ). reduced a (l1 + b % 1024)) hp is_r)
      (hy ∙ ap₂ (λ (a b : ℕ). reduced a (l1 + b / 1024)) hp is_r)
      ∙ sym (zero_not _ lost _ (λ z. k (is_r ∙ z))))

-- ---- two roots and their sum

module _ (n : ℕ) (ts : List ℕ) (s1 y1 y2 x1 x2 x3 p1 p2 p3 : ℕ) (h1 : x1 ≡ bit_xor s1 y1) (h2 : x2 ≡ bit_xor s1 y2) (h3 : x3 ≡ bit_xor x1 y2)
    (q1 : p1 ≡ log_in ts x1) (q2 : p2 ≡ log_in ts x2) (q3 : p3 ≡ log_in ts x3) where
  trio_as : if_zero x1 (within n (p2 ∷ p3 ∷ [])) (if_zero x2 (within n (p1 ∷ p3 ∷ []))
      (if_zero x3 (within n (p1 ∷ p2 ∷ [])) (within n (p1 ∷ p2 ∷ p3 ∷ [])))) ≡ trio_in n ts s1 y1 y2
  unfolding trio_in
  trio_as =
      let F : ℕ → ℕ → ℕ → ℕ → ℕ → ℕ → Option (List ℕ) = λ a b c u v w.
      if_zero a (within n (v ∷ w ∷ [])) (if_zero b (within n (u ∷ w ∷ [])) (if_zero c (within n (u ∷ v ∷ [])) (within n (u ∷ v ∷ w ∷ [])))) in
      let G : ℕ → ℕ → ℕ → Option (List ℕ) = λ a b c. F a b c (log_in ts a) (log_in ts b) (log_in ts c) in
      ap₂ (λ (u v : ℕ). F x1 x2 x3 u v p3) q1 q2 ∙ ap (λ (w : ℕ). F x1 x2 x3 (log_in ts x1) (log_in ts x2) w) q3
      ∙ ap (G x1 x2) h3 ∙ ap₂ (λ (a b : ℕ). G a b (bit_xor a y2)) h1 h2

  pub trio_first : {o : Option (List ℕ)} → x1 ≡ 0 → Ordered o (within n (p2 ∷ p3 ∷ [])) → Ordered o (trio_in n ts s1 y1 y2)
  trio_first z e = ordered_as e (sym (zero_is x1 _ _ z) ∙ trio_as)

  pub trio_second : {o : Option (List ℕ)} → x1 ≢ 0 → x2 ≡ 0 → Ordered o (within n (p1 ∷ p3 ∷ [])) → Ordered o (trio_in n ts s1 y1 y2)
  trio_second k z e = ordered_as e (sym (zero_not x1 _ _ k ∙ zero_is x2 _ _ z) ∙ trio_as)

  pub trio_third : {o : Option (List ℕ)} → x1 ≢ 0 → x2 ≢ 0 → x3 ≡ 0 → Ordered o (within n (p1 ∷ p2 ∷ [])) → Ordered o (trio_in n ts s1 y1 y2)
  trio_third k l z e = ordered_as e (sym (zero_not x1 _ _ k ∙ zero_not x2 _ _ l ∙ zero_is x3 _ _ z) ∙ trio_as)

  pub trio_all : {o : Option (List ℕ)} → x1 ≢ 0 → x2 ≢ 0 → x3 ≢ 0 → Ordered o (within n (p1 ∷ p2 ∷ p3 ∷ [])) → Ordered o (trio_in n ts s1 y1 y2)
  trio_all k l z e = ordered_as e (sym (zero_not x1 _ _ k ∙ zero_not x2 _ _ l ∙ zero_not x3 _ _ z) ∙ trio_as)

-- ---- where E is 0

module _ (m n : ℕ) (ts : List ℕ) (s1 d p : ℕ) (hp : p ≡ 2 ^ m - 1) where
  abbrev found : ℕ → ℕ → Option (List ℕ)
  found q l = if_zero (q % 3) (if_zero (l % 3) (trio_in n ts s1 (powers_in m ts (l / 3) % 1024) (powers_in m ts (l / 3 + q / 3) % 1024)) lost) lost

  cubes_as : (l : ℕ) → l ≡ log_in ts d → found p l ≡ cubes_in m n ts s1 d
  unfolding cubes_in
  cubes_as l hl = ap₂ found hp hl

  pub cubes_lost : {o : Option (List ℕ)} → p % 3 ≢ 0 → Ordered o lost → Ordered o (cubes_in m n ts s1 d)
  cubes_lost k e = ordered_as e (sym (zero_not (p % 3) _ lost k) ∙ cubes_as (log_in ts d) refl)

  module _ (l : ℕ) (hl : l ≡ log_in ts d) where
    pub cubes_odd : {o : Option (List ℕ)} → p % 3 ≡ 0 → l % 3 ≢ 0 → Ordered o lost → Ordered o (cubes_in m n ts s1 d)
    cubes_odd z k e = ordered_as e (sym (zero_is (p % 3) _ lost z ∙ zero_not (l % 3) _ lost k) ∙ cubes_as l hl)

    pub cubes_found : {o : Option (List ℕ)} → p % 3 ≡ 0 → l % 3 ≡ 0 → (x y : ℕ) → x ≡ powers_in m ts (l / 3) % 1024 → y ≡ powers_in m ts (l / 3 + p / 3) % 1024
        → Ordered o (trio_in n ts s1 x y) → Ordered o (cubes_in m n ts s1 d)
    cubes_found z k x y hx hy e = ordered_as e (ap₂ (trio_in n ts s1) hx hy ∙ sym (zero_is (p % 3) _ lost z ∙ zero_is (l % 3) _ lost k) ∙ cubes_as l hl)

-- ---- elsewhere

module _ (m n : ℕ) (ts : List ℕ) (s1 d e p ld le x r : ℕ) (hp : p ≡ 2 ^ m - 1) (hd : ld ≡ log_in ts d) (he : le ≡ log_in ts e)
    (hx : x ≡ folded m (3 * le + 5 * (p - ld))) (hr : r ≡ roots_in m ts x) where
  abbrev try : ℕ → ℕ → Option (List ℕ)
  try s q = cond (ltb q 1024) lost (trio_in n ts s1 (powers_in m ts (folded m (s + q % 1024)) % 1024) (powers_in m ts (folded m (s + q / 1024)) % 1024))

  kappa_as : try (2 * ld + (p - le)) r ≡ kappa_in m n ts s1 d e
  unfolding kappa_in
  kappa_as =
      let k : r ≡ roots_in m ts (folded m (3 * log_in ts e + 5 * (2 ^ m - 1 - log_in ts d))) =
      hr ∙ ap (roots_in m ts) (hx ∙ ap₂ (λ (a b : ℕ). folded m (3 * a + 5 * (b - ld))) he hp
      ∙ ap (λ (a : ℕ). folded m (3 * log_in ts e + 5 * (2 ^ m - 1 - a))) hd) in
      ap (try (2 * ld + (p - le))) k
      ∙ ap₂ (λ (a b : ℕ). try (2 * a + (b - le)) (roots_in m ts (folded m (3 * log_in ts e + 5 * (2 ^ m - 1 - log_in ts d))))) hd hp
      ∙ ap (λ (a : ℕ). try (2 * log_in ts d + (2 ^ m - 1 - a)) (roots_in m ts (folded m (3 * log_in ts e + 5 * (2 ^ m - 1 - log_in ts d))))) he

  pub kappa_lost : {o : Option (List ℕ)} → r < 1024 → Ordered o lost → Ordered o (kappa_in m n ts s1 d e)
  kappa_lost h q =
      ordered_as q
      (sym (ap (λ (b : Bool). cond b lost
      (trio_in n ts s1 (powers_in m ts (folded m (2 * ld + (p - le) + r % 1024)) % 1024)
      (powers_in m ts (folded m (2 * ld + (p - le) + r / 1024)) % 1024))) (lt-ltb r 1024 h))
      ∙ kappa_as)

  pub kappa_found : {o : Option (List ℕ)} → 1024 ≤ r → (s y z u v : ℕ) → s ≡ 2 * ld + (p - le) → y ≡ folded m (s + r % 1024) → z ≡ folded m (s + r / 1024)
      → u ≡ powers_in m ts y % 1024 → v ≡ powers_in m ts z % 1024 → Ordered o (trio_in n ts s1 u v) → Ordered o (kappa_in m n ts s1 d e)
  kappa_found h s y z u v hs hy hz hu hv q =
      ordered_as q
      (ap₂ (trio_in n ts s1) (hu ∙ ap (λ (a : ℕ). powers_in m ts a % 1024) (hy ∙ ap (λ (a : ℕ). folded m (a + r % 1024)) hs))
      (hv ∙ ap (λ (a : ℕ). powers_in m ts a % 1024) (hz ∙ ap (λ (a : ℕ). folded m (a + r / 1024)) hs))
      ∙ sym (ap (λ (b : Bool). cond b lost
      (trio_in n ts s1 (powers_in m ts (folded m (2 * ld + (p - le) + r % 1024)) % 1024)
      (powers_in m ts (folded m (2 * ld + (p - le) + r / 1024)) % 1024))) (le-ltb r 1024 h))
      ∙ kappa_as)

-- ---- all

module _ (m t n : ℕ) (ts : List ℕ) (s : ℕ) where
  pub locate_none : {o : Option (List ℕ)} → s ≡ 0 → Ordered o (some []) → Ordered o (locate_in m t n ts s)
  unfolding locate_in
  locate_none z q = ordered_as q (sym (zero_is s (some []) _ z))

  module _ (k : s ≢ 0) (s1 l1 r : ℕ) (h1 : s1 ≡ s % 1024) (hl : l1 ≡ log_in ts s1) (hr : r ≡ bit_xor s (powers_in m ts l1)) where
    abbrev tail : ℕ → ℕ → ℕ → Option (List ℕ)
    tail a b c = if_zero c (within n (b ∷ [])) (more_in m t n ts a b c)

    locate_as : tail s1 l1 r ≡ locate_in m t n ts s
    unfolding locate_in
    locate_as =
        let G : ℕ → ℕ → Option (List ℕ) = λ a b. tail a b (bit_xor s (powers_in m ts b)) in
        ap (tail s1 l1) hr ∙ ap (G s1) hl ∙ ap (λ (a : ℕ). G a (log_in ts a)) h1
        ∙ sym (zero_not s (some []) (tail (s % 1024) (log_in ts (s % 1024)) (bit_xor s (powers_in m ts (log_in ts (s % 1024))))) k)

    pub locate_one : {o : Option (List ℕ)} → r ≡ 0 → Ordered o (within n (l1 ∷ [])) → Ordered o (locate_in m t n ts s)
    locate_one z q = ordered_as q (sym (zero_is r _ _ z) ∙ locate_as)

    module _ (n0 : r ≢ 0) where
      more_as : {o : Option (List ℕ)} → Ordered o (more_in m t n ts s1 l1 r) → Ordered o (locate_in m t n ts s)
      more_as q = ordered_as q (sym (zero_not r _ _ n0) ∙ locate_as)

      pub locate_single : {o : Option (List ℕ)} → t ≡ 1 → Ordered o lost → Ordered o (locate_in m t n ts s)
      unfolding more_in
      locate_single e q = more_as (ordered_as q (sym (ap (λ (i : ℕ). more_in m i n ts s1 l1 r) e)))

      module _ (d : ℕ) (hd : d ≡ r / 1024 % 1024) where
        pub locate_two_zero : {o : Option (List ℕ)} → t ≡ 2 → s1 ≡ 0 → Ordered o lost → Ordered o (locate_in m t n ts s)
        unfolding more_in
        locate_two_zero e z q =
            more_as (ordered_as q (sym (ap (λ (i : ℕ). more_in m i n ts s1 l1 r) e ∙ zero_is s1 lost (pair_in m n ts l1 (r / 1024 % 1024)) z)))

        pub locate_two : {o : Option (List ℕ)} → t ≡ 2 → s1 ≢ 0 → Ordered o (pair_in m n ts l1 d) → Ordered o (locate_in m t n ts s)
        unfolding more_in
        locate_two e z q =
            more_as (ordered_as q (ap (pair_in m n ts l1) hd
            ∙ sym (ap (λ (i : ℕ). more_in m i n ts s1 l1 r) e ∙ zero_not s1 lost (pair_in m n ts l1 (r / 1024 % 1024)) z)))

        abbrev branch : ℕ → ℕ → Option (List ℕ)
        branch a b = if_zero a lost (if_zero b (cubes_in m n ts s1 a) (kappa_in m n ts s1 a b))

        three_as : {o : Option (List ℕ)} → t ≡ 3 → (e : ℕ) → e ≡ r / 1048576 → Ordered o (branch d e) → Ordered o (locate_in m t n ts s)
        unfolding more_in
        three_as h e he q = more_as (ordered_as q (ap₂ branch hd he ∙ sym (ap (λ (i : ℕ). more_in m i n ts s1 l1 r) h)))

        pub locate_flat : {o : Option (List ℕ)} → t ≡ 3 → d ≡ 0 → Ordered o lost → Ordered o (locate_in m t n ts s)
        locate_flat h z q = three_as h (r / 1048576) refl (ordered_as q (sym (zero_is d _ _ z)))

        pub locate_cubes : {o : Option (List ℕ)} → t ≡ 3 → d ≢ 0 → (e : ℕ) → e ≡ r / 1048576 → e ≡ 0 → Ordered o (cubes_in m n ts s1 d) → Ordered o (locate_in m t n ts s)
        locate_cubes h k e he z q = three_as h e he (ordered_as q (sym (zero_not d _ _ k ∙ zero_is e _ _ z)))

        pub locate_kappa : {o : Option (List ℕ)} → t ≡ 3 → d ≢ 0 → (e : ℕ) → e ≡ r / 1048576 → e ≢ 0 → Ordered o (kappa_in m n ts s1 d e) → Ordered o (locate_in m t n ts s)
        locate_kappa h k e he z q = three_as h e he (ordered_as q (sym (zero_not d _ _ k ∙ zero_not e _ _ z)))
