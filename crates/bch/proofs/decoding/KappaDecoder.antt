-- Two or three elements by κ: from D2 = s1³ + s3, not 0, and E = s1⁵ + s5 two roots of the locator moved by s1, by a table
-- of the solutions W of W³ = κ·(W + 1) or, where E is 0, as cube roots; the third is their sum, and of the elements 0 is
-- left out. Assumes nothing but what the tables `first` and `second` are asked to be.
use Prim.Native.Nat.{ℕ, ◌+◌, ◌-◌, ◌*◌, ◌/◌, ◌%◌, ◌^◌, ◌≤◌, ◌<◌}
use native.Mathlib.Omega.{arith}
use native.Mathlib.Decide.{ℕ_discrete}
use mathlib.Core.Path.{◌≡◌, sym, ap, ◌∙◌, subst}
use mathlib.Core.Logic.{◌≢◌, ◌↔◌}
use mathlib.Core.Bool.{Bool, true, false, cond, ◌&&◌}
use mathlib.Core.List.{List, [], ◌∷◌, Memᴰ}
use lib.Bits.{bit_xor}
use lib.Dec.{eqb}
use lib.ListN.{length}
use Rattle.galois.specs.Field.{mul, alpha, log, over}
use Rattle.galois.proofs.Tests.{and_intro, eq→eqb, cond_true}
use Rattle.galois.proofs.Primitive.{Primitive}
use Rattle.galois.proofs.Field2.{Field2, equal_of_sum, ⊕-cancel_self, cancel}
use Rattle.galois.proofs.Xor.{xor_zero→eq}
use Rattle.galois.proofs.FieldLaws.{alpha_log}
use Rattle.galois.proofs.FieldOf.{El, same, none, one, plus, product, field, power}
use Rattle.galois.proofs.Logs.{two_cubes, third_cube, next_cube, cubes_apart}
use Rattle.bch.specs.Locator.{square, cubed, d2, delta2}
use Rattle.bch.proofs.codes.Trials.{mapping}
use Rattle.bch.proofs.algebra.Peterson.{sq, cube, fifth, det2, det3}
use Rattle.bch.proofs.algebra.Unique.{Errors, power1, power3, power5, not_zero}
use Rattle.bch.proofs.algebra.Roots.{fifth_not_zero, det2_zero, det3_zero, two_members}
use Rattle.bch.proofs.codes.Positions.{cube_power, fifth_power}
use Rattle.bch.proofs.algebra.Kappa.{slope, slope_is, moved, flat_root, AtKappa, scale_not_zero, kappa_not_zero, kappa_root, kappa_nonzero}
use Rattle.bch.proofs.algebra.Kappa.{kappa_nonunit, member_moved, three_are, three_zero}
use Rattle.bch.proofs.decoding.Decoder.{Covers}
use Rattle.bch.proofs.decoding.Elements.{if_zero, zero_is, zero_not, either_short, at_most, quotient, not_nil, quotient_is, divided, quotient_only, More}

-- ---- what is computed from the syndromes

-- the fifth power of an element
abbrev pub fifthed : ℕ → ℕ → ℕ
fifthed m a = mul m (mul m (mul m (mul m a a) a) a) a

-- E
abbrev pub e5 : ℕ → ℕ → ℕ → ℕ
e5 m s1 s5 = bit_xor (fifthed m s1) s5

-- κ = E³ / D2⁵
abbrev pub kappa : ℕ → ℕ → ℕ → ℕ
kappa m d e = over m (cubed m e) (fifthed m d)

-- D2² / E, of which the roots are multiples
abbrev pub scale : ℕ → ℕ → ℕ → ℕ
scale m d e = over m (square m d) e

-- the κ that w is a solution for
abbrev pub kappa_at : ℕ → ℕ → ℕ
kappa_at m w = over m (cubed m w) (bit_xor w 1)

-- ---- the tables

-- v is a solution for k
pub record Solves (m k v : ℕ) : Type 0 where
  pub least : 2 ≤ v
  pub below : v < 2 ^ m
  pub at : kappa_at m v ≡ k

-- first finds a solution wherever there is one, and second another wherever there is another than the first
pub record Kappas (m : ℕ) (first second : ℕ → ℕ) : Type 0 where
  pub one : (w : ℕ) → 2 ≤ w → w < 2 ^ m → Solves m (kappa_at m w) (first (kappa_at m w))
  pub two : (w : ℕ) → 2 ≤ w → w < 2 ^ m → w ≢ first (kappa_at m w) → Solves m (kappa_at m w) (second (kappa_at m w))
  pub apart : (w : ℕ) → 2 ≤ w → w < 2 ^ m → w ≢ first (kappa_at m w) → second (kappa_at m w) ≢ first (kappa_at m w)

-- ---- the elements

-- the numbers of a list but 0
unfoldable pub nonzero : List ℕ → List ℕ
unfolding if_zero
nonzero [] = []
nonzero (x ∷ l) = if_zero x (nonzero l) (x ∷ nonzero l)

-- two roots and their sum, moved by s
unfoldable pub trio : ℕ → ℕ → ℕ → List ℕ
unfolding nonzero
trio s x y = nonzero (bit_xor s x ∷ bit_xor s y ∷ bit_xor s (bit_xor x y) ∷ [])

-- where E is 0, by the cube roots of D2: there are several only where 3 divides its logarithm and the period
unfoldable pub by_cubes : ℕ → ℕ → ℕ → List ℕ
unfolding trio
by_cubes m s1 d =
    cond (eqb ((2 ^ m - 1) % 3) 0 && eqb (log m d % 3) 0) (trio s1 (alpha m (log m d / 3)) (alpha m (log m d / 3 + (2 ^ m - 1) / 3))) []

-- elsewhere by the tables
unfoldable pub by_kappa : ℕ → (ℕ → ℕ) → (ℕ → ℕ) → ℕ → ℕ → ℕ → List ℕ
unfolding if_zero trio over
by_kappa m first second s1 d e =
    let k = kappa m d e in
    let f = scale m d e in
    if_zero (second k) [] (trio s1 (mul m (first k) f) (mul m (second k) f))

-- two or three elements
unfoldable pub kappas : ℕ → (ℕ → ℕ) → (ℕ → ℕ) → ℕ → ℕ → ℕ → List ℕ
unfolding if_zero by_cubes by_kappa
kappas m first second s1 s3 s5 = if_zero (e5 m s1 s5) (by_cubes m s1 (d2 m s1 s3)) (by_kappa m first second s1 (d2 m s1 s3) (e5 m s1 s5))

-- ---- the same in other forms

module _ (m : ℕ) (g : Primitive m) where
  -- E is s1²·D2 + δ2
  pub e5_is : (s1 s3 s5 : ℕ) → s1 < 2 ^ m → s3 < 2 ^ m → s5 < 2 ^ m
      → e5 m s1 s5 ≡ bit_xor (mul m (square m s1) (d2 m s1 s3)) (delta2 m s1 s3 s5)
  e5_is s1 s3 s5 h1 h3 h5 = λ i. (slope_is (field m g) (s1, h1) (s3, h3) (s5, h5) i).0

  module _ (a : ℕ) (n : a ≢ 0) (h : a < 2 ^ m) where
    is_power : alpha m (log m a) ≡ a
    is_power = alpha_log m g a (omega arith) h

    -- a cube
    pub cubed_log : cubed m a ≡ alpha m (3 * log m a)
    cubed_log = ap (cubed m) (sym is_power) ∙ cube_power m g (log m a)

    -- a fifth power
    pub fifthed_log : fifthed m a ≡ alpha m (5 * log m a)
    fifthed_log = ap (fifthed m) (sym is_power) ∙ fifth_power m g (log m a)

  -- w + 1 is not 0
  module _ (w : ℕ) (least : 2 ≤ w) (h : w < 2 ^ m) where
    pub up_not : bit_xor w 1 ≢ 0
    up_not z = let e : w ≡ 1 = xor_zero→eq w 1 z in omega arith

-- ---- there are at most three of them

nonzero_short : (l : List ℕ) → length (nonzero l) ≤ length l
unfolding nonzero
nonzero_short [] = omega arith
nonzero_short (x ∷ l) =
    either_short x (length (x ∷ l)) (nonzero l) (x ∷ nonzero l) (omega (arith, nonzero_short l)) (omega (arith, nonzero_short l))

nonzero_shorter : (l : List ℕ) → Memᴰ 0 l → length (nonzero l) < length l
unfolding nonzero if_zero
nonzero_shorter [] x' = elim x' [ ]
nonzero_shorter (x ∷ l) (Memᴰ.head e) = omega (arith, nonzero_short l, ap length (zero_is x (nonzero l) (x ∷ nonzero l) (sym e)))
nonzero_shorter (x ∷ l) (Memᴰ.tail k) =
    let h : length (nonzero l) < length l = nonzero_shorter l k in
    omega (arith, either_short x (length l) (nonzero l) (x ∷ nonzero l) (omega arith) (omega arith))

nonzero_member : (a : ℕ) (l : List ℕ) → a ≢ 0 → Memᴰ a l → Memᴰ a (nonzero l)
unfolding nonzero
nonzero_member a [] n x'' = elim x'' [ ]
nonzero_member a (x ∷ l) n (Memᴰ.head e) =
    subst (Memᴰ a) (sym (zero_not x (nonzero l) (x ∷ nonzero l) (λ z. n (e ∙ z)))) (Memᴰ.head e)
nonzero_member a (x ∷ l) n (Memᴰ.tail k) = go (ℕ_discrete x 0) (nonzero_member a l n k)
  where
    go : Dec (x ≡ 0) → Memᴰ a (nonzero l) → Memᴰ a (if_zero x (nonzero l) (x ∷ nonzero l))
    go (yes z) i = subst (Memᴰ a) (sym (zero_is x (nonzero l) (x ∷ nonzero l) z)) i
    go (no z) i = subst (Memᴰ a) (sym (zero_not x (nonzero l) (x ∷ nonzero l) z)) (Memᴰ.tail i)

-- a trio is no more than three
pub trio_short : (s x y : ℕ) → length (trio s x y) ≤ 3
unfolding trio
trio_short s x y = nonzero_short (bit_xor s x ∷ bit_xor s y ∷ bit_xor s (bit_xor x y) ∷ [])

module _ (m : ℕ) (first second : ℕ → ℕ) where
  cubes_short : (s d : ℕ) → length (by_cubes m s d) ≤ 3
  unfolding by_cubes
  cubes_short s d =
      let x = alpha m (log m d / 3) in
      let y = alpha m (log m d / 3 + (2 ^ m - 1) / 3) in
      go (eqb ((2 ^ m - 1) % 3) 0 && eqb (log m d % 3) 0) (trio s x y) (trio_short s x y)
    where
      go : (b : Bool) (L : List ℕ) → length L ≤ 3 → length (cond b L []) ≤ 3
      go true L h = h
      go false L h = omega arith

  kappas_short : (s1 s3 s5 : ℕ) → length (kappas m first second s1 s3 s5) ≤ 3
  unfolding kappas by_kappa
  kappas_short s1 s3 s5 =
      let d = d2 m s1 s3 in
      let e = e5 m s1 s5 in
      let k = kappa m d e in
      let f = scale m d e in
      either_short e 3 (by_cubes m s1 d) (by_kappa m first second s1 d e) (cubes_short s1 d)
      (either_short (second k) 3 [] (trio s1 (mul m (first k) f) (mul m (second k) f)) (omega arith)
      (trio_short s1 (mul m (first k) f) (mul m (second k) f)))

-- ---- completeness: the elements of a solution are those that are computed

-- where two numbers are solutions for k, the tables find two
pub two_solve : (m : ℕ) (first second : ℕ → ℕ) → Kappas m first second → (k v w : ℕ) → v ≢ w → Solves m k v → Solves m k w
    → Solves m k (first k) × Solves m k (second k) × (first k ≢ second k)
two_solve m first second tables k v w n hv hw = pick (ℕ_discrete v (first k))
  where
    from : (x : ℕ) → Solves m k x → x ≢ first k → Solves m k (first k) × Solves m k (second k) × (first k ≢ second k)
    from x h d =
        let d' : x ≢ first (kappa_at m x) = λ e. d (e ∙ ap first h.at) in (
          subst (λ (j : ℕ). Solves m j (first j)) h.at (tables.one x h.least h.below),
          subst (λ (j : ℕ). Solves m j (second j)) h.at (tables.two x h.least h.below d'),
          λ e. subst (λ (j : ℕ). second j ≢ first j) h.at (tables.apart x h.least h.below d') (sym e),
        )

    pick : Dec (v ≡ first k) → Solves m k (first k) × Solves m k (second k) × (first k ≢ second k)
    pick (yes e) = from w hw (λ q. n (e ∙ sym q))
    pick (no d) = from v hv d

module _ (m : ℕ) (g : Primitive m) where
  abbrev K : Field2 (none m) (one m g) (plus m) (product m g)
  K = field m g

  abbrev nil : El m
  nil = none m

  -- a number is a solution for k exactly where it meets the equation
  pub solves_at : (k w : El m) → (k ≡ none m → ⊥) → Solves m k.0 w.0 ↔ AtKappa (field m g) k w
  solves_at k w n = (there, back)
    where
      u : El m
      u = plus m w (one m g)

      not_one : (w ≡ one m g → ⊥) → u ≡ nil → ⊥
      not_one d z = d (equal_of_sum K w (one m g) z)

      there : Solves m k.0 w.0 → AtKappa K k w
      there s =
          let d : (w ≡ one m g → ⊥) = λ e. let z : w.0 ≡ 1 = λ i. (e i).0 in omega (arith, s.least) in
          let q : quotient m g (cube K w) u ≡ k = same m s.at in
          sym (divided m g (cube K w) u (not_one d)) ∙ ap (λ z. product m g z u) q

      back : AtKappa K k w → Solves m k.0 w.0
      back h =
          let d : (w ≡ one m g → ⊥) = kappa_nonunit K k w h in
          let z : w.0 ≢ 0 = not_nil m g w (kappa_nonzero K k w n h) in
          let o : w.0 ≢ 1 = λ e. d (same m e) in
          let q : quotient m g (cube K w) u ≡ k = quotient_only m g (cube K w) u k (not_one d) (K.⊗-comm u k ∙ sym h) in
          record { least = omega arith; below = w.1; at = λ i. (q i).0 }

  -- ---- roots of the moved locator

  -- by κ, where E is not 0
  module _ (d e : El m) (nd : d ≡ none m → ⊥) (ne : e ≡ none m → ⊥) where
    abbrev k : El m
    k = quotient m g (cube K e) (fifth K d)

    abbrev f : El m
    f = quotient m g (sq K d) e

    hf : product m g e f ≡ sq K d
    hf = quotient_is m g (sq K d) e ne

    hk : product m g k (fifth K d) ≡ cube K e
    hk = divided m g (cube K e) (fifth K d) (fifth_not_zero K d nd)

    nf : f ≡ nil → ⊥
    nf = scale_not_zero K d e f k nd ne hf hk

    -- the multiple of D2² / E by w is a root exactly where w is a solution for κ
    pub root_by_kappa : (w : El m) → (moved K d e (product m g w f) ≡ none m) ↔ Solves m (kappa m d.0 e.0) w.0
    root_by_kappa w =
        let r = kappa_root K d e f k nd ne hf hk w in
        let s = solves_at k w (kappa_not_zero K d e f k nd ne hf hk) in
        (λ h. s.1 (r.0 h), λ h. r.1 (s.0 h))

    -- each root is such a multiple ..
    pub root_scaled : (a : El m) → product m g (quotient m g a f) f ≡ a
    root_scaled a = divided m g a f nf

    -- .. of one element only
    pub scaled_apart : (v w : El m) → v.0 ≢ w.0 → product m g v f ≡ product m g w f → ⊥
    scaled_apart v w n h =
        let q : v ≡ w = cancel K f v w nf (K.⊗-comm f v ∙ h ∙ K.⊗-comm w f) in
        n (λ i. (q i).0)

  -- by logarithms, where E is 0
  module _ (d e : El m) (nd : d ≡ none m → ⊥) (z : e ≡ none m) (p : (2 ^ m - 1) % 3 ≡ 0) (q : log m d.0 % 3 ≡ 0) where
    -- a cube root ..
    pub third_root : moved K d e (power m g (log m d.0 / 3)) ≡ none m
    third_root =
        (flat_root K d e (power m g (log m d.0 / 3)) nd z).1 (same m (third_cube m g d.0 (not_nil m g d nd) d.1 q))

    -- .. and the next
    pub next_root : moved K d e (power m g (log m d.0 / 3 + (2 ^ m - 1) / 3)) ≡ none m
    next_root =
        (flat_root K d e (power m g (log m d.0 / 3 + (2 ^ m - 1) / 3)) nd z).1 (same m (next_cube m g d.0 (not_nil m g d nd) d.1 p q))

    -- are different
    pub thirds_apart : power m g (log m d.0 / 3) ≡ power m g (log m d.0 / 3 + (2 ^ m - 1) / 3) → ⊥
    thirds_apart h = cubes_apart m g d.0 (not_nil m g d nd) d.1 p (λ i. (h i).0)

  -- ---- at most three elements

  module _ (A : List (El m)) (ok : Errors K A) (l : length A ≤ 3) (n : det2 K (power1 K A) (power3 K A) ≡ nil → ⊥) where
    abbrev s1 : El m
    s1 = power1 K A

    abbrev D : El m
    D = det2 K (power1 K A) (power3 K A)

    abbrev E : El m
    E = slope K (power1 K A) (power5 K A)

    -- two roots and their sum
    trio_covers : (x y : El m) → (x ≡ y → ⊥) → moved K D E x ≡ nil → moved K D E y ≡ nil → Covers m (trio s1.0 x.0 y.0) A
    unfolding trio
    trio_covers x y d hx hy =
        record {
          inside = λ a k.
              let na : (a ≡ nil → ⊥) = not_zero K A ok a k in
              nonzero_member a.0 L (not_nil m g a na) (mapping (λ (z : El m). z.0) ((three_are K A l n x y d hx hy a na).0 k));
          short = pick (K.equal? (det3 K s1 (power3 K A) (power5 K A)) nil);
        }
      where
        L : List ℕ
        L = bit_xor s1.0 x.0 ∷ bit_xor s1.0 y.0 ∷ bit_xor s1.0 (bit_xor x.0 y.0) ∷ []

        pick : Dec (det3 K s1 (power3 K A) (power5 K A) ≡ nil) → length (nonzero L) ≤ length A
        pick (yes z) =
            let e : length A ≡ 2 = at_most 1 (length A) ((det3_zero K A ok l).0 z) (λ h. n ((det2_zero K A ok l).1 h)) in
            omega (arith, nonzero_shorter L (mapping (λ (z : El m). z.0) (three_zero K A l n x y d hx hy z)))
        pick (no k) =
            let e : length A ≡ 3 = at_most 2 (length A) l (λ h. k ((det3_zero K A ok l).1 h)) in
            omega (arith, nonzero_short L)

    abbrev two : (x : El m) × (y : El m) × Memᴰ x A × Memᴰ y A × (x ≡ y → ⊥)
    two = two_members K A ok l n

    abbrev x : El m
    x = plus m s1 two.0

    abbrev y : El m
    y = plus m s1 two.1

    x_root : moved K D E x ≡ nil
    x_root = member_moved K A l n two.0 two.2

    y_root : moved K D E y ≡ nil
    y_root = member_moved K A l n two.1 two.3

    x_y : x ≡ y → ⊥
    x_y e = two.4 (sym (⊕-cancel_self K s1 two.0) ∙ ap (plus m s1) e ∙ ⊕-cancel_self K s1 two.1)

    cubes_cover : E ≡ nil → Covers m (by_cubes m s1.0 D.0) A
    unfolding by_cubes
    cubes_cover z =
        subst (λ (C : List ℕ). Covers m C A)
        (sym (cond_true (trio s1.0 u.0 v.0) [] (eqb ((2 ^ m - 1) % 3) 0 && eqb (log m D.0 % 3) 0)
        (and_intro (eqb ((2 ^ m - 1) % 3) 0) (eqb (log m D.0 % 3) 0) (eq→eqb ((2 ^ m - 1) % 3) 0 thirds.0) (eq→eqb (log m D.0 % 3) 0 thirds.1))))
        (trio_covers u v (thirds_apart D E n z thirds.0 thirds.1) (third_root D E n z thirds.0 thirds.1)
        (next_root D E n z thirds.0 thirds.1))
      where
        thirds : ((2 ^ m - 1) % 3 ≡ 0) × (log m D.0 % 3 ≡ 0)
        thirds =
            two_cubes m g D.0 x.0 y.0 (not_nil m g D n) D.1 x.1 y.1 (λ e. x_y (same m e))
            (λ i. ((flat_root K D E x n z).0 x_root i).0) (λ i. ((flat_root K D E y n z).0 y_root i).0)

        u : El m
        u = power m g (log m D.0 / 3)

        v : El m
        v = power m g (log m D.0 / 3 + (2 ^ m - 1) / 3)

    module _ (first second : ℕ → ℕ) (tables : Kappas m first second) where
      kappa_covers : (E ≡ nil → ⊥) → Covers m (by_kappa m first second s1.0 D.0 E.0) A
      unfolding by_kappa
      kappa_covers ne =
          subst (λ (C : List ℕ). Covers m C A)
          (sym (zero_not (second k') [] (trio s1.0 (product m g u f').0 (product m g v f').0) (omega (arith, found.1.least))))
          (trio_covers (product m g u f') (product m g v f') (scaled_apart D E n ne u v found.2) ((root_by_kappa D E n ne u).1 found.0)
          ((root_by_kappa D E n ne v).1 found.1))
        where
          k' : ℕ
          k' = kappa m D.0 E.0

          f' : El m
          f' = quotient m g (sq K D) E

          at : (a : El m) → moved K D E a ≡ nil → Solves m k' (over m a.0 f'.0)
          at a h = (root_by_kappa D E n ne (quotient m g a f')).0 (ap (moved K D E) (root_scaled D E n ne a) ∙ h)

          differ : over m x.0 f'.0 ≢ over m y.0 f'.0
          differ e =
              let q : quotient m g x f' ≡ quotient m g y f' = same m e in
              x_y (sym (root_scaled D E n ne x) ∙ ap (λ z. product m g z f') q ∙ root_scaled D E n ne y)

          found : Solves m k' (first k') × Solves m k' (second k') × (first k' ≢ second k')
          found = two_solve m first second tables k' (over m x.0 f'.0) (over m y.0 f'.0) differ (at x x_root) (at y y_root)

          u : El m
          u = (first k', found.0.below)

          v : El m
          v = (second k', found.1.below)

      kappas_cover : Covers m (kappas m first second s1.0 (power3 K A).0 (power5 K A).0) A
      unfolding kappas
      kappas_cover = pick (K.equal? E nil)
        where
          X : List ℕ
          X = by_cubes m s1.0 D.0

          Y : List ℕ
          Y = by_kappa m first second s1.0 D.0 E.0

          pick : Dec (E ≡ nil) → Covers m (if_zero E.0 X Y) A
          pick (yes z) = subst (λ (C : List ℕ). Covers m C A) (sym (zero_is E.0 X Y (λ i. (z i).0))) (cubes_cover z)
          pick (no k) = subst (λ (C : List ℕ). Covers m C A) (sym (zero_not E.0 X Y (not_nil m g E k))) (kappa_covers k)

  -- the elements by κ are those of at most three errors
  pub kappas_more : (first second : ℕ → ℕ) → Kappas m first second → More m g (kappas m first second)
  kappas_more first second tables =
      record { short = kappas_short m first second; covers = λ A ok l n. kappas_cover A ok l n first second tables }
