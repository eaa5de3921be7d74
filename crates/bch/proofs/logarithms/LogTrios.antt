-- Two or three errors by logarithms, where t is 3: elements that need no check of their sums. Assumes nothing.
use Prim.Native.Nat.{ℕ, ◌+◌, ◌-◌, ◌*◌, ◌/◌, ◌%◌, ◌^◌, ◌≤◌, ◌<◌}
use native.Mathlib.Nat.{pos_of_ne-zero}
use native.Mathlib.Omega.{arith}
use native.Mathlib.Decide.{ℕ_discrete}
use mathlib.Core.Path.{◌≡◌, refl, sym, ap, ap₂, ◌∙◌, subst}
use mathlib.Core.Logic.{◌≢◌, ◌⊎◌, inl, inr}
use mathlib.Core.Bool.{Bool, cond}
use mathlib.Core.List.{List, [], ◌∷◌, map}
use mathlib.Core.Option.{Option, none as lost}
use borrow.Author.Tests.{lt-ltb, le-ltb}
use lib.Bits.{bit_xor, xor_lt, xor_zero_r, xor_self}
use lib.Dec.{ltb}
use Rattle.galois.specs.Field.{alpha, log, mul, over}
use Rattle.galois.proofs.Tests.{lt_or_le}
use Rattle.galois.proofs.Xor.{xor_assoc, xor_zero→eq, xor_undo}
use Rattle.galois.proofs.Primitive.{Primitive}
use Rattle.galois.proofs.Field2.{Field2}
use Rattle.galois.proofs.FieldLaws.{alpha_once, alpha_lt, alpha_nonzero, alpha_log, log_lt, mul_alpha, mul_zero_r}
use Rattle.galois.proofs.FieldOf.{El, same, none, one, plus, product, field, power}
use Rattle.galois.proofs.FieldTables.{over_alpha}
use Rattle.bch.specs.Locator.{square, cubed}
use Rattle.bch.proofs.algebra.Peterson.{sq, det2}
use Rattle.bch.proofs.codes.Positions.{sum_at}
use Rattle.bch.proofs.decoding.Decoder.{attempted}
use Rattle.bch.proofs.algebra.Kappa.{slope, moved}
use Rattle.bch.proofs.decoding.Elements.{if_zero, zero_is, zero_not, not_nil, quotient}
use Rattle.bch.proofs.decoding.KappaDecoder.{Solves, root_by_kappa, scaled_apart, third_root, next_root, thirds_apart, kappa, scale, fifthed}
use Rattle.bch.proofs.decoding.KappaDecoder.{nonzero, trio, by_cubes, by_kappa, cubed_log, fifthed_log}
use Rattle.bch.proofs.decoding.ElementLists.{cubes_none, cubes_odd, cubes_three, kappa_none, kappa_three}
use Rattle.bch.proofs.decoding.KappaSums.{within, attempted_within, trio_sums}
use Rattle.bch.proofs.tables.CodeTables.{CodeTables, TrioRoot, log_in, powers_in, roots_in, folded, folded_lt, folded_power, primitive_code}
use Rattle.bch.proofs.tables.CodeTables.{log_below, power_at, roots_at}
use Rattle.bch.proofs.logarithms.LogRoots.{trio_solves, first_of, first_in, second_of, second_in, first_some, second_none, second_some, first_at, second_at}
use Rattle.bch.proofs.logarithms.LogLocator.{trio_in, cubes_in, kappa_in, attempted_lost, nonzero_skip, nonzero_take, nonzero_two, nothing}

-- ---- three errors

module _ (m : ℕ) (ts : List ℕ) (f : CodeTables m 3 ts) (n : ℕ) where
  abbrev g : Primitive m
  g = primitive_code m 3 ts f

  abbrev K : Field2 (none m) (one m g) (plus m) (product m g)
  K = field m g

  abbrev R : ℕ → ℕ
  R = roots_in m ts

  -- two roots and their sum: at most one of the three elements is 0
  trio_within : (s y z : ℕ) → s < 2 ^ m → y < 2 ^ m → z < 2 ^ m → y ≢ z → y ≢ 0 → z ≢ 0 → trio_in n ts s y z ≡ within n (map (log m) (trio s y z))
  unfolding trio_in trio
  trio_within s y z hs hy hz apart ny nz =
      go (ℕ_discrete x1 0) (ℕ_discrete x2 0) (ℕ_discrete x3 0)
      ∙ ap (λ (v : ℕ). within n (map (log m) (nonzero (x1 ∷ x2 ∷ v ∷ [])))) (xor_assoc s y z)
    where
      x1 : ℕ
      x1 = bit_xor s y

      x2 : ℕ
      x2 = bit_xor s z

      x3 : ℕ
      x3 = bit_xor x1 z

      h1 : x1 < 2 ^ m
      h1 = xor_lt m s y hs hy

      h2 : x2 < 2 ^ m
      h2 = xor_lt m s z hs hz

      h3 : x3 < 2 ^ m
      h3 = xor_lt m x1 z h1 hz

      p1 : ℕ
      p1 = log_in ts x1

      p2 : ℕ
      p2 = log_in ts x2

      p3 : ℕ
      p3 = log_in ts x3

      all : Option (List ℕ)
      all = within n (p1 ∷ p2 ∷ p3 ∷ [])

      left : Option (List ℕ)
      left = if_zero x3 (within n (p1 ∷ p2 ∷ [])) all

      rest : Option (List ℕ)
      rest = if_zero x2 (within n (p1 ∷ p3 ∷ [])) left

      two : (a b : ℕ) → a ≢ 0 → b ≢ 0 → a < 2 ^ m → b < 2 ^ m → (L : List ℕ) → L ≡ a ∷ b ∷ []
          → within n (log_in ts a ∷ log_in ts b ∷ []) ≡ within n (map (log m) L)
      two a b na nb ha hb L e =
          ap₂ (λ (u v : ℕ). within n (u ∷ v ∷ [])) (f.logs a na ha) (f.logs b nb hb) ∙ ap (λ (l : List ℕ). within n (map (log m) l)) (sym e)

      go : Dec (x1 ≡ 0) → Dec (x2 ≡ 0) → Dec (x3 ≡ 0) → if_zero x1 (within n (p2 ∷ p3 ∷ [])) rest ≡ within n (map (log m) (nonzero (x1 ∷ x2 ∷ x3 ∷ [])))
      go (yes e) k l =
          let q : s ≡ y = xor_zero→eq s y e in
          let n2 : x2 ≢ 0 = λ o. apart (sym q ∙ xor_zero→eq s z o) in
          let n3 : x3 ≢ 0 = λ o. nz (sym (ap (λ (u : ℕ). bit_xor u z) e) ∙ o) in
          zero_is x1 (within n (p2 ∷ p3 ∷ [])) rest e
          ∙ two x2 x3 n2 n3 h2 h3 (nonzero (x1 ∷ x2 ∷ x3 ∷ [])) (nonzero_skip x1 (x2 ∷ x3 ∷ []) e ∙ nonzero_two x2 x3 n2 n3)
      go (no n1) (yes e) l =
          let q : s ≡ z = xor_zero→eq s z e in
          let n3 : x3 ≢ 0 = λ o. ny (sym (xor_undo s y) ∙ ap (bit_xor s) (xor_zero→eq x1 z o ∙ sym q) ∙ xor_self s) in
          zero_not x1 (within n (p2 ∷ p3 ∷ [])) rest n1 ∙ zero_is x2 (within n (p1 ∷ p3 ∷ [])) left e
          ∙ two x1 x3 n1 n3 h1 h3 (nonzero (x1 ∷ x2 ∷ x3 ∷ []))
          (nonzero_take x1 (x2 ∷ x3 ∷ []) (x3 ∷ []) n1 (nonzero_skip x2 (x3 ∷ []) e ∙ nonzero_take x3 [] [] n3 nothing))
      go (no n1) (no n2) (yes e) =
          zero_not x1 (within n (p2 ∷ p3 ∷ [])) rest n1 ∙ zero_not x2 (within n (p1 ∷ p3 ∷ [])) left n2 ∙ zero_is x3 (within n (p1 ∷ p2 ∷ [])) all e
          ∙ two x1 x2 n1 n2 h1 h2 (nonzero (x1 ∷ x2 ∷ x3 ∷ []))
          (nonzero_take x1 (x2 ∷ x3 ∷ []) (x2 ∷ []) n1 (nonzero_take x2 (x3 ∷ []) [] n2 (nonzero_skip x3 [] e ∙ nothing)))
      go (no n1) (no n2) (no n3) =
          zero_not x1 (within n (p2 ∷ p3 ∷ [])) rest n1 ∙ zero_not x2 (within n (p1 ∷ p3 ∷ [])) left n2 ∙ zero_not x3 (within n (p1 ∷ p2 ∷ [])) all n3
          ∙ ap₂ (λ (u v : ℕ). within n (u ∷ v ∷ p3 ∷ [])) (f.logs x1 n1 h1) (f.logs x2 n2 h2)
          ∙ ap (λ (u : ℕ). within n (log m x1 ∷ log m x2 ∷ u ∷ [])) (f.logs x3 n3 h3)
          ∙ ap (λ (l : List ℕ). within n (map (log m) l))
          (sym (nonzero_take x1 (x2 ∷ x3 ∷ []) (x2 ∷ x3 ∷ []) n1 (nonzero_two x2 x3 n2 n3)))

  module _ (s1 s3 s5 : El m) (nd : det2 K s1 s3 ≡ none m → ⊥) where
    abbrev D : El m
    D = det2 K s1 s3

    abbrev E : El m
    E = slope K s1 s5

    empty_lost : lost ≡ attempted m 3 n s1.0 s3.0 s5.0 []
    unfolding sum_at
    empty_lost =
        attempted_lost m 3 n s1.0 s3.0 s5.0 [] (omega arith)
        (λ b s. nd (same m (ap₂ (λ (u v : ℕ). bit_xor (cubed m u) v) (sym s.sum1) (sym (s.sum3 (omega arith))) ∙ xor_zero_r (cubed m 0)
        ∙ mul_zero_r m g (mul m 0 0))))

    trio_located : (y z : El m) → (y ≡ z → ⊥) → y.0 ≢ 0 → z.0 ≢ 0 → moved K D E y ≡ none m → moved K D E z ≡ none m
        → trio_in n ts s1.0 y.0 z.0 ≡ attempted m 3 n s1.0 s3.0 s5.0 (trio s1.0 y.0 z.0)
    trio_located y z apart ny nz hy hz =
        trio_within s1.0 y.0 z.0 s1.1 y.1 z.1 (λ e. apart (same m e)) ny nz
        ∙ attempted_within m 3 n s1.0 s3.0 s5.0 (trio s1.0 y.0 z.0) (trio_sums m g s1 s3 s5 nd y z apart hy hz)

    pub cubes_located : E ≡ none m → cubes_in m n ts s1.0 D.0 ≡ attempted m 3 n s1.0 s3.0 s5.0 (by_cubes m s1.0 D.0)
    unfolding cubes_in
    cubes_located ze = go (ℕ_discrete (p % 3) 0) (ℕ_discrete (l % 3) 0)
      where
        p : ℕ
        p = 2 ^ m - 1

        d : ℕ
        d = D.0

        nd' : d ≢ 0
        nd' = not_nil m g D nd

        l : ℕ
        l = log_in ts d

        is_log : l ≡ log m d
        is_log = f.logs d nd' D.1

        small : l < 2 ^ m - 1
        small = log_below m 3 ts f d nd' D.1

        Y : ℕ
        Y = powers_in m ts (l / 3) % 1024

        Z : ℕ
        Z = powers_in m ts (l / 3 + p / 3) % 1024

        tried : Option (List ℕ)
        tried = trio_in n ts s1.0 Y Z

        go : Dec (p % 3 ≡ 0) → Dec (l % 3 ≡ 0) → if_zero (p % 3) (if_zero (l % 3) tried lost) lost ≡ attempted m 3 n s1.0 s3.0 s5.0 (by_cubes m s1.0 d)
        go (no k) o =
            zero_not (p % 3) (if_zero (l % 3) tried lost) lost k ∙ empty_lost ∙ ap (attempted m 3 n s1.0 s3.0 s5.0) (cubes_none m s1.0 d p refl k)
        go (yes k) (no o) =
            zero_is (p % 3) (if_zero (l % 3) tried lost) lost k ∙ zero_not (l % 3) tried lost o ∙ empty_lost
            ∙ ap (attempted m 3 n s1.0 s3.0 s5.0) (cubes_odd m s1.0 d p l refl k is_log o)
        go (yes k) (yes o) =
            zero_is (p % 3) (if_zero (l % 3) tried lost) lost k ∙ zero_is (l % 3) tried lost o
            ∙ ap₂ (trio_in n ts s1.0) at_y at_z
            ∙ trio_located y z (thirds_apart m g D E nd ze k o') (alpha_nonzero m g (log m d / 3)) (alpha_nonzero m g (log m d / 3 + p / 3))
            (third_root m g D E nd ze k o') (next_root m g D E nd ze k o')
            ∙ ap (attempted m 3 n s1.0 s3.0 s5.0)
            (ap₂ (trio s1.0) (sym at_y) (sym at_z) ∙ cubes_three m s1.0 d p l refl k is_log Y Z o (power_at m 3 ts f (l / 3) l_y)
            (power_at m 3 ts f (l / 3 + p / 3) l_z))
          where
            o' : log m d % 3 ≡ 0
            o' = ap (λ (u : ℕ). u % 3) (sym is_log) ∙ o

            y : El m
            y = power m g (log m d / 3)

            z : El m
            z = power m g (log m d / 3 + p / 3)

            l_y : l / 3 < 2 ^ m + 7
            l_y = omega (arith, small)

            l_z : l / 3 + p / 3 < 2 ^ m + 7
            l_z = omega (arith, small)

            at_y : Y ≡ alpha m (log m d / 3)
            at_y = power_at m 3 ts f (l / 3) l_y ∙ ap (λ (u : ℕ). alpha m (u / 3)) is_log

            at_z : Z ≡ alpha m (log m d / 3 + p / 3)
            at_z = power_at m 3 ts f (l / 3 + p / 3) l_z ∙ ap (λ (u : ℕ). alpha m (u / 3 + p / 3)) is_log

    pub kappa_located : (E ≡ none m → ⊥)
        → kappa_in m n ts s1.0 D.0 E.0 ≡ attempted m 3 n s1.0 s3.0 s5.0 (by_kappa m (first_in m R) (second_in m R) s1.0 D.0 E.0)
    unfolding kappa_in
    kappa_located ne = go (lt_or_le r 1024)
      where
        p : ℕ
        p = 2 ^ m - 1

        d : ℕ
        d = D.0

        e : ℕ
        e = E.0

        nd' : d ≢ 0
        nd' = not_nil m g D nd

        ne' : e ≢ 0
        ne' = not_nil m g E ne

        ld : ℕ
        ld = log_in ts d

        le : ℕ
        le = log_in ts e

        log_d : ld ≡ log m d
        log_d = f.logs d nd' D.1

        log_e : le ≡ log m e
        log_e = f.logs e ne' E.1

        small_d : ld < 2 ^ m - 1
        small_d = log_below m 3 ts f d nd' D.1

        small_e : le < 2 ^ m - 1
        small_e = log_below m 3 ts f e ne' E.1

        is_d : alpha m ld ≡ d
        is_d = ap (alpha m) log_d ∙ alpha_log m g d (pos_of_ne-zero nd') D.1

        is_e : alpha m le ≡ e
        is_e = ap (alpha m) log_e ∙ alpha_log m g e (pos_of_ne-zero ne') E.1

        -- κ
        x : ℕ
        x = folded m (3 * le + 5 * (p - ld))

        hx : x < 2 ^ m + 7
        hx = folded_lt m (3 * le + 5 * (p - ld)) (omega (arith, small_d, small_e))

        k : ℕ
        k = kappa m d e

        sum_k : 3 * le + 5 * (p - ld) + 5 * ld ≡ 5 * (2 ^ m - 1) + 3 * le
        sum_k = omega (arith, small_d)

        cube_e : alpha m (3 * le) ≡ cubed m e
        cube_e = ap (λ (u : ℕ). alpha m (3 * u)) log_e ∙ sym (cubed_log m g e ne' E.1)

        fifth_d : alpha m (5 * ld) ≡ fifthed m d
        fifth_d = ap (λ (u : ℕ). alpha m (5 * u)) log_d ∙ sym (fifthed_log m g d nd' D.1)

        at_k : alpha m x ≡ k
        at_k =
            folded_power m g (3 * le + 5 * (p - ld)) ∙ sym (over_alpha m g (3 * le) (5 * ld) (3 * le + 5 * (p - ld)) 5 sum_k)
            ∙ ap₂ (over m) cube_e fifth_d

        -- what the list has there
        r : ℕ
        r = roots_in m ts x

        same_r : r ≡ R (log m (alpha m x))
        same_r = sym (roots_at m 3 ts f x hx)

        first_k : first_in m R k ≡ first_of m r
        first_k = ap (first_in m R) (sym at_k) ∙ first_at m g R x r same_r

        second_k : second_in m R k ≡ second_of m r
        second_k = ap (second_in m R) (sym at_k) ∙ second_at m g R x r same_r

        -- D2² / E
        s : ℕ
        s = 2 * ld + (p - le)

        sum_s : s + le ≡ 1 * (2 ^ m - 1) + 2 * ld
        sum_s = omega (arith, small_e)

        square_d : alpha m (2 * ld) ≡ square m d
        square_d =
            let q : 2 * ld ≡ ld + ld = omega arith in
            ap (alpha m) q ∙ sym (mul_alpha m g ld ld) ∙ ap (λ (u : ℕ). mul m u u) is_d

        at_s : alpha m s ≡ scale m d e
        at_s = sym (over_alpha m g (2 * ld) le s 1 sum_s) ∙ ap₂ (over m) square_d is_e

        a : ℕ
        a = r % 1024

        b : ℕ
        b = r / 1024

        Y : ℕ
        Y = powers_in m ts (folded m (s + a)) % 1024

        Z : ℕ
        Z = powers_in m ts (folded m (s + b)) % 1024

        try : ℕ → ℕ → Option (List ℕ)
        try u v = trio_in n ts s1.0 u v

        go : (r < 1024) ⊎ (1024 ≤ r)
            → cond (ltb r 1024) lost (try Y Z) ≡ attempted m 3 n s1.0 s3.0 s5.0 (by_kappa m (first_in m R) (second_in m R) s1.0 d e)
        go (inl l) =
            ap (λ (c : Bool). cond c lost (try Y Z)) (lt-ltb r 1024 l) ∙ empty_lost
            ∙ ap (attempted m 3 n s1.0 s3.0 s5.0)
            (kappa_none m (first_in m R) (second_in m R) s1.0 d e k refl 0 (sym (second_k ∙ second_none m r l)) refl)
        go (inr l) =
            ap (λ (c : Bool). cond c lost (try Y Z)) (le-ltb r 1024 l) ∙ ap₂ try at_Y at_Z
            ∙ trio_located y z (scaled_apart m g D E nd ne u v apart) (λ o. alpha_nonzero m g (a + s) (sym y_is ∙ o))
            (λ o. alpha_nonzero m g (b + s) (sym z_is ∙ o))
            ((root_by_kappa m g D E nd ne u).1 solves_a) ((root_by_kappa m g D E nd ne v).1 solves_b)
            ∙ ap (attempted m 3 n s1.0 s3.0 s5.0)
            (kappa_three m (first_in m R) (second_in m R) s1.0 d e k refl (alpha m b) (alpha m a) (scale m d e) y.0 z.0
            (sym (second_k ∙ second_some m r l)) (sym (first_k ∙ first_some m r nr)) (alpha_nonzero m g b) refl refl refl)
          where
            nr : r ≢ 0
            nr o = omega arith

            i : ℕ
            i = log m (alpha m x)

            hi : i < 2 ^ m - 1
            hi = log_lt m g (alpha m x) (pos_of_ne-zero (alpha_nonzero m g x)) (alpha_lt m g x)

            at_i : alpha m i ≡ k
            at_i = alpha_log m g (alpha m x) (pos_of_ne-zero (alpha_nonzero m g x)) (alpha_lt m g x) ∙ at_k

            root_a : TrioRoot m i a
            root_a = subst (λ (o : ℕ). TrioRoot m i (o % 1024)) (sym same_r) ((f.trios refl).one i hi (λ o. nr (same_r ∙ o))).0

            both : TrioRoot m i b × (b ≢ a)
            both =
                subst (λ (o : ℕ). TrioRoot m i (o / 1024) × (o / 1024 ≢ o % 1024)) (sym same_r)
                ((f.trios refl).two i hi (subst (λ (o : ℕ). 1024 ≤ o) same_r l))

            solves_a : Solves m k (alpha m a)
            solves_a = subst (λ (o : ℕ). Solves m o (alpha m a)) at_i (trio_solves m g R i a root_a)

            solves_b : Solves m k (alpha m b)
            solves_b = subst (λ (o : ℕ). Solves m o (alpha m b)) at_i (trio_solves m g R i b both.0)

            u : El m
            u = power m g a

            v : El m
            v = power m g b

            apart : alpha m a ≢ alpha m b
            apart o = both.1 (sym (alpha_once m g a b root_a.below both.0.below o))

            y : El m
            y = product m g u (quotient m g (sq K D) E)

            z : El m
            z = product m g v (quotient m g (sq K D) E)

            y_is : y.0 ≡ alpha m (a + s)
            y_is = ap (mul m (alpha m a)) (sym at_s) ∙ mul_alpha m g a s

            z_is : z.0 ≡ alpha m (b + s)
            z_is = ap (mul m (alpha m b)) (sym at_s) ∙ mul_alpha m g b s

            at_Y : Y ≡ y.0
            at_Y =
                let q : s + a ≡ a + s = omega arith in
                power_at m 3 ts f (folded m (s + a)) (folded_lt m (s + a) (omega (arith, small_d, small_e, root_a.below))) ∙ folded_power m g (s + a)
                ∙ ap (alpha m) q ∙ sym y_is

            at_Z : Z ≡ z.0
            at_Z =
                let q : s + b ≡ b + s = omega arith in
                power_at m 3 ts f (folded m (s + b)) (folded_lt m (s + b) (omega (arith, small_d, small_e, both.0.below))) ∙ folded_power m g (s + b)
                ∙ ap (alpha m) q ∙ sym z_is
