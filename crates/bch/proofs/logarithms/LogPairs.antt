-- Two errors by logarithms: two elements that need no check of their sums. Assumes nothing.
use Prim.Native.Nat.{ℕ, ◌+◌, ◌-◌, ◌*◌, ◌/◌, ◌%◌, ◌^◌, ◌≤◌, ◌<◌}
use native.Mathlib.Nat.{one-mul, pos_of_ne-zero}
use native.Mathlib.Omega.{arith}
use native.Mathlib.Decide.{ℕ_discrete}
use mathlib.Core.Path.{◌≡◌, refl, sym, ap, ap₂, ◌∙◌, subst}
use mathlib.Core.Logic.{◌≢◌}
use mathlib.Core.List.{List, [], ◌∷◌, map}
use mathlib.Core.Option.{none as lost}
use lib.Bits.{bit_xor, xor_lt}
use Rattle.galois.specs.Field.{alpha, log, mul, over}
use Rattle.galois.proofs.Primitive.{Primitive}
use Rattle.galois.proofs.Field2.{Field2, ⊕-cancel_self}
use Rattle.galois.proofs.FieldLaws.{alpha_lt, alpha_nonzero, alpha_log, log_lt, mul_lt, mul_alpha, mul_zero_r, mul_xor, mul_one_r}
use Rattle.galois.proofs.FieldOf.{El, same, none, one, plus, product, field}
use Rattle.galois.proofs.FieldTables.{over_alpha}
use Rattle.galois.proofs.Logs.{log_zero}
use Rattle.bch.specs.Words.{Below}
use Rattle.bch.specs.Locator.{cubed, d2}
use Rattle.bch.proofs.algebra.Ring2.{nil, v0, v1, ◌⊞◌, ◌⊠◌, solve}
use Rattle.bch.proofs.algebra.Peterson.{SQ, CUBE}
use Rattle.bch.proofs.algebra.Peterson.{sq, cube, det2}
use Rattle.bch.proofs.algebra.Unique.{total}
use Rattle.bch.proofs.codes.Positions.{sum_at}
use Rattle.bch.proofs.decoding.Located.{Summed}
use Rattle.bch.proofs.decoding.Decoder.{attempted}
use Rattle.bch.proofs.decoding.Elements.{if_zero, zero_is, zero_not, quotient, divided}
use Rattle.bch.proofs.algebra.Roots.{cube_not_zero}
use Rattle.bch.proofs.tables.RootTables.{quadratic}
use Rattle.bch.proofs.decoding.KappaDecoder.{nonzero, cubed_log}
use Rattle.bch.proofs.decoding.ElementLists.{pair_by, pair_two}
use Rattle.bch.proofs.decoding.KappaSums.{within, attempted_within, sum_logs}
use Rattle.bch.proofs.tables.CodeTables.{CodeTables, PairRoot, log_in, roots_in, folded, folded_lt, folded_power, reduced, log_reduced}
use Rattle.bch.proofs.tables.CodeTables.{primitive_code, log_below, roots_at}
use Rattle.bch.proofs.logarithms.LogRoots.{quad_of, quad_in, quad_none, quad_some, quad_at}
use Rattle.bch.proofs.logarithms.LogLocator.{pair_in, attempted_lost, nonzero_two}

-- ---- two errors

module _ (m : ℕ) (g : Primitive m) (s1 s3 : El m) (s5 : ℕ) (n : s1.0 ≢ 0) (w : El m) where
  abbrev K : Field2 (none m) (one m g) (plus m) (product m g)
  K = field m g

  abbrev x : El m
  x = product m g s1 w

  -- they add up to the syndromes by themselves
  pub pair_summed : quadratic m w.0 ≡ over m (d2 m s1.0 s3.0) (cubed m s1.0) → mul m s1.0 w.0 ≢ 0 → bit_xor (mul m s1.0 w.0) s1.0 ≢ 0
      → Summed m 2 s1.0 s3.0 s5 (map (log m) (mul m s1.0 w.0 ∷ bit_xor (mul m s1.0 w.0) s1.0 ∷ []))
  pair_summed q nx ny =
      record {
        few = omega arith;
        sum1 = ap (λ (E : List ℕ). sum_at m 1 (map (log m) E)) (sym both)
            ∙ sum_logs m g 1 (λ a. a) refl (λ a k. ap (alpha m) (one-mul (log m a.0)) ∙ alpha_log m g a.0 (pos_of_ne-zero k) a.1) A
            ∙ (λ i. (first i).0);
        sum3 = λ h. ap (λ (E : List ℕ). sum_at m 3 (map (log m) E)) (sym both)
            ∙ sum_logs m g 3 (cube K) (mul_zero_r m g (mul m 0 0)) (λ a k. sym (cubed_log m g a.0 k a.1)) A
            ∙ (λ i. (third i).0);
        sum5 = λ h. absurd (omega arith);
      }
    where
      A : List (El m)
      A = x ∷ plus m x s1 ∷ []

      both : nonzero (x.0 ∷ bit_xor x.0 s1.0 ∷ []) ≡ x.0 ∷ bit_xor x.0 s1.0 ∷ []
      both = nonzero_two x.0 (bit_xor x.0 s1.0) nx ny

      first : total K (λ a. a) A ≡ s1
      first = solve K (x ∷ s1 ∷ []) (v0 ⊞ ((v0 ⊞ v1) ⊞ nil)) v1 refl

      D : El m
      D = det2 K s1 s3

      by : product m g (plus m (sq K w) w) (cube K s1) ≡ D
      by =
          let e : plus m (sq K w) w ≡ quotient m g D (cube K s1) = same m q in
          ap (λ z. product m g z (cube K s1)) e ∙ divided m g D (cube K s1) (cube_not_zero K s1 (λ z. n (λ i. (z i).0)))

      third : total K (cube K) A ≡ s3
      third =
          solve K (s1 ∷ w ∷ []) (CUBE (v0 ⊠ v1) ⊞ (CUBE (v0 ⊠ v1 ⊞ v0) ⊞ nil)) (CUBE v0 ⊞ (SQ v1 ⊞ v1) ⊠ CUBE v0) refl
          ∙ ap (λ z. plus m (cube K s1) z) by ∙ ⊕-cancel_self K (cube K s1) s3

module _ (m : ℕ) (ts : List ℕ) (f : CodeTables m 2 ts) (n s1 s3 s5 : ℕ) (fits : n ≤ 2 ^ m - 1) (h1 : s1 < 2 ^ m) (h3 : s3 < 2 ^ m) where
  abbrev g : Primitive m
  g = primitive_code m 2 ts f

  abbrev R : ℕ → ℕ
  R = roots_in m ts

  abbrev d : ℕ
  d = d2 m s1 s3

  pub pair_located : s1 ≢ 0 → d2 m s1 s3 ≢ 0
      → pair_in m n ts (log_in ts s1) (d2 m s1 s3) ≡ attempted m 2 n s1 s3 s5 (pair_by m (quad_in m (roots_in m ts)) s1 (d2 m s1 s3))
  unfolding pair_in Below
  pair_located n1 nd = go (ℕ_discrete r 0)
    where
      p : ℕ
      p = 2 ^ m - 1

      hd : d < 2 ^ m
      hd = xor_lt m (cubed m s1) s3 (mul_lt m g (mul m s1 s1) s1 h1) h3

      l1 : ℕ
      l1 = log_in ts s1

      ld : ℕ
      ld = log_in ts d

      small1 : l1 < 2 ^ m - 1
      small1 = log_below m 2 ts f s1 n1 h1

      smalld : ld < 2 ^ m - 1
      smalld = log_below m 2 ts f d nd hd

      x : ℕ
      x = folded m (ld + 3 * (p - l1))

      hx : x < 2 ^ m + 7
      hx = folded_lt m (ld + 3 * (p - l1)) (omega (arith, small1, smalld))

      is1 : alpha m l1 ≡ s1
      is1 = ap (alpha m) (f.logs s1 n1 h1) ∙ alpha_log m g s1 (omega arith) h1

      isd : alpha m ld ≡ d
      isd = ap (alpha m) (f.logs d nd hd) ∙ alpha_log m g d (omega arith) hd

      cube1 : alpha m (3 * l1) ≡ cubed m s1
      cube1 = ap (λ (y : ℕ). alpha m (3 * y)) (f.logs s1 n1 h1) ∙ sym (cubed_log m g s1 n1 h1)

      c : ℕ
      c = over m d (cubed m s1)

      sum : ld + 3 * (p - l1) + 3 * l1 ≡ 3 * (2 ^ m - 1) + ld
      sum = omega (arith, small1)

      atc : alpha m x ≡ c
      atc = folded_power m g (ld + 3 * (p - l1)) ∙ sym (over_alpha m g ld (3 * l1) (ld + 3 * (p - l1)) 3 sum) ∙ ap₂ (over m) isd cube1

      r : ℕ
      r = roots_in m ts x

      same_r : r ≡ R (log m (alpha m x))
      same_r = sym (roots_at m 2 ts f x hx)

      quad_c : quad_in m R c ≡ quad_of m r
      quad_c = ap (quad_in m R) (sym atc) ∙ quad_at m g R x r same_r

      go : Dec (r ≡ 0) → if_zero r lost (within n (reduced p (l1 + r % 1024) ∷ reduced p (l1 + r / 1024) ∷ []))
          ≡ attempted m 2 n s1 s3 s5 (pair_by m (quad_in m R) s1 d)
      go (yes z) =
          let q : 0 ≡ mul m s1 (quad_in m R c) = sym (ap (mul m s1) (quad_c ∙ quad_none m r z) ∙ mul_zero_r m g s1) in
          let E : List ℕ = 0 ∷ bit_xor 0 s1 ∷ [] in
          zero_is r lost (within n (reduced p (l1 + r % 1024) ∷ reduced p (l1 + r / 1024) ∷ [])) z
          ∙ attempted_lost m 2 n s1 s3 s5 E (omega arith) beyond
          ∙ ap (attempted m 2 n s1 s3 s5) (pair_two m (quad_in m R) s1 d 0 n1 q)
        where
          beyond : Below n (map (log m) (0 ∷ bit_xor 0 s1 ∷ [])) → Summed m 2 s1 s3 s5 (map (log m) (0 ∷ bit_xor 0 s1 ∷ [])) → ⊥
          beyond b s = omega (arith, b.0, log_zero m g)
      go (no nr) =
          zero_not r lost (within n (reduced p (l1 + r % 1024) ∷ reduced p (l1 + r / 1024) ∷ [])) nr
          ∙ ap₂ (λ (y z : ℕ). within n (y ∷ z ∷ [])) (sym log_a ∙ ap (log m) (sym is_a)) (sym log_b ∙ ap (log m) (sym is_b))
          ∙ attempted_within m 2 n s1 s3 s5 (mul m s1 w ∷ bit_xor (mul m s1 w) s1 ∷ [])
          (pair_summed m g (s1, h1) (s3, h3) s5 n1 (w, alpha_lt m g a) (pr.solves ∙ ate ∙ atc) (λ z. alpha_nonzero m g (l1 + a) (sym is_a ∙ z))
          (λ z. alpha_nonzero m g (l1 + b) (sym is_b ∙ z)))
          ∙ ap (attempted m 2 n s1 s3 s5) (pair_two m (quad_in m R) s1 d (mul m s1 w) n1 (ap (mul m s1) (sym (quad_c ∙ quad_some m r nr))))
        where
          e : ℕ
          e = log m (alpha m x)

          pr : PairRoot m e r
          pr =
              subst (PairRoot m e) (sym same_r)
              ((f.pairs refl).right e (log_lt m g (alpha m x) (pos_of_ne-zero (alpha_nonzero m g x)) (alpha_lt m g x)) (λ z. nr (same_r ∙ z)))

          ate : alpha m e ≡ alpha m x
          ate = alpha_log m g (alpha m x) (pos_of_ne-zero (alpha_nonzero m g x)) (alpha_lt m g x)

          a : ℕ
          a = r % 1024

          b : ℕ
          b = r / 1024

          w : ℕ
          w = alpha m a

          is_a : mul m s1 w ≡ alpha m (l1 + a)
          is_a = ap (λ (y : ℕ). mul m y w) (sym is1) ∙ mul_alpha m g l1 a

          is_b : bit_xor (mul m s1 w) s1 ≡ alpha m (l1 + b)
          is_b =
              ap (bit_xor (mul m s1 w)) (sym (mul_one_r m g s1 h1)) ∙ sym (mul_xor m g s1 w 1 (alpha_lt m g a) g.room)
              ∙ ap (mul m s1) (sym pr.next) ∙ ap (λ (y : ℕ). mul m y (alpha m b)) (sym is1) ∙ mul_alpha m g l1 b

          log_a : log m (alpha m (l1 + a)) ≡ reduced p (l1 + a)
          log_a = log_reduced m g (l1 + a) (omega (arith, small1, pr.first_lt))

          log_b : log m (alpha m (l1 + b)) ≡ reduced p (l1 + b)
          log_b = log_reduced m g (l1 + b) (omega (arith, small1, pr.second_lt))
