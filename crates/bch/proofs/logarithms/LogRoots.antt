-- The roots by exponents as tables of elements: from the logarithms that a list holds, the functions that the decoder by elements asks
-- for. Assumes nothing.
use Prim.Native.Nat.{ℕ, zero, suc, ◌-◌, ◌*◌, ◌/◌, ◌%◌, ◌^◌, ◌≤◌, ◌<◌}
use native.Mathlib.Omega.{arith}
use native.Mathlib.Decide.{ℕ_discrete}
use mathlib.Core.Path.{◌≡◌, refl, sym, ap, ◌∙◌, subst}
use mathlib.Core.Logic.{◌≢◌}
use mathlib.Core.Bool.{cond}
use mathlib.Core.List.{List}
use borrow.Author.Tests.{lt-ltb, le-ltb}
use lib.Bits.{bit_xor, xor_lt}
use lib.Dec.{ltb}
use lib.Pow.{pow_pos}
use Rattle.galois.specs.Field.{alpha, log, mul}
use Rattle.galois.proofs.Primitive.{Primitive}
use Rattle.galois.proofs.FieldLaws.{alpha_lt, alpha_nonzero, alpha_log, alpha_once, log_lt, mul_lt, mul_zero_l, mul_zero_r, mul_one_r}
use Rattle.galois.proofs.Logs.{over_lt, over_is}
use Rattle.bch.specs.Locator.{cubed}
use Rattle.bch.proofs.decoding.Elements.{Quadratics, if_zero, zero_is, zero_not}
use Rattle.bch.proofs.decoding.KappaDecoder.{kappa_at, Solves, Kappas, cubed_log, up_not}
use Rattle.bch.proofs.tables.RootTables.{quadratic, quadratic_lt}
use Rattle.bch.proofs.decoding.ClosedForm.{Tables}
use Rattle.bch.proofs.tables.CodeTables.{PairRoots, TrioRoot, TrioRoots, CodeTables, roots_in, primitive_code, kappa_log}

-- ---- t = 2

-- w, by what the list has at the exponent of w² + w
unfoldable pub quad_of : ℕ → ℕ → ℕ
unfolding if_zero
quad_of m r = if_zero r 0 (alpha m (r % 1024))

unfoldable pub quad_in : ℕ → (ℕ → ℕ) → ℕ → ℕ
unfolding if_zero quad_of
quad_in m R c = if_zero c 0 (quad_of m (R (log m c)))

-- ---- t = 3

-- the last w, and the one before, by what the list has at the exponent of their κ
unfoldable pub first_of : ℕ → ℕ → ℕ
unfolding if_zero
first_of m r = if_zero r 0 (alpha m (r % 1024))

unfoldable pub second_of : ℕ → ℕ → ℕ
second_of m r = cond (ltb r 1024) 0 (alpha m (r / 1024))

unfoldable pub first_in : ℕ → (ℕ → ℕ) → ℕ → ℕ
unfolding if_zero first_of
first_in m R k = if_zero k 0 (first_of m (R (log m k)))

unfoldable pub second_in : ℕ → (ℕ → ℕ) → ℕ → ℕ
unfolding if_zero second_of
second_in m R k = if_zero k 0 (second_of m (R (log m k)))

pub second_none : (m r : ℕ) → r < 1024 → second_of m r ≡ 0
unfolding second_of
second_none m r h = rw (lt-ltb r 1024 h) refl

pub second_some : (m r : ℕ) → 1024 ≤ r → second_of m r ≡ alpha m (r / 1024)
unfolding second_of
second_some m r h = rw (le-ltb r 1024 h) refl

pub quad_none : (m r : ℕ) → r ≡ 0 → quad_of m r ≡ 0
unfolding quad_of
quad_none m r h = zero_is r 0 (alpha m (r % 1024)) h

pub quad_some : (m r : ℕ) → r ≢ 0 → quad_of m r ≡ alpha m (r % 1024)
unfolding quad_of
quad_some m r h = zero_not r 0 (alpha m (r % 1024)) h

pub first_some : (m r : ℕ) → r ≢ 0 → first_of m r ≡ alpha m (r % 1024)
unfolding first_of
first_some m r h = zero_not r 0 (alpha m (r % 1024)) h

module _ (m : ℕ) (g : Primitive m) (R : ℕ → ℕ) where
  -- what is read at a power
  pub quad_at : (x r : ℕ) → r ≡ R (log m (alpha m x)) → quad_in m R (alpha m x) ≡ quad_of m r
  unfolding quad_in
  quad_at x r e = zero_not (alpha m x) 0 (quad_of m (R (log m (alpha m x)))) (alpha_nonzero m g x) ∙ ap (quad_of m) (sym e)

  pub first_at : (x r : ℕ) → r ≡ R (log m (alpha m x)) → first_in m R (alpha m x) ≡ first_of m r
  unfolding first_in
  first_at x r e = zero_not (alpha m x) 0 (first_of m (R (log m (alpha m x)))) (alpha_nonzero m g x) ∙ ap (first_of m) (sym e)

  pub second_at : (x r : ℕ) → r ≡ R (log m (alpha m x)) → second_in m R (alpha m x) ≡ second_of m r
  unfolding second_in
  second_at x r e = zero_not (alpha m x) 0 (second_of m (R (log m (alpha m x)))) (alpha_nonzero m g x) ∙ ap (second_of m) (sym e)

  -- ---- they are what is asked for

  pub pairs_quadratics : PairRoots m (2 ^ m) R → Quadratics m (quad_in m R)
  unfolding quad_in if_zero
  pairs_quadratics f = record { below = below; solves = λ w h. solves w h (ℕ_discrete (quadratic m w) 0) }
    where
      small : (r : ℕ) → Dec (r ≡ 0) → quad_of m r < 2 ^ m
      small r (yes e) = rw (quad_none m r e) (pow_pos m)
      small r (no n) = rw (quad_some m r n) (alpha_lt m g (r % 1024))

      below : (c : ℕ) → c < 2 ^ m → quad_in m R c < 2 ^ m
      below zero h = pow_pos m
      below (suc c) h = small (R (log m (suc c))) (ℕ_discrete (R (log m (suc c))) 0)

      solves : (w : ℕ) → w < 2 ^ m → Dec (quadratic m w ≡ 0) → quadratic m (quad_in m R (quadratic m w)) ≡ quadratic m w
      solves w h (yes e) =
          let z : quad_in m R (quadratic m w) ≡ 0 = zero_is (quadratic m w) 0 (quad_of m (R (log m (quadratic m w)))) e in
          ap (quadratic m) z ∙ ap (λ (x : ℕ). bit_xor x 0) (mul_zero_l m g 0) ∙ sym e
      solves w h (no n) =
          let c = quadratic m w in
          let hc : c < 2 ^ m = quadratic_lt m g w h in
          let one : w ≢ 0 = λ z. n (ap (quadratic m) z ∙ ap (λ (x : ℕ). bit_xor x 0) (mul_zero_l m g 0)) in
          let two : w ≢ 1 = λ z. n (ap (quadratic m) z ∙ ap (λ (x : ℕ). bit_xor x 1) (mul_one_r m g 1 g.room)) in
          let there : R (log m c) ≢ 0 = f.there w (omega arith) h in
          let q : quad_in m R c ≡ alpha m (R (log m c) % 1024) = zero_not c 0 (quad_of m (R (log m c))) n ∙ quad_some m (R (log m c)) there in
          ap (quadratic m) q ∙ (f.right (log m c) (log_lt m g c (omega arith) hc) there).solves ∙ alpha_log m g c (omega arith) hc

  -- the logarithm l is a solution of κ = α^e
  pub trio_solves : (e l : ℕ) → TrioRoot m e l → Solves m (alpha m e) (alpha m l)
  unfolding alpha
  trio_solves e l h =
      let one : alpha m l ≢ 1 = λ z. let q : l ≡ 0 = alpha_once m g l 0 h.below (omega (arith, h.least, h.below)) z in omega (arith, h.least) in
      record { least = omega (arith, alpha_nonzero m g l); below = alpha_lt m g l; at = h.solves }

  module _ (f : TrioRoots m (2 ^ m - 1) R) (w : ℕ) (least : 2 ≤ w) (h : w < 2 ^ m) where
    -- what holds at its κ
    abbrev k : ℕ
    k = kappa_at m w

    abbrev r : ℕ
    r = R (log m (kappa_at m w))

    abbrev l : ℕ
    l = log m w

    is_power : alpha m l ≡ w
    is_power = alpha_log m g w (omega arith) h

    l_least : 1 ≤ l
    unfolding alpha
    l_least =
        let n : l ≢ 0 = λ z. let q : 1 ≡ w = ap (alpha m) (sym z) ∙ is_power in omega arith in
        omega arith

    k_below : k < 2 ^ m
    k_below = over_lt m g (cubed m w) (bit_xor w 1)

    k_not : k ≢ 0
    k_not z =
        let u : cubed m w ≢ 0 = λ y. alpha_nonzero m g (3 * log m w) (sym (cubed_log m g w (λ x. omega arith) h) ∙ y) in
        u (sym (over_is m g (cubed m w) (bit_xor w 1) (mul_lt m g (mul m w w) w h) (up_not m g w least h) (xor_lt m w 1 h g.room))
        ∙ ap (mul m (bit_xor w 1)) z ∙ mul_zero_r m g (bit_xor w 1))

    at_log : kappa_log m l ≡ log m k
    at_log = ap (λ (x : ℕ). log m (kappa_at m x)) is_power

    back : alpha m (log m k) ≡ k
    back = alpha_log m g k (omega (arith, k_not)) k_below

    short : log m k < 2 ^ m - 1
    short = log_lt m g k (omega (arith, k_not)) k_below

    there : r ≢ 0
    there z = f.there l l_least (log_lt m g w (omega arith) h) (ap R at_log ∙ z)

    first_is : first_in m R k ≡ alpha m (r % 1024)
    unfolding first_in
    first_is = zero_not k 0 (first_of m r) k_not ∙ first_some m r there

    one : Solves m k (first_in m R k)
    one =
        subst (λ (v : ℕ). Solves m k v) (sym first_is)
        (subst (λ (j : ℕ). Solves m j (alpha m (r % 1024))) back (trio_solves (log m k) (r % 1024) (f.one (log m k) short there).0))

    module _ (n : w ≢ first_in m R k) where
      two_there : 1024 ≤ r
      two_there =
          let d : l ≢ R (kappa_log m l) % 1024 = λ e. n (sym is_power ∙ ap (alpha m) (e ∙ ap (λ (x : ℕ). R x % 1024) at_log) ∙ sym first_is) in
          subst (λ (x : ℕ). 1024 ≤ R x) at_log (f.other l l_least (log_lt m g w (omega arith) h) d)

      second_is : second_in m R k ≡ alpha m (r / 1024)
      unfolding second_in
      second_is = zero_not k 0 (second_of m r) k_not ∙ second_some m r two_there

      two : Solves m k (second_in m R k)
      two =
          subst (λ (v : ℕ). Solves m k v) (sym second_is)
          (subst (λ (j : ℕ). Solves m j (alpha m (r / 1024))) back (trio_solves (log m k) (r / 1024) (f.two (log m k) short two_there).0))

      apart : second_in m R k ≢ first_in m R k
      apart e =
          let q : alpha m (r / 1024) ≡ alpha m (r % 1024) = sym second_is ∙ e ∙ first_is in
          (f.two (log m k) short two_there).1
          (alpha_once m g (r / 1024) (r % 1024) (f.two (log m k) short two_there).0.below (f.one (log m k) short there).0.below q)

  pub trios_kappas : TrioRoots m (2 ^ m - 1) R → Kappas m (first_in m R) (second_in m R)
  trios_kappas f = record { one = one f; two = two f; apart = apart f }

-- the tables that t errors need
pub code_tables : (m t : ℕ) (ts : List ℕ) → CodeTables m t ts
    → Tables m t (quad_in m (roots_in m ts)) (first_in m (roots_in m ts)) (second_in m (roots_in m ts))
code_tables m t ts f =
    let g = primitive_code m t ts f in
    record {
      quadratics = λ e. pairs_quadratics m g (roots_in m ts) (f.pairs e);
      kappas = λ e. trios_kappas m g (roots_in m ts) (f.trios e);
    }
