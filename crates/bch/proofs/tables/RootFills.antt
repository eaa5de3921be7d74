-- Filling the roots by exponents: one pair of elements more for t = 2, one exponent more for t = 3, as functions. Assumes nothing.
use Prim.Native.Nat.{ℕ, ◌+◌, ◌-◌, ◌*◌, ◌/◌, ◌%◌, ◌^◌, ◌≤◌, ◌<◌}
use native.Mathlib.Nat.{pos_of_ne-zero}
use native.Mathlib.Omega.{arith}
use native.Mathlib.Decide.{ℕ_discrete}
use mathlib.Core.Path.{◌≡◌, refl, sym, ap, ap₂, ◌∙◌, subst}
use mathlib.Core.Logic.{◌≢◌, ◌⊎◌, inl, inr}
use mathlib.Core.Bool.{cond}
use borrow.Author.Tests.{lt-ltb, le-ltb}
use lib.Bits.{bit_xor, xor_lt, xor_shifted, xor_zero_r}
use lib.Dec.{ltb}
use Rattle.galois.specs.Field.{alpha, log, mul, over}
use Rattle.galois.proofs.Tests.{lt_or_le}
use Rattle.galois.proofs.Xor.{xor_assoc, xor_zero→eq}
use Rattle.galois.proofs.Primitive.{Primitive}
use Rattle.galois.proofs.FieldLaws.{alpha_lt, alpha_nonzero, alpha_log, alpha_once, log_lt, log_alpha, mul_alpha, mul_xor, mul_one_r}
use Rattle.galois.proofs.FieldTables.{over_alpha}
use Rattle.galois.proofs.Logs.{over_lt, log_zero}
use Rattle.bch.specs.Locator.{cubed}
use Rattle.bch.proofs.codes.Positions.{cube_power}
use Rattle.bch.proofs.decoding.KappaDecoder.{kappa_at}
use Rattle.bch.proofs.tables.RootTables.{quadratic}
use Rattle.bch.proofs.tables.CodeTables.{PairRoot, PairRoots, TrioRoot, TrioRoots, kappa_log, reduced, log_reduced}

-- ---- t = 2

-- the exponent of v² + v
pub quadratic_log : (m : ℕ) → Primitive m → (v : ℕ) → 2 ≤ v → v < 2 ^ m → log m (quadratic m v) < 2 ^ m - 1
quadratic_log m g v l h =
    let u = bit_xor v 1 in
    let hu : u < 2 ^ m = xor_lt m v 1 h g.room in
    let nu : u ≢ 0 = λ z. let q : v ≡ 1 = xor_zero→eq v 1 z in omega arith in
    let i = log m v in
    let j = log m u in
    let q : quadratic m v ≡ alpha m (i + j) =
    ap (bit_xor (mul m v v)) (sym (mul_one_r m g v h)) ∙ sym (mul_xor m g v v 1 h g.room)
    ∙ ap₂ (mul m) (sym (alpha_log m g v (omega arith) h)) (sym (alpha_log m g u (pos_of_ne-zero nu) hu)) ∙ mul_alpha m g i j in
    rw q (log_lt m g (alpha m (i + j)) (pos_of_ne-zero (alpha_nonzero m g (i + j))) (alpha_lt m g (i + j)))

-- only exponents below the period count
pub pairs_same : (m j : ℕ) → Primitive m → j ≤ 2 ^ m → (R Q : ℕ → ℕ) → ((k : ℕ) → k < 2 ^ m - 1 → Q k ≡ R k) → PairRoots m j R → PairRoots m j Q
pairs_same m j g most R Q e f =
    record {
      right = λ k h n. subst (PairRoot m k) (sym (e k h)) (f.right k h (λ z. n (e k h ∙ z)));
      there = λ w l h z. f.there w l h (sym (e (log m (quadratic m w)) (quadratic_log m g w l (omega arith))) ∙ z);
    }

-- nothing is written
pub pairs_none : (m : ℕ) (R : ℕ → ℕ) → ((k : ℕ) → k < 2 ^ m - 1 → R k ≡ 0) → PairRoots m 2 R
pairs_none m R z = record { right = λ k h n. absurd (n (z k h)); there = λ w l h. absurd (omega arith) }

-- an even number and the next
even_next : (w : ℕ) → w % 2 ≡ 0 → bit_xor w 1 ≡ w + 1
even_next w h =
    let e : w / 2 * 2 ^ 1 ≡ w = omega arith in
    ap (λ (x : ℕ). bit_xor x 1) (sym e) ∙ xor_shifted (w / 2) 1 1 (omega arith) ∙ ap (λ (x : ℕ). x + 1) e

module _ (m : ℕ) (g : Primitive m) (w : ℕ) (even : w % 2 ≡ 0) (least : 2 ≤ w) (h : w + 1 < 2 ^ m) where
  abbrev a : ℕ
  a = log m w

  abbrev b : ℕ
  b = log m (w + 1)

  la : a < 2 ^ m - 1
  la = log_lt m g w (omega arith) (omega arith)

  lb : b < 2 ^ m - 1
  lb = log_lt m g (w + 1) (omega arith) h

  is_a : alpha m a ≡ w
  is_a = alpha_log m g w (omega arith) (omega arith)

  is_b : alpha m b ≡ w + 1
  is_b = alpha_log m g (w + 1) (omega arith) h

  a_not : a ≢ 0
  unfolding alpha
  a_not z = let q : 1 ≡ w = ap (alpha m) (sym z) ∙ is_a in omega arith

  -- w² + w is the product of w and w + 1
  product_is : quadratic m w ≡ alpha m (a + b)
  product_is =
      ap (bit_xor (mul m w w)) (sym (mul_one_r m g w (omega arith))) ∙ sym (mul_xor m g w w 1 (omega arith) (omega arith))
      ∙ ap (mul m w) (even_next w even ∙ sym is_b) ∙ ap (λ (x : ℕ). mul m x (alpha m b)) (sym is_a) ∙ mul_alpha m g a b

  next_product : quadratic m (w + 1) ≡ alpha m (a + b)
  next_product =
      let q : a + b ≡ b + a = omega arith in
      let e : bit_xor (w + 1) 1 ≡ w = ap (λ (x : ℕ). bit_xor x 1) (sym (even_next w even)) ∙ xor_assoc w 1 1 ∙ xor_zero_r w in
      ap (bit_xor (mul m (w + 1) (w + 1))) (sym (mul_one_r m g (w + 1) h)) ∙ sym (mul_xor m g (w + 1) (w + 1) 1 h (omega arith))
      ∙ ap (mul m (w + 1)) (e ∙ sym is_a) ∙ ap (λ (x : ℕ). mul m x (alpha m a)) (sym is_b) ∙ mul_alpha m g b a ∙ ap (alpha m) (sym q)

  -- the exponent of both
  pub pair_at : log m (quadratic m w) ≡ reduced (2 ^ m - 1) (a + b)
  pair_at = ap (log m) product_is ∙ log_reduced m g (a + b) (omega (arith, la, lb))

  -- one even number more, and the next
  pub pairs_more : 2 ^ m ≤ 1024 → (R Q : ℕ → ℕ) → PairRoots m w R → Q (reduced (2 ^ m - 1) (a + b)) ≡ a + 1024 * b
      → ((k : ℕ) → k < 2 ^ m - 1 → k ≢ reduced (2 ^ m - 1) (a + b) → Q k ≡ R k) → PairRoots m (w + 2) Q
  pairs_more size R Q f new old =
      record {
        right = λ k l n. right k l n (ℕ_discrete k e);
        there = λ v l u. there v l u (ℕ_discrete (log m (quadratic m v)) e);
      }
    where
      e : ℕ
      e = reduced (2 ^ m - 1) (a + b)

      r : ℕ
      r = a + 1024 * b

      r_a : r % 1024 ≡ a
      r_a = omega (arith, la)

      r_b : r / 1024 ≡ b
      r_b = omega (arith, la)

      at_e : alpha m e ≡ quadratic m w
      at_e =
          ap (alpha m) (sym (log_reduced m g (a + b) (omega (arith, la, lb))))
          ∙ alpha_log m g (alpha m (a + b)) (pos_of_ne-zero (alpha_nonzero m g (a + b))) (alpha_lt m g (a + b)) ∙ sym product_is

      root : PairRoot m e r
      root =
          record {
            first_lt = rw r_a la;
            second_lt = rw r_b lb;
            next = ap (alpha m) r_b ∙ is_b ∙ sym (even_next w even) ∙ ap (λ (x : ℕ). bit_xor x 1) (sym (ap (alpha m) r_a ∙ is_a));
            solves = ap (quadratic m) (ap (alpha m) r_a ∙ is_a) ∙ sym at_e;
          }

      right : (k : ℕ) → k < 2 ^ m - 1 → Q k ≢ 0 → Dec (k ≡ e) → PairRoot m k (Q k)
      right k l n (yes q) = subst (λ (i : ℕ). PairRoot m i (Q i)) (sym q) (subst (PairRoot m e) (sym new) root)
      right k l n (no d) = subst (PairRoot m k) (sym (old k l d)) (f.right k l (λ z. n (old k l d ∙ z)))

      there : (v : ℕ) → 2 ≤ v → v < w + 2 → Dec (log m (quadratic m v) ≡ e) → Q (log m (quadratic m v)) ≢ 0
      there v l u (yes q) z =
          let y : a + 1024 * b ≡ 0 = sym (ap Q q ∙ new) ∙ z in
          a_not (omega arith)
      there v l u (no d) z =
          let n : v ≢ w = λ q. d (ap (λ (x : ℕ). log m (quadratic m x)) q ∙ pair_at) in
          let n' : v ≢ w + 1 = λ q. d (ap (λ (x : ℕ). log m (quadratic m x)) q ∙ ap (log m) next_product ∙ log_reduced m g (a + b) (omega (arith, la, lb))) in
          let low : v < w = omega arith in
          f.there v l low (sym (old (log m (quadratic m v)) (quadratic_log m g v l (omega arith)) d) ∙ z)

-- ---- t = 3

-- e - d below the period
unfoldable pub behind : ℕ → ℕ → ℕ → ℕ
behind p e d = cond (ltb e d) (e + p - d) (e - d)

pub behind_small : (p e d : ℕ) → d ≤ e → e - d ≡ behind p e d
unfolding behind
behind_small p e d h = rw (le-ltb e d h) refl

pub behind_large : (p e d : ℕ) → e < d → e + p - d ≡ behind p e d
unfolding behind
behind_large p e d h = rw (lt-ltb e d h) refl

pub behind_lt : (p e d : ℕ) → e < p → d < p → behind p e d < p
behind_lt p e d he hd = go (lt_or_le e d)
  where
    go : (e < d) ⊎ (d ≤ e) → behind p e d < p
    go (inl l) = omega (arith, behind_large p e d l)
    go (inr l) = omega (arith, behind_small p e d l)

-- it is the exponent of the quotient
behind_power : (m : ℕ) → Primitive m → (e d : ℕ) → d < 2 ^ m - 1 → over m (alpha m e) (alpha m d) ≡ alpha m (behind (2 ^ m - 1) e d)
behind_power m g e d hd = go (lt_or_le e d)
  where
    p : ℕ
    p = 2 ^ m - 1

    go : (e < d) ⊎ (d ≤ e) → over m (alpha m e) (alpha m d) ≡ alpha m (behind p e d)
    go (inl l) = over_alpha m g e d (behind p e d) 1 (omega (arith, behind_large p e d l))
    go (inr l) = over_alpha m g e d (behind p e d) 0 (omega (arith, behind_small p e d l))

module _ (m : ℕ) (g : Primitive m) where
  -- where the κ of α^l stands: at three l less the logarithm of α^l + 1
  pub kappa_at_lem : (l e : ℕ) → 1 ≤ l → l < 2 ^ m - 1 → e < 2 ^ m - 1 → alpha m e ≡ alpha m (3 * l)
      → kappa_log m l ≡ behind (2 ^ m - 1) e (log m (bit_xor (alpha m l) 1))
  unfolding alpha
  kappa_at_lem l e least h he q =
      let w = alpha m l in
      let u = bit_xor w 1 in
      let n1 : w ≢ 1 = λ z. let y : l ≡ 0 = alpha_once m g l 0 h (omega arith) z in omega arith in
      let nu : u ≢ 0 = λ z. n1 (xor_zero→eq w 1 z) in
      let hu : u < 2 ^ m = xor_lt m w 1 (alpha_lt m g l) g.room in
      let lu : log m u < 2 ^ m - 1 = log_lt m g u (pos_of_ne-zero nu) hu in
      let k : kappa_at m w ≡ alpha m (behind (2 ^ m - 1) e (log m u)) =
      ap₂ (over m) (cube_power m g l ∙ sym q) (sym (alpha_log m g u (pos_of_ne-zero nu) hu)) ∙ behind_power m g e (log m u) lu in
      ap (log m) k ∙ log_alpha m g (behind (2 ^ m - 1) e (log m u)) (behind_lt (2 ^ m - 1) e (log m u) he lu)

  -- it is below the period
  pub kappa_log_lt : (l : ℕ) → 1 ≤ l → l < 2 ^ m - 1 → kappa_log m l < 2 ^ m - 1
  unfolding alpha
  kappa_log_lt l least h =
      let w = alpha m l in
      let u = bit_xor w 1 in
      let n1 : w ≢ 1 = λ z. let y : l ≡ 0 = alpha_once m g l 0 h (omega arith) z in omega arith in
      let nu : u ≢ 0 = λ z. n1 (xor_zero→eq w 1 z) in
      let hu : u < 2 ^ m = xor_lt m w 1 (alpha_lt m g l) g.room in
      let lu : log m u < 2 ^ m - 1 = log_lt m g u (pos_of_ne-zero nu) hu in
      let e = log m (alpha m (3 * l)) in
      let he : e < 2 ^ m - 1 = log_lt m g (alpha m (3 * l)) (pos_of_ne-zero (alpha_nonzero m g (3 * l))) (alpha_lt m g (3 * l)) in
      let q : alpha m e ≡ alpha m (3 * l) = alpha_log m g (alpha m (3 * l)) (pos_of_ne-zero (alpha_nonzero m g (3 * l))) (alpha_lt m g (3 * l)) in
      rw (kappa_at_lem l e least h he q) (behind_lt (2 ^ m - 1) e (log m u) he lu)

  -- only exponents below the period count
  pub trios_same : (j : ℕ) → j ≤ 2 ^ m - 1 → (R Q : ℕ → ℕ) → ((k : ℕ) → k < 2 ^ m - 1 → Q k ≡ R k) → TrioRoots m j R → TrioRoots m j Q
  trios_same j most R Q e f =
      record {
        one = λ k h n. subst (λ (r : ℕ). TrioRoot m k (r % 1024) × (r % 1024 < j)) (sym (e k h)) (f.one k h (λ z. n (e k h ∙ z)));
        two = λ k h n. subst (λ (r : ℕ). TrioRoot m k (r / 1024) × (r / 1024 ≢ r % 1024)) (sym (e k h)) (f.two k h (subst (λ (r : ℕ). 1024 ≤ r) (e k h) n));
        there = λ l a b z. f.there l a b (sym (e (kappa_log m l) (kappa_log_lt l a (omega arith))) ∙ z);
        other = λ l a b n.
            let q : Q (kappa_log m l) ≡ R (kappa_log m l) = e (kappa_log m l) (kappa_log_lt l a (omega arith)) in
            subst (λ (r : ℕ). 1024 ≤ r) (sym q) (f.other l a b (λ z. n (z ∙ ap (λ (r : ℕ). r % 1024) (sym q))));
      }

  -- nothing is written
  pub trios_none : (R : ℕ → ℕ) → ((k : ℕ) → k < 2 ^ m - 1 → R k ≡ 0) → TrioRoots m 1 R
  trios_none R z =
      record {
        one = λ k h n. absurd (n (z k h));
        two = λ k h n. absurd (let q = z k h in omega arith);
        there = λ l a b. absurd (omega arith);
        other = λ l a b. absurd (omega arith);
      }

  -- one exponent more: the last one moves up
  pub trios_more : 2 ^ m ≤ 1024 → (l : ℕ) → 1 ≤ l → l < 2 ^ m - 1 → (R Q : ℕ → ℕ) → TrioRoots m l R
      → Q (kappa_log m l) ≡ R (kappa_log m l) % 1024 * 1024 + l → ((k : ℕ) → k < 2 ^ m - 1 → k ≢ kappa_log m l → Q k ≡ R k) → TrioRoots m (l + 1) Q
  trios_more size l least h R Q f new old =
      record {
        one = λ k b n. one k b n (ℕ_discrete k e);
        two = λ k b n. two k b n (ℕ_discrete k e);
        there = λ j a b. there j a b (ℕ_discrete (kappa_log m j) e);
        other = λ j a b n. other j a b n (ℕ_discrete (kappa_log m j) e);
      }
    where
      e : ℕ
      e = kappa_log m l

      he : e < 2 ^ m - 1
      he = kappa_log_lt l least h

      last : ℕ
      last = R e % 1024

      low : Q e % 1024 ≡ l
      low = omega (arith, new)

      high : Q e / 1024 ≡ last
      high = omega (arith, new)

      root : TrioRoot m e l
      root = record { least = least; below = h; solves = sym (alpha_log m g (kappa_at m (alpha m l)) positive below) }
        where
          below : kappa_at m (alpha m l) < 2 ^ m
          below = over_lt m g (cubed m (alpha m l)) (bit_xor (alpha m l) 1)

          positive : 0 < kappa_at m (alpha m l)
          positive = pos_of_ne-zero (λ z. let q : kappa_log m l ≡ 2 ^ m - 1 = ap (log m) z ∙ log_zero m g in omega (arith, he))

      -- what was there
      before : R e ≢ 0 → TrioRoot m e last × (last < l)
      before n = f.one e he n

      one : (k : ℕ) → k < 2 ^ m - 1 → Q k ≢ 0 → Dec (k ≡ e) → TrioRoot m k (Q k % 1024) × (Q k % 1024 < l + 1)
      one k b n (yes q) =
          subst (λ (i : ℕ). TrioRoot m i (Q i % 1024) × (Q i % 1024 < l + 1)) (sym q) (subst (TrioRoot m e) (sym low) root, omega (arith, low))
      one k b n (no d) =
          let (t, u) = f.one k b (λ z. n (old k b d ∙ z)) in
          subst (λ (r : ℕ). TrioRoot m k (r % 1024) × (r % 1024 < l + 1)) (sym (old k b d)) (t, omega arith)

      two : (k : ℕ) → k < 2 ^ m - 1 → 1024 ≤ Q k → Dec (k ≡ e) → TrioRoot m k (Q k / 1024) × (Q k / 1024 ≢ Q k % 1024)
      two k b n (yes q) =
          let n' : 1024 ≤ Q e = subst (λ (i : ℕ). 1024 ≤ Q i) q n in
          let some : R e ≢ 0 = λ z. let y : R e % 1024 ≡ 0 = ap (λ (r : ℕ). r % 1024) z in omega (arith, new) in
          let (t, u) = before some in
          subst (λ (i : ℕ). TrioRoot m i (Q i / 1024) × (Q i / 1024 ≢ Q i % 1024)) (sym q)
          (subst (TrioRoot m e) (sym high) t, λ z. omega (arith, low, high))
      two k b n (no d) =
          subst (λ (r : ℕ). TrioRoot m k (r / 1024) × (r / 1024 ≢ r % 1024)) (sym (old k b d)) (f.two k b (subst (λ (r : ℕ). 1024 ≤ r) (old k b d) n))

      there : (j : ℕ) → 1 ≤ j → j < l + 1 → Dec (kappa_log m j ≡ e) → Q (kappa_log m j) ≢ 0
      there j a b (yes q) z = let y : Q e ≡ 0 = ap Q (sym q) ∙ z in omega (arith, new)
      there j a b (no d) z =
          let n : j ≢ l = λ q. d (ap (kappa_log m) q) in
          let b' : j < l = omega arith in
          f.there j a b' (sym (old (kappa_log m j) (kappa_log_lt j a (omega arith)) d) ∙ z)

      other : (j : ℕ) → 1 ≤ j → j < l + 1 → j ≢ Q (kappa_log m j) % 1024 → Dec (kappa_log m j ≡ e) → 1024 ≤ Q (kappa_log m j)
      other j a b n (yes q) =
          let n' : j ≢ l = λ z. n (z ∙ sym low ∙ ap (λ (i : ℕ). Q i % 1024) (sym q)) in
          let b' : j < l = omega arith in
          let some : R e ≢ 0 = λ z. f.there j a b' (ap R q ∙ z) in
          let k : 1 ≤ last = (before some).0.least in
          subst (λ (i : ℕ). 1024 ≤ Q i) (sym q) (omega (arith, new))
      other j a b n (no d) =
          let y : j ≢ l = λ q. d (ap (kappa_log m) q) in
          let b' : j < l = omega arith in
          let o : Q (kappa_log m j) ≡ R (kappa_log m j) = old (kappa_log m j) (kappa_log_lt j a (omega arith)) d in
          subst (λ (r : ℕ). 1024 ≤ r) (sym o) (f.other j a b' (λ z. n (z ∙ ap (λ (r : ℕ). r % 1024) (sym o))))

-- an even number that is not below a size but for one is that size
pub even_end : (w p s : ℕ) → p ≡ s - 1 → w % 2 ≡ 0 → s % 2 ≡ 0 → p ≤ w → w ≤ s → w ≡ s
even_end w p s e ew es l u = go (lt_or_le w s)
  where
    go : (w < s) ⊎ (s ≤ w) → w ≡ s
    go (inl h) =
        let q : s ≡ w + 1 = omega arith in
        let k : (w + 1) % 2 ≡ 0 = ap (λ (x : ℕ). x % 2) (sym q) ∙ es in
        absurd (let a : w ≡ 2 * (w / 2) = omega arith in let b : w + 1 ≡ 2 * ((w + 1) / 2) = omega arith in omega arith)
    go (inr h) = omega arith
