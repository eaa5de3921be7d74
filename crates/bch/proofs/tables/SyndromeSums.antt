-- The first t syndromes of a word as a running sum of packed powers, position by position. Assumes nothing.
use Prim.Native.Nat.{ℕ, ◌+◌, ◌*◌, ◌≤◌, ◌<◌}
use native.Mathlib.Omega.{arith}
use native.Mathlib.Nat.{one-mul, zero-mul}
use native.Mathlib.Numerals.{add-one}
use mathlib.Core.Path.{◌≡◌, refl, ap, sym, ◌∙◌}
use mathlib.Core.Bool.{Bool, true, false, cond}
use mathlib.Core.List.{List, []}
use lib.Bits.{bit_xor, xor_zero_r}
use lib.Dec.{eqb}
use lib.ListN.{length, get_or, drop}
use lib.Seq.{drop-cons, drop-length}
use Rattle.galois.specs.Field.{alpha}
use Rattle.galois.proofs.Xor.{bit_cases, xor_assoc}
use Rattle.galois.specs.Packed.{packed}
use Rattle.galois.proofs.Packed.{element_lt}
use Rattle.galois.proofs.FieldTables.{powers_of}
use Rattle.galois.proofs.Primitive.{Primitive}
use Rattle.galois.proofs.FieldLaws.{alpha_lt}
use Rattle.bch.specs.Words.{Bits}
use Rattle.bch.specs.Code.{power_sum_from}
use Rattle.bch.proofs.codes.Entries.{below_at, below_drop}
use Rattle.bch.proofs.codes.SyndromeLaws.{power_sum_lt}
use Rattle.bch.proofs.tables.Placing.{lower_part}
use Rattle.bch.proofs.tables.CodeTables.{lower_xor}

-- ---- a bit times a number

bit_mul : (b x : ℕ) → b < 2 → b * x ≤ x
bit_mul b x h = bit_cases (λ (b : ℕ). b * x ≤ x) (omega arith) (omega arith) b h

-- a packed one, ..
bit_packed : (b x y z : ℕ) → b < 2 → b * packed x y z ≡ packed (b * x) (b * y) (b * z)
bit_packed b x y z h = bit_cases (λ (b : ℕ). b * packed x y z ≡ packed (b * x) (b * y) (b * z)) (omega arith) (omega arith) b h

lower_zero : (t : ℕ) → lower_part t 0 ≡ 0
unfolding lower_part
lower_zero t = go (eqb t 1) (eqb t 2)
  where
    go : (a b : Bool) → ◌≡◌ {A = ℕ} (cond a 0 (cond b 0 0)) 0
    go true b = refl
    go false true = refl
    go false false = refl

-- .. and the first t parts of one
bit_lower : (t b x : ℕ) → b < 2 → b * lower_part t x ≡ lower_part t (b * x)
bit_lower t b x h =
    bit_cases (λ (b : ℕ). b * lower_part t x ≡ lower_part t (b * x))
    (zero-mul (lower_part t x) ∙ sym (lower_zero t) ∙ ap (lower_part t) (sym (zero-mul x)))
    (one-mul (lower_part t x) ∙ ap (lower_part t) (sym (one-mul x))) b h

-- ---- the sums

-- one position taken off a sum, ..
sum_more : (m k i : ℕ) (bs : List ℕ) → i < length bs
    → power_sum_from m k i (drop i bs) ≡ bit_xor (get_or bs i 0 * alpha m (k * i)) (power_sum_from m k (i + 1) (drop (i + 1) bs))
unfolding power_sum_from
sum_more m k i bs h = rw (add-one, drop-cons bs i 0 h)

-- the first t sums from a position on
abbrev pub sums : ℕ → ℕ → ℕ → List ℕ → ℕ
sums m t i bs = lower_part t (packed (power_sum_from m 1 i bs) (power_sum_from m 3 i bs) (power_sum_from m 5 i bs))

module _ (m : ℕ) (g : Primitive m) (most : m ≤ 10) (t : ℕ) (tl : 1 ≤ t) (tu : t ≤ 3) (bs : List ℕ) (bits : Bits bs) where
  -- .. and off them all
  sums_more : (i : ℕ) → i < length bs
      → sums m t i (drop i bs) ≡ bit_xor (get_or bs i 0 * lower_part t (powers_of m i)) (sums m t (i + 1) (drop (i + 1) bs))
  sums_more i w =
      let b = get_or bs i 0 in
      let hb : b < 2 = below_at 1 bs i bits in
      let one : (k : ℕ) → b * alpha m (k * i) < 1024 = λ k.
      omega (arith, element_lt m (alpha m (k * i)) most (alpha_lt m g (k * i)), bit_mul b (alpha m (k * i)) hb) in
      let rest : (k : ℕ) → power_sum_from m k (i + 1) (drop (i + 1) bs) < 1024 = λ k.
      element_lt m _ most (power_sum_lt m g k (i + 1) (drop (i + 1) bs) (below_drop 2 (i + 1) bs bits)) in
      rw (sum_more m 1 i bs w, sum_more m 3 i bs w, sum_more m 5 i bs w, bit_lower t b (powers_of m i) hb, bit_packed b _ _ _ hb)
      (sym (lower_xor t tl tu _ _ _ _ _ _ (one 1) (one 3) (rest 1) (rest 3)))

  -- a running sum takes in one position more
  pub sums_acc : (i acc b e : ℕ) {s : ℕ} → i < length bs → b ≡ get_or bs i 0 → e ≡ lower_part t (powers_of m i)
      → bit_xor acc (sums m t i (drop i bs)) ≡ s → bit_xor (bit_xor acc (b * e)) (sums m t (i + 1) (drop (i + 1) bs)) ≡ s
  sums_acc i acc b e w hb he old = rw (hb, he) (xor_assoc acc _ _ ∙ sym (ap (bit_xor acc) (sums_more i w)) ∙ old)

-- at the end it is the syndromes
pub sums_end : (m t i acc : ℕ) (bs : List ℕ) {s : ℕ} → i ≡ length bs → bit_xor acc (sums m t i (drop i bs)) ≡ s → acc ≡ s
unfolding power_sum_from
sums_end m t i acc bs h old =
    let e : drop i bs ≡ [] = rw (h, drop-length) in
    sym (ap (λ (l : List ℕ). bit_xor acc (sums m t i l)) e ∙ ap (bit_xor acc) (lower_zero t) ∙ xor_zero_r acc) ∙ old
