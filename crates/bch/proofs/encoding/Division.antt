-- The register of polynomial division by a generator of degree r, and the parity that it makes: joined to the message,
-- it has the syndrome 0 at each root of the generator. Assumes nothing.
use Prim.Native.Nat.{ℕ, suc, ◌-◌, ◌*◌, ◌/◌, ◌^◌, ◌≤◌, ◌<◌}
use native.Mathlib.Nat.{div-eq_of_lt, div-eq_of_lt-le, le-div_iff_mul-le, div-lt_iff_lt-mul}
use native.Mathlib.Omega.{arith}
use mathlib.Core.Path.{◌≡◌, refl, sym, ap, ap₂, ◌∙◌}
use mathlib.Core.Bool.{Bool, true, false, cond, not}
use mathlib.Core.List.{List, [], ◌∷◌, ◌++◌}
use lib.Bits.{bit_xor, xor_lt, xor_comm, xor_zero_r, xor_shr, xor_self}
use lib.Dec.{T, ltb, ltb→lt, nltb→le}
use lib.ListN.{length, get_or, drop}
use lib.Seq.{drop-cons}
use lib.Pow.{pow_pos}
use Rattle.galois.specs.Field.{times}
use Rattle.galois.proofs.Primitive.{Primitive}
use Rattle.galois.proofs.Xor.{bit_cases}
use Rattle.galois.proofs.FieldLaws.{times_add, times_zero, times_xor, times_lt}
use Rattle.bch.specs.Words.{Below, Bits}
use Rattle.bch.specs.Code.{syndrome}
use Rattle.bch.proofs.codes.SyndromeLaws.{syndrome_cons, syndrome_append, syndrome_lt}
use Rattle.bch.proofs.encoding.Numbers.{word, length_word, Bits-word, value_xor, value_zero, value_twice, value_high, value_power}

-- ---- the register

-- the register before it is reduced: shifted up by one place, the bit added at x^r
unfoldable pub shifted : ℕ → ℕ → ℕ → ℕ
shifted r reg b = bit_xor (2 * reg) (b * 2 ^ r)

-- one step: g is taken off where x^r is set
unfoldable pub step : ℕ → ℕ → ℕ → ℕ → ℕ
unfolding shifted
step r g reg b = cond (ltb (shifted r reg b) (2 ^ r)) (shifted r reg b) (bit_xor (shifted r reg b) g)

-- the remainder of message(x)·x^r by g(x): the message's bits go in from the highest position down
unfoldable pub remainder : ℕ → ℕ → List ℕ → ℕ
unfolding step
remainder r g [] = 0
remainder r g (b ∷ bs) = step r g (remainder r g bs) b

-- the step of a loop that goes down through the message
pub remainder_drop : (r g : ℕ) (bs : List ℕ) (j : ℕ) → 0 < j → j ≤ length bs
    → step r g (remainder r g (drop j bs)) (get_or bs (j - 1) 0) ≡ remainder r g (drop (j - 1) bs)
unfolding remainder
remainder_drop r g bs j low high =
    let e : suc (j - 1) ≡ j = omega arith in
    ap (λ (i : ℕ). step r g (remainder r g (drop i bs)) (get_or bs (j - 1) 0)) (sym e)
    ∙ ap (remainder r g) (sym (drop-cons bs (j - 1) 0 (omega arith)))

shifted_lt : (r reg b : ℕ) → reg < 2 ^ r → b < 2 → shifted r reg b < 2 * 2 ^ r
unfolding shifted
shifted_lt r reg b h hb =
    let bound : (b * 2 ^ r) < 2 ^ suc r =
    bit_cases (λ (b : ℕ). b * 2 ^ r < 2 ^ suc r) (omega (arith, pow_pos r)) (omega (arith, pow_pos r)) b hb in
    let both : bit_xor (2 * reg) (b * 2 ^ r) < 2 ^ suc r = xor_lt (suc r) (2 * reg) (b * 2 ^ r) (omega arith) bound in
    omega arith

module _ (r g : ℕ) (degree : g / 2 ^ r ≡ 1) where
  -- to add g, which has degree r, clears x^r where it is set ..
  cleared : (v : ℕ) → v < 2 * 2 ^ r → 2 ^ r ≤ v → bit_xor v g < 2 ^ r
  cleared v h low =
      let top : v / 2 ^ r ≡ 1 = div-eq_of_lt-le {k = 1} (2 ^ r) (omega arith) (omega arith) in
      let none : bit_xor v g / 2 ^ r ≡ 0 = xor_shr v g r ∙ ap₂ bit_xor top degree in
      let small : bit_xor v g < 1 * 2 ^ r = (div-lt_iff_lt-mul (pow_pos r)).0 (omega arith) in
      omega arith

  -- .. and sets it where it is not
  raised : (v : ℕ) → v < 2 ^ r → 2 ^ r ≤ bit_xor v g
  raised v h =
      let top : v / 2 ^ r ≡ 0 = div-eq_of_lt h in
      let one : bit_xor v g / 2 ^ r ≡ 1 = xor_shr v g r ∙ ap₂ bit_xor top degree in
      let large : 1 * 2 ^ r ≤ bit_xor v g = (le-div_iff_mul-le (pow_pos r)).0 (omega arith) in
      omega arith

  -- so a step takes the smaller number of the two: with g added, ..
  pub step_added : (reg b : ℕ) → bit_xor (shifted r reg b) g < shifted r reg b → bit_xor (shifted r reg b) g ≡ step r g reg b
  unfolding step
  step_added reg b less = go (shifted r reg b) less (ltb (shifted r reg b) (2 ^ r)) (λ t. ltb→lt (shifted r reg b) (2 ^ r) t)
    where
      go : (v : ℕ) → bit_xor v g < v → (c : Bool) → (T c → v < 2 ^ r) → bit_xor v g ≡ cond c v (bit_xor v g)
      go v less true f = absurd (omega (arith, f tt, raised v (f tt)))
      go v less false f = refl

  -- .. or without
  pub step_kept : (reg b : ℕ) → reg < 2 ^ r → b < 2 → shifted r reg b ≤ bit_xor (shifted r reg b) g → shifted r reg b ≡ step r g reg b
  unfolding step
  step_kept reg b h hb least =
      go (shifted r reg b) (shifted_lt r reg b h hb) least (ltb (shifted r reg b) (2 ^ r))
      (λ t. nltb→le (shifted r reg b) (2 ^ r) t)
    where
      go : (v : ℕ) → v < 2 * 2 ^ r → v ≤ bit_xor v g → (c : Bool) → (T (not c) → 2 ^ r ≤ v) → v ≡ cond c v (bit_xor v g)
      go v hv least true k = refl
      go v hv least false k = absurd (omega (arith, k tt, cleared v hv (k tt)))

  -- the register stays below 2^r, ..
  pub step_lt : (reg b : ℕ) → reg < 2 ^ r → b < 2 → step r g reg b < 2 ^ r
  unfolding step
  step_lt reg b h hb =
      go (shifted r reg b) (shifted_lt r reg b h hb) (ltb (shifted r reg b) (2 ^ r))
      (λ t. ltb→lt (shifted r reg b) (2 ^ r) t) (λ t. nltb→le (shifted r reg b) (2 ^ r) t)
    where
      go : (v : ℕ) → v < 2 * 2 ^ r → (c : Bool) → (T c → v < 2 ^ r) → (T (not c) → 2 ^ r ≤ v) → cond c v (bit_xor v g) < 2 ^ r
      go v hv true f k = f tt
      go v hv false f k = cleared v hv (k tt)

  -- .. and so does the remainder
  pub remainder_lt : (bs : List ℕ) → Bits bs → remainder r g bs < 2 ^ r
  unfolding remainder Below
  remainder_lt [] h = pow_pos r
  remainder_lt (b ∷ bs) h = step_lt (remainder r g bs) b (remainder_lt bs h.1) h.0

  -- ---- its syndromes: those of order i, a root of g, do not see that g is taken off

  module _ (m : ℕ) (prim : Primitive m) (i : ℕ) (root : syndrome m i (word (suc r) g) ≡ 0) where
    value_step : (reg b : ℕ) → reg < 2 ^ r → b < 2
        → syndrome m i (word r (step r g reg b)) ≡ bit_xor (times m i (syndrome m i (word r reg))) (times m (i * r) b)
    unfolding step shifted
    value_step reg b h hb =
        sym (value_high m prim i r (step r g reg b) (step_lt reg b h hb))
        ∙ go (shifted r reg b) (ltb (shifted r reg b) (2 ^ r))
        ∙ value_xor m i (suc r) (2 * reg) (b * 2 ^ r)
        ∙ ap₂ bit_xor (value_twice m prim i r reg) (value_power m prim i r b hb)
      where
        go : (v : ℕ) (c : Bool) → syndrome m i (word (suc r) (cond c v (bit_xor v g))) ≡ syndrome m i (word (suc r) v)
        go v true = refl
        go v false = value_xor m i (suc r) v g ∙ ap (bit_xor (syndrome m i (word (suc r) v))) root ∙ xor_zero_r (syndrome m i (word (suc r) v))

    bit_in : (b : ℕ) → b < 2 → b < 2 ^ m
    bit_in b h = omega (arith, prim.room)

    swap_times : (a : ℕ) → times m i (times m (i * r) a) ≡ times m (i * r) (times m i a)
    swap_times a = sym (times_add m i (i * r) a) ∙ ap (λ (x : ℕ). times m x a) (omega arith) ∙ times_add m (i * r) i a

    -- the remainder has the syndrome of the message times x^r
    pub value_remainder : (bs : List ℕ) → Bits bs → syndrome m i (word r (remainder r g bs)) ≡ times m (i * r) (syndrome m i bs)
    unfolding remainder Below syndrome
    value_remainder [] h = value_zero m i r ∙ sym (times_zero m (i * r))
    value_remainder (b ∷ bs) h =
        value_step (remainder r g bs) b (remainder_lt bs h.1) h.0
        ∙ xor_comm (times m i (syndrome m i (word r (remainder r g bs)))) (times m (i * r) b)
        ∙ ap (λ (x : ℕ). bit_xor (times m (i * r) b) (times m i x)) (value_remainder bs h.1)
        ∙ ap (bit_xor (times m (i * r) b)) (swap_times (syndrome m i bs))
        ∙ sym (times_xor m prim (i * r) b (times m i (syndrome m i bs)) (bit_in b h.0)
        (times_lt m prim i (syndrome m i bs) (syndrome_lt m prim i bs h.1)))
        ∙ ap (times m (i * r)) (sym (syndrome_cons m prim i b bs h))

    -- so parity and message together have the syndrome 0
    pub parity_syndrome : (bs : List ℕ) → Bits bs → syndrome m i (word r (remainder r g bs) ++ bs) ≡ 0
    parity_syndrome bs h =
        syndrome_append m prim i (word r (remainder r g bs)) bs (Bits-word r (remainder r g bs)) h
        ∙ ap₂ (λ (x y : ℕ). bit_xor x (times m (i * y) (syndrome m i bs))) (value_remainder bs h) (length_word r (remainder r g bs))
        ∙ xor_self (times m (i * r) (syndrome m i bs))
