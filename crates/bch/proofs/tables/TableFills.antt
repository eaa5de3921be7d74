-- Filling the list of a code's tables, loop by loop: what it holds after each step, from a list of zeros on to `CodeTables`.
-- Assumes nothing.
use Prim.Native.Nat.{ℕ, ◌+◌, ◌-◌, ◌*◌, ◌%◌, ◌^◌, ◌≤◌, ◌<◌}
use native.Mathlib.Nat.{one-mul, pos_of_ne-zero}
use native.Mathlib.Omega.{arith}
use native.Mathlib.Decide.{ℕ_discrete}
use mathlib.Core.Path.{◌≡◌, refl, sym, ap, ap₂, ◌∙◌}
use mathlib.Core.Logic.{◌≢◌, ◌⊎◌, inl, inr}
use mathlib.Core.Bool.{cond}
use mathlib.Core.List.{List}
use borrow.Author.Tests.{lt-ltb, le-ltb}
use borrow.Author.Count.{below_more}
use lib.Dec.{ltb}
use lib.ListN.{length, get_or, set, length-set}
use lib.Seq.{get_or-set_same, get_or-set_other}
use Rattle.galois.specs.Field.{alpha, log}
use Rattle.galois.specs.Packed.{packed}
use Rattle.galois.proofs.Tests.{lt_or_le}
use Rattle.galois.proofs.Packed.{element_lt}
use Rattle.galois.proofs.Primitive.{Primitive}
use Rattle.galois.proofs.FieldLaws.{alpha_lt, alpha_log, log_lt}
use Rattle.galois.proofs.FieldTables.{powers_of, Zeros, powers_apart}
use Rattle.bch.proofs.tables.Placing.{lower_part}
use Rattle.bch.proofs.tables.CodeTables.{log_in, powers_in, lower_one, lower_two, lower_three, lower_first}

-- ---- the logarithms and the powers, one exponent more

-- the exponents below i are written, and nothing behind them
pub record LogPart (m i : ℕ) (ts : List ℕ) : Type 0 where
  pub long : 3 * 2 ^ m + 16 ≤ length ts
  pub logs : (k : ℕ) → k < i → log_in ts (alpha m k) ≡ k
  pub powers : (k : ℕ) → k < i → powers_in m ts k ≡ alpha m k
  pub zeros : (j : ℕ) → 2 ^ m + i ≤ j → get_or ts j 0 ≡ 0

-- at first
pub logs_none : (m : ℕ) (ts : List ℕ) → 3 * 2 ^ m + 16 ≤ length ts → Zeros ts → LogPart m 0 ts
logs_none m ts l z =
    record { long = l; logs = λ k h. absurd (omega arith); powers = λ k h. absurd (omega arith); zeros = λ j h. z j }

-- the logarithms are there, the powers of the exponents below count are those of p, and nothing is behind them
pub record FieldPart (m : ℕ) (p : ℕ → ℕ) (count : ℕ) (ts : List ℕ) : Type 0 where
  pub long : 3 * 2 ^ m + 16 ≤ length ts
  pub logs : (x : ℕ) → x ≢ 0 → x < 2 ^ m → log_in ts x ≡ log m x
  pub log_none : log_in ts 0 ≡ 2 ^ m + 7
  pub powers : (k : ℕ) → k < count → powers_in m ts k ≡ p k
  pub zeros : (j : ℕ) → 2 ^ m + count ≤ j → get_or ts j 0 ≡ 0

module _ (m : ℕ) (g : Primitive m) where
  -- a step
  pub logs_more : (i x u at v : ℕ) (ts : List ℕ) → i < 2 ^ m - 1 → x ≡ alpha m i → u ≡ i → at ≡ 2 ^ m + i → v ≡ alpha m i → LogPart m i ts
      → LogPart m (i + 1) (set (set ts x u) at v)
  logs_more i x u at v ts h ex eu ea ev f =
      rw (ea, ex, eu, ev)
      (record {
        long = rw (length-set us (2 ^ m + i) y, length-set ts y i) f.long;
        logs = below_more (λ (k : ℕ). get_or vs (alpha m k) 0 ≡ k) i
            (λ k b. far k ∙ get_or-set_other ts y (alpha m k) i 0 (powers_apart m g i h k b) ∙ f.logs k b) (far i ∙ get_or-set_same ts y i 0 room);
        powers = below_more (λ (k : ℕ). get_or vs (2 ^ m + k) 0 ≡ alpha m k) i
            (λ k b. get_or-set_other us (2 ^ m + i) (2 ^ m + k) y 0 (λ z. omega arith) ∙ high (2 ^ m + k) (omega arith) ∙ f.powers k b)
            (get_or-set_same us (2 ^ m + i) y 0 (rw (length-set ts y i) (omega (arith, f.long))));
        zeros = λ j b. get_or-set_other us (2 ^ m + i) j y 0 (λ z. omega arith) ∙ high j (omega arith) ∙ f.zeros j (omega arith);
      })
    where
      y : ℕ
      y = alpha m i

      small : y < 2 ^ m
      small = alpha_lt m g i

      room : y < length ts
      room = omega (arith, small, f.long)

      us : List ℕ
      us = set ts y i

      vs : List ℕ
      vs = set us (2 ^ m + i) y

      -- the second store leaves the logarithms, ..
      far : (k : ℕ) → get_or vs (alpha m k) 0 ≡ get_or us (alpha m k) 0
      far k = let b = alpha_lt m g k in get_or-set_other us (2 ^ m + i) (alpha m k) y 0 (λ z. omega arith)

      -- .. and the first one the powers
      high : (j : ℕ) → 2 ^ m ≤ j → get_or us j 0 ≡ get_or ts j 0
      high j b = get_or-set_other ts y j i 0 (λ z. omega (arith, small))

  -- at the end the logarithm of 0
  pub logs_all : (v : ℕ) (ts : List ℕ) → v ≡ 2 ^ m + 7 → LogPart m (2 ^ m - 1) ts → FieldPart m (alpha m) (2 ^ m - 1) (set ts 0 v)
  logs_all v ts e f =
      record {
        long = rw (length-set ts 0 v) f.long;
        logs = λ x n h.
            let b : log m x < 2 ^ m - 1 = log_lt m g x (pos_of_ne-zero n) h in
            get_or-set_other ts 0 x v 0 n ∙ ap (log_in ts) (sym (alpha_log m g x (pos_of_ne-zero n) h)) ∙ f.logs (log m x) b;
        log_none = get_or-set_same ts 0 v 0 (omega (arith, f.long)) ∙ e;
        powers = λ k h. get_or-set_other ts 0 (2 ^ m + k) v 0 (λ z. omega (arith, g.room)) ∙ f.powers k h;
        zeros = λ j h. get_or-set_other ts 0 j v 0 (λ z. omega (arith, g.room)) ∙ f.zeros j h;
      }

-- ---- the powers changed

-- by another name
pub part_as : (m : ℕ) (p q : ℕ → ℕ) (count : ℕ) (ts : List ℕ) → ((k : ℕ) → k < count → p k ≡ q k) → FieldPart m p count ts → FieldPart m q count ts
part_as m p q count ts e f =
    record { long = f.long; logs = f.logs; log_none = f.log_none; powers = λ k h. f.powers k h ∙ e k h; zeros = f.zeros }

module _ (m : ℕ) (p : ℕ → ℕ) (count : ℕ) (ts : List ℕ) (f : FieldPart m p count ts) (most : count ≤ 2 ^ m + 7) (room : 0 < 2 ^ m) where
  low : (j v x : ℕ) → x < 2 ^ m → get_or (set ts (2 ^ m + j) v) x 0 ≡ get_or ts x 0
  low j v x h = get_or-set_other ts (2 ^ m + j) x v 0 (λ z. omega arith)

  -- one changed
  pub part_set : (q : ℕ → ℕ) (j v : ℕ) → j < count → v ≡ q j → ((k : ℕ) → k < count → k ≢ j → p k ≡ q k) → FieldPart m q count (set ts (2 ^ m + j) v)
  part_set q j v h e same =
      record {
        long = rw (length-set ts (2 ^ m + j) v) f.long;
        logs = λ x n l. low j v x l ∙ f.logs x n l;
        log_none = low j v 0 room ∙ f.log_none;
        powers = λ k l. go k l (ℕ_discrete k j);
        zeros = λ i l. get_or-set_other ts (2 ^ m + j) i v 0 (λ z. omega arith) ∙ f.zeros i l;
      }
    where
      go : (k : ℕ) → k < count → Dec (k ≡ j) → powers_in m (set ts (2 ^ m + j) v) k ≡ q k
      go k l (yes z) = rw z (get_or-set_same ts (2 ^ m + j) v 0 (omega (arith, f.long)) ∙ e)
      go k l (no n) = get_or-set_other ts (2 ^ m + j) (2 ^ m + k) v 0 (λ z. n (omega arith)) ∙ f.powers k l ∙ same k l n

-- ---- powers added

-- g below i, and f from there on
unfoldable pub mixed : (ℕ → ℕ) → (ℕ → ℕ) → ℕ → ℕ → ℕ
mixed f g i k = cond (ltb k i) (g k) (f k)

mixed_low : (f g : ℕ → ℕ) (i k : ℕ) → k < i → mixed f g i k ≡ g k
unfolding mixed
mixed_low f g i k h = rw (lt-ltb k i h) refl

mixed_high : (f g : ℕ → ℕ) (i k : ℕ) → i ≤ k → mixed f g i k ≡ f k
unfolding mixed
mixed_high f g i k h = rw (le-ltb k i h) refl

module _ (m : ℕ) (f g : ℕ → ℕ) (ts : List ℕ) where
  -- at first
  pub mixed_none : FieldPart m f (2 ^ m - 1) ts → FieldPart m (mixed f g 0) (2 ^ m - 1) ts
  mixed_none h = part_as m f (mixed f g 0) (2 ^ m - 1) ts (λ k l. sym (mixed_high f g 0 k (omega arith))) h

  -- at the end
  pub mixed_all : FieldPart m (mixed f g (2 ^ m - 1)) (2 ^ m - 1) ts → FieldPart m g (2 ^ m - 1) ts
  mixed_all h = part_as m (mixed f g (2 ^ m - 1)) g (2 ^ m - 1) ts (λ k l. mixed_low f g (2 ^ m - 1) k l) h

  -- the entry that is next
  pub mixed_here : (i : ℕ) → i < 2 ^ m - 1 → FieldPart m (mixed f g i) (2 ^ m - 1) ts → powers_in m ts i ≡ f i
  mixed_here i h q = q.powers i h ∙ mixed_high f g i i (omega arith)

  -- a step: α^(d·i), read at an exponent e of the same power, times the scale
  pub mixed_more : (d scale i e : ℕ) → i < 2 ^ m - 1 → e < 2 ^ m - 1 → alpha m e ≡ alpha m (d * i)
      → ((k : ℕ) → k < 2 ^ m - 1 → f k % 1024 ≡ alpha m k) → ((k : ℕ) → k < 2 ^ m - 1 → g k % 1024 ≡ alpha m k)
      → ((k : ℕ) → k < 2 ^ m - 1 → f k + scale * alpha m (d * k) ≡ g k) → FieldPart m (mixed f g i) (2 ^ m - 1) ts
      → FieldPart m (mixed f g (i + 1)) (2 ^ m - 1) (set ts (2 ^ m + i) (get_or ts (2 ^ m + i) 0 + scale * (get_or ts (2 ^ m + e) 0 % 1024)))
  mixed_more d scale i e hi he q ff gg sum h =
      part_set m (mixed f g i) (2 ^ m - 1) ts h (omega arith) (omega arith) (mixed f g (i + 1)) i v hi value same
    where
      v : ℕ
      v = get_or ts (2 ^ m + i) 0 + scale * (get_or ts (2 ^ m + e) 0 % 1024)

      low_part : (k : ℕ) → k < 2 ^ m - 1 → (k < i) ⊎ (i ≤ k) → mixed f g i k % 1024 ≡ alpha m k
      low_part k l (inl b) = ap (λ (x : ℕ). x % 1024) (mixed_low f g i k b) ∙ gg k l
      low_part k l (inr b) = ap (λ (x : ℕ). x % 1024) (mixed_high f g i k b) ∙ ff k l

      value : v ≡ mixed f g (i + 1) i
      value =
          ap₂ (λ (x y : ℕ). x + scale * y) (h.powers i hi ∙ mixed_high f g i i (omega arith))
          (ap (λ (x : ℕ). x % 1024) (h.powers e he) ∙ low_part e he (lt_or_le e i) ∙ q)
          ∙ sum i hi ∙ sym (mixed_low f g (i + 1) i (omega arith))

      same : (k : ℕ) → k < 2 ^ m - 1 → k ≢ i → mixed f g i k ≡ mixed f g (i + 1) k
      same k l n = go (lt_or_le k i)
        where
          go : (k < i) ⊎ (i ≤ k) → mixed f g i k ≡ mixed f g (i + 1) k
          go (inl b) = mixed_low f g i k b ∙ sym (mixed_low f g (i + 1) k (omega arith))
          go (inr b) = mixed_high f g i k b ∙ sym (mixed_high f g (i + 1) k (omega arith))

-- the powers of t errors
abbrev pub stage : ℕ → ℕ → ℕ → ℕ
stage m t k = lower_part t (powers_of m k)

module _ (m : ℕ) (g : Primitive m) (most : m ≤ 10) (k : ℕ) where
  small : (e : ℕ) → alpha m e < 1024
  small e = element_lt m (alpha m e) most (alpha_lt m g e)

  pub stage_one : alpha m k ≡ stage m 1 k
  stage_one =
      let e : packed (alpha m k) 0 0 ≡ alpha m k = omega arith in
      sym e ∙ ap (λ (x : ℕ). packed (alpha m x) 0 0) (sym (one-mul k))
      ∙ sym (lower_one (alpha m (1 * k)) (alpha m (3 * k)) (alpha m (5 * k)) (small (1 * k)) (small (3 * k)))

  pub stage_two : stage m 1 k + 1024 * alpha m (3 * k) ≡ stage m 2 k
  stage_two =
      omega (
        arith,
        lower_one (alpha m (1 * k)) (alpha m (3 * k)) (alpha m (5 * k)) (small (1 * k)) (small (3 * k)),
        lower_two (alpha m (1 * k)) (alpha m (3 * k)) (alpha m (5 * k)) (small (1 * k)) (small (3 * k)),
      )

  pub stage_three : stage m 2 k + 1048576 * alpha m (5 * k) ≡ stage m 3 k
  stage_three =
      omega (
        arith,
        lower_two (alpha m (1 * k)) (alpha m (3 * k)) (alpha m (5 * k)) (small (1 * k)) (small (3 * k)),
        lower_three (alpha m (1 * k)) (alpha m (3 * k)) (alpha m (5 * k)) (small (1 * k)) (small (3 * k)),
      )

  pub stage_low : (t : ℕ) → 1 ≤ t → t ≤ 3 → stage m t k % 1024 ≡ alpha m k
  stage_low t l u =
      lower_first (alpha m (1 * k)) (alpha m (3 * k)) (alpha m (5 * k)) (small (1 * k)) (small (3 * k)) t l u ∙ ap (alpha m) (one-mul k)

-- what is added, d times the exponent at a scale, leads from t powers to one more
pub record Adds (m t d scale : ℕ) : Type 0 where
  pub few : t ≤ 2
  pub some : 1 ≤ t
  pub d_least : 1 ≤ d
  pub d_most : d ≤ 5
  pub room : scale * 1024 ≤ 2147483648
  pub low : (k : ℕ) → stage m t k < scale
  pub sum : (k : ℕ) → stage m t k + scale * alpha m (d * k) ≡ stage m (t + 1) k

module _ (m : ℕ) (g : Primitive m) (most : m ≤ 10) where
  -- S3
  pub adds_three : Adds m 1 3 1024
  adds_three =
      record {
        few = omega arith;
        some = omega arith;
        d_least = omega arith;
        d_most = omega arith;
        room = omega arith;
        low = λ k. omega (arith, stage_one m g most k, element_lt m (alpha m k) most (alpha_lt m g k));
        sum = λ k. stage_two m g most k;
      }

  -- S5
  pub adds_five : Adds m 2 5 1048576
  adds_five =
      record {
        few = omega arith;
        some = omega arith;
        d_least = omega arith;
        d_most = omega arith;
        room = omega arith;
        low = λ k.
            omega (
              arith,
              stage_two m g most k,
              stage_one m g most k,
              element_lt m (alpha m k) most (alpha_lt m g k),
              element_lt m (alpha m (3 * k)) most (alpha_lt m g (3 * k)),
            );
        sum = λ k. stage_three m g most k;
      }
