-- Filling the list of a code's tables, further: the exponents of the nested loops, the entries that are repeated, and the roots.
-- Assumes nothing.
use Prim.Native.Nat.{ℕ, suc, ◌+◌, ◌-◌, ◌*◌, ◌%◌, ◌^◌, ◌≤◌, ◌<◌}
use native.Mathlib.Nat.{mul-le-mul, mul-suc, suc-mul, mul-add}
use native.Mathlib.Numerals.{add-one}
use native.Mathlib.Omega.{arith}
use mathlib.Core.Path.{◌≡◌, refl, sym, ap, ap₂, ◌∙◌, subst, subst₂}
use mathlib.Core.Logic.{◌≢◌, ◌⊎◌, inl, inr}
use mathlib.Core.List.{List}
use borrow.Author.Count.{below_more}
use lib.Bits.{bit_xor, xor_lt}
use lib.ListN.{length, get_or, set, length-set}
use lib.Seq.{get_or-set_same, get_or-set_other}
use Rattle.galois.specs.Field.{alpha, log}
use Rattle.galois.specs.Packed.{packed}
use Rattle.galois.proofs.Tests.{lt_or_le}
use Rattle.galois.proofs.Xor.{xor_zero→eq}
use Rattle.galois.proofs.Primitive.{Primitive, primitive_5_10}
use Rattle.galois.proofs.FieldLaws.{alpha_lt, alpha_once, log_lt}
use Rattle.galois.proofs.FieldTables.{size_least, size_most}
use Rattle.galois.proofs.Logs.{alpha_periods}
use Rattle.bch.proofs.tables.Placing.{lower_part}
use Rattle.bch.proofs.tables.CodeTables.{CodeTables, PairRoots, TrioRoots, log_in, powers_in, roots_in, kappa_log, reduced, reduced_small, reduced_large}
use Rattle.bch.proofs.tables.RootFills.{pairs_same, pairs_more, trios_same, trios_more, behind, kappa_at_lem, kappa_log_lt}
use Rattle.bch.proofs.tables.TableFills.{FieldPart, stage, stage_low}

-- ---- the exponents d·i, a turn of the period taken off now and then

-- e is d·i but for some turns
pub record Turn (p d i e : ℕ) : Type 0 where
  pub turns : ℕ
  pub sum : e + turns * p ≡ d * i

-- .. and not all turns are done
pub record TurnIn (p d i e : ℕ) : Type 0 where
  pub turns : ℕ
  pub few : turns < d
  pub sum : e + turns * p ≡ d * i

pub turn_power : (m : ℕ) → Primitive m → (d i e : ℕ) → Turn (2 ^ m - 1) d i e → alpha m e ≡ alpha m (d * i)
turn_power m g d i e f =
    let q : f.turns * (2 ^ m - 1) + e ≡ d * i = omega (arith, f.sum) in
    sym (alpha_periods m g f.turns e) ∙ ap (alpha m) q

module _ (p d i e : ℕ) where
  -- while i is below the period there are turns left, ..
  pub turn_in : i < p → 1 ≤ d → Turn p d i e → TurnIn p d i e
  turn_in h l f = record { turns = f.turns; few = go (lt_or_le f.turns d); sum = f.sum }
    where
      go : (f.turns < d) ⊎ (d ≤ f.turns) → f.turns < d
      go (inl k) = k
      go (inr k) =
          let a : d * p ≤ f.turns * p = mul-le-mul k (omega arith) in
          let b : d * suc i ≤ d * p = mul-le-mul (omega arith) h in
          let c : d * suc i ≡ d * i + d = omega (arith, mul-suc d i) in
          absurd (omega (arith, f.sum))

  -- .. and while there are, an exponent below the period is that of an i below it
  pub turn_inside : e < p → TurnIn p d i e → i < p
  turn_inside h f = go (lt_or_le i p)
    where
      go : (i < p) ⊎ (p ≤ i) → i < p
      go (inl k) = k
      go (inr k) =
          let a : d * p ≤ d * i = mul-le-mul (omega arith) k in
          let b : suc f.turns * p ≤ d * p = mul-le-mul f.few (omega arith) in
          let c : suc f.turns * p ≡ f.turns * p + p = omega (arith, suc-mul f.turns p) in
          absurd (omega (arith, f.sum))

  turned : TurnIn p d i e → Turn p d i e
  turned f = record { turns = f.turns; sum = f.sum }

  -- a step
  pub turn_more : TurnIn p d i e → TurnIn p d (i + 1) (e + d)
  turn_more f =
      let c : d * (i + 1) ≡ d * i + d = ap (λ (x : ℕ). d * x) (add-one i) ∙ omega (arith, mul-suc d i) in
      record { turns = f.turns; few = f.few; sum = omega (arith, f.sum, c) }

  -- a turn taken off
  pub turn_out : p ≤ e → TurnIn p d i e → Turn p d i (e - p)
  turn_out h f =
      let c : suc f.turns * p ≡ f.turns * p + p = omega (arith, suc-mul f.turns p) in
      record { turns = suc f.turns; sum = omega (arith, f.sum, c) }

-- at first, for the powers and for the roots
pub turn_none : (p d : ℕ) → Turn p d 0 0
turn_none p d = record { turns = 0; sum = omega arith }

pub turn_first : (p d : ℕ) → Turn p d 1 d
turn_first p d = record { turns = 0; sum = omega arith }

-- ---- entries repeated

-- the first i entries from `from` on stand again p later, and all others are what they were
pub record Again (p from i : ℕ) (ts us : List ℕ) : Type 0 where
  pub same_length : length us ≡ length ts
  pub again : (k : ℕ) → k < i → get_or us (from + p + k) 0 ≡ get_or ts (from + k) 0
  pub below : (j : ℕ) → j < from + p → get_or us j 0 ≡ get_or ts j 0
  pub beyond : (j : ℕ) → from + p + i ≤ j → get_or us j 0 ≡ get_or ts j 0

module _ (p from : ℕ) (ts : List ℕ) where
  -- at first
  pub again_none : Again p from 0 ts ts
  again_none = record { same_length = refl; again = λ k h. absurd (omega arith); below = λ j h. refl; beyond = λ j h. refl }

  -- one entry more
  pub again_more : (i : ℕ) (us : List ℕ) → i < p → from + p + i < length ts → Again p from i ts us
      → Again p from (i + 1) ts (set us (from + p + i) (get_or us (from + i) 0))
  again_more i us h room f =
      record {
        same_length = length-set us at v ∙ f.same_length;
        again = below_more (λ (k : ℕ). get_or (set us at v) (from + p + k) 0 ≡ get_or ts (from + k) 0) i
            (λ k l. other (from + p + k) (λ z. omega arith) ∙ f.again k l)
            (get_or-set_same us at v 0 (omega (arith, f.same_length)) ∙ f.below (from + i) (omega arith));
        below = λ j l. other j (λ z. omega arith) ∙ f.below j l;
        beyond = λ j l. other j (λ z. omega arith) ∙ f.beyond j (omega arith);
      }
    where
      at : ℕ
      at = from + p + i

      v : ℕ
      v = get_or us (from + i) 0

      other : (j : ℕ) → j ≢ at → get_or (set us at v) j 0 ≡ get_or us j 0
      other j n = get_or-set_other us at j v 0 n

-- of equal numbers
pub again_as : {p q a b i : ℕ} {ts us : List ℕ} → p ≡ q → a ≡ b → Again p a i ts us → Again q b i ts us
again_as {i = i} {ts = ts} {us = us} e d = subst₂ (λ (x y : ℕ). Again x y i ts us) e d

-- ---- the field's tables

-- the logarithms and the powers are there
pub record FieldFilled (m t : ℕ) (ts : List ℕ) : Type 0 where
  pub long : 3 * 2 ^ m + 16 ≤ length ts
  pub logs : (x : ℕ) → x ≢ 0 → x < 2 ^ m → log_in ts x ≡ log m x
  pub log_none : log_in ts 0 ≡ 2 ^ m + 7
  pub powers : (i : ℕ) → i < 2 ^ m + 7 → powers_in m ts i ≡ stage m t i
  pub power_none : powers_in m ts (2 ^ m + 7) ≡ 0

-- no roots
abbrev pub Rootless : ℕ → List ℕ → Type 0
Rootless m ts = (e : ℕ) → roots_in m ts e ≡ 0

-- the powers, with the first of them repeated, ..
module _ (m : ℕ) (g : Primitive m) (size : 32 ≤ 2 ^ m) (t : ℕ) (ts us : List ℕ)
    (f : FieldPart m (stage m t) (2 ^ m - 1) ts) (r : Again (2 ^ m - 1) (2 ^ m) 8 ts us) where
  -- a period later the same powers
  power_again : (d i : ℕ) → alpha m (d * i) ≡ alpha m (d * (2 ^ m - 1 + i))
  power_again d i = sym (alpha_periods m g d (d * i)) ∙ ap (alpha m) (sym (mul-add d (2 ^ m - 1) i))

  stage_again : (i : ℕ) → stage m t i ≡ stage m t (2 ^ m - 1 + i)
  stage_again i =
      ap₂ (λ (x y : ℕ). lower_part t (packed x y (alpha m (5 * i)))) (power_again 1 i) (power_again 3 i)
      ∙ ap (λ (z : ℕ). lower_part t (packed (alpha m (1 * (2 ^ m - 1 + i))) (alpha m (3 * (2 ^ m - 1 + i))) z)) (power_again 5 i)

  -- .. fill the field's tables ..
  pub field_filled : FieldFilled m t us
  field_filled =
      record {
        long = rw r.same_length f.long;
        logs = λ x n h. r.below x (omega arith) ∙ f.logs x n h;
        log_none = r.below 0 (omega arith) ∙ f.log_none;
        powers = λ k h. go k h (lt_or_le k (2 ^ m - 1));
        power_none = r.beyond (2 ^ m + (2 ^ m + 7)) (omega arith) ∙ f.zeros (2 ^ m + (2 ^ m + 7)) (omega arith);
      }
    where
      go : (k : ℕ) → k < 2 ^ m + 7 → (k < 2 ^ m - 1) ⊎ (2 ^ m - 1 ≤ k) → powers_in m us k ≡ stage m t k
      go k h (inl l) = r.below (2 ^ m + k) (omega arith) ∙ f.powers k l
      go k h (inr l) =
          let i = k - (2 ^ m - 1) in
          let q : 2 ^ m - 1 + i ≡ k = omega arith in
          let e : 2 ^ m + k ≡ 2 ^ m + (2 ^ m - 1) + i = omega arith in
          ap (λ (j : ℕ). get_or us j 0) e ∙ r.again i (omega arith) ∙ f.powers i (omega arith) ∙ stage_again i ∙ ap (stage m t) q

  -- .. and leave no roots
  pub roots_empty : Rootless m us
  roots_empty e = r.beyond (2 * 2 ^ m + 8 + e) (omega arith) ∙ f.zeros (2 * 2 ^ m + 8 + e) (omega arith)

-- they are in each list with the same entries in front of the roots
field_same : (m t : ℕ) (ts us : List ℕ) → length us ≡ length ts → ((j : ℕ) → j < 2 * 2 ^ m + 8 → get_or us j 0 ≡ get_or ts j 0)
    → FieldFilled m t ts → FieldFilled m t us
field_same m t ts us n below f =
    record {
      long = rw n f.long;
      logs = λ x n l. below x (omega arith) ∙ f.logs x n l;
      log_none = below 0 (omega arith) ∙ f.log_none;
      powers = λ i l. below (2 ^ m + i) (omega arith) ∙ f.powers i l;
      power_none = below (2 ^ m + (2 ^ m + 7)) (omega arith) ∙ f.power_none;
    }

-- ---- the roots

-- a store among the roots leaves the field's tables
field_keeps : (m t at v : ℕ) (ts : List ℕ) → 2 * 2 ^ m + 8 ≤ at → FieldFilled m t ts → FieldFilled m t (set ts at v)
field_keeps m t at v ts h f =
    field_same m t ts (set ts at v) (length-set ts at v) (λ j l. get_or-set_other ts at j v 0 (λ z. omega arith)) f

-- the roots after a store
module _ (m e v : ℕ) (ts : List ℕ) where
  abbrev Q : ℕ → ℕ
  Q = roots_in m (set ts (2 * 2 ^ m + 8 + e) v)

  roots_new : e < 2 ^ m + 8 → 3 * 2 ^ m + 16 ≤ length ts → Q e ≡ v
  roots_new h l = get_or-set_same ts (2 * 2 ^ m + 8 + e) v 0 (omega arith)

  roots_old : (k : ℕ) → k ≢ e → Q k ≡ roots_in m ts k
  roots_old k n = get_or-set_other ts (2 * 2 ^ m + 8 + e) (2 * 2 ^ m + 8 + k) v 0 (λ z. n (omega arith))

module _ (m : ℕ) (g : Primitive m) (size : 2 ^ m ≤ 1024) (t : ℕ) (ts : List ℕ) (f : FieldFilled m t ts) where
  reduced_lt : (p e : ℕ) → e < 2 * p → reduced p e < p
  reduced_lt p e h = go (lt_or_le e p)
    where
      go : (e < p) ⊎ (p ≤ e) → reduced p e < p
      go (inl l) = rw (sym (reduced_small p e l)) l
      go (inr l) = let k : e - p < p = omega arith in rw (sym (reduced_large p e l)) k

  -- a logarithm but that of 0 is below the period
  pub filled_log_lt : (x : ℕ) → x ≢ 0 → x < 2 ^ m → log_in ts x < 2 ^ m - 1
  filled_log_lt x n h = rw (f.logs x n h) (log_lt m g x (omega arith) h)

  -- t = 2: a step
  pub pairs_step : (w a b e at v : ℕ) → w % 2 ≡ 0 → 2 ≤ w → w < 2 ^ m - 1 → a ≡ log_in ts w → b ≡ log_in ts (w + 1) → e ≡ reduced (2 ^ m - 1) (a + b)
      → at ≡ 2 * 2 ^ m + 8 + e → v ≡ a + 1024 * b → PairRoots m w (roots_in m ts)
      → FieldFilled m t (set ts at v) × PairRoots m (w + 2) (roots_in m (set ts at v))
  pairs_step w a b e at v even least h ea eb ee et ev old =
      rw et (
        field_keeps m t (2 * 2 ^ m + 8 + e) v ts (omega arith) f,
        subst (λ (x : ℕ). PairRoots m (w + 2) (roots_in m (set ts (2 * 2 ^ m + 8 + x) v))) (sym is_e) new,
      )
    where
      A : ℕ
      A = log m w

      B : ℕ
      B = log m (w + 1)

      is_a : a ≡ A
      is_a = ea ∙ f.logs w (λ z. omega arith) (omega arith)

      is_b : b ≡ B
      is_b = eb ∙ f.logs (w + 1) (λ z. omega arith) (omega arith)

      E : ℕ
      E = reduced (2 ^ m - 1) (A + B)

      is_e : e ≡ E
      is_e = ee ∙ ap₂ (λ (x y : ℕ). reduced (2 ^ m - 1) (x + y)) is_a is_b

      is_v : v ≡ A + 1024 * B
      is_v = ev ∙ ap₂ (λ (x y : ℕ). x + 1024 * y) is_a is_b

      low : E < 2 ^ m - 1
      low =
          reduced_lt (2 ^ m - 1) (A + B)
          (omega (arith, log_lt m g w (omega arith) (omega arith), log_lt m g (w + 1) (omega arith) (omega arith)))

      new : PairRoots m (w + 2) (roots_in m (set ts (2 * 2 ^ m + 8 + E) v))
      new =
          pairs_more m g w even least (omega arith) size (roots_in m ts) (roots_in m (set ts (2 * 2 ^ m + 8 + E) v)) old
          (roots_new m E v ts (omega (arith, low)) f.long ∙ is_v) (λ k l n. roots_old m E v ts k n)

  -- what is looked up for an exponent
  pub next_entry : (l x : ℕ) → 1 ≤ t → t ≤ 3 → m ≤ 10 → 1 ≤ l → l < 2 ^ m - 1 → x ≡ bit_xor (powers_in m ts l % 1024) 1
      → (x < 2 ^ m) × (log_in ts x < 2 ^ m - 1)
  unfolding alpha
  next_entry l x tl tu most least h ex =
      let y = bit_xor (alpha m l) 1 in
      let q : x ≡ y = ex ∙ ap (λ (i : ℕ). bit_xor i 1) (ap (λ (i : ℕ). i % 1024) (f.powers l (omega arith)) ∙ stage_low m g most l t tl tu) in
      let n1 : alpha m l ≢ 1 = λ z. let i : l ≡ 0 = alpha_once m g l 0 h (omega arith) z in omega arith in
      let ny : y ≢ 0 = λ z. n1 (xor_zero→eq (alpha m l) 1 z) in
      let hy : y < 2 ^ m = xor_lt m (alpha m l) 1 (alpha_lt m g l) g.room in
      subst (λ (i : ℕ). (i < 2 ^ m) × (log_in ts i < 2 ^ m - 1)) (sym q) (hy, filled_log_lt y ny hy)

  -- t = 3: a step
  pub trios_step : (l e x b at v : ℕ) → 1 ≤ t → t ≤ 3 → m ≤ 10 → 1 ≤ l → l < 2 ^ m - 1 → e < 2 ^ m - 1 → alpha m e ≡ alpha m (3 * l)
      → x ≡ bit_xor (powers_in m ts l % 1024) 1 → b ≡ behind (2 ^ m - 1) e (log_in ts x) → at ≡ 2 * 2 ^ m + 8 + b
      → v ≡ get_or ts at 0 % 1024 * 1024 + l → TrioRoots m l (roots_in m ts)
      → FieldFilled m t (set ts at v) × TrioRoots m (l + 1) (roots_in m (set ts at v))
  unfolding alpha
  trios_step l e x b at v tl tu most least h he q ex eb et ev old =
      rw et (
        field_keeps m t (2 * 2 ^ m + 8 + b) v ts (omega arith) f,
        subst (λ (i : ℕ). TrioRoots m (l + 1) (roots_in m (set ts (2 * 2 ^ m + 8 + i) v))) (sym is_b) new,
      )
    where
      y : ℕ
      y = bit_xor (alpha m l) 1

      is_x : x ≡ y
      is_x = ex ∙ ap (λ (i : ℕ). bit_xor i 1) (ap (λ (i : ℕ). i % 1024) (f.powers l (omega arith)) ∙ stage_low m g most l t tl tu)

      n1 : alpha m l ≢ 1
      n1 z = let i : l ≡ 0 = alpha_once m g l 0 h (omega arith) z in omega arith

      ny : y ≢ 0
      ny z = n1 (xor_zero→eq (alpha m l) 1 z)

      hy : y < 2 ^ m
      hy = xor_lt m (alpha m l) 1 (alpha_lt m g l) g.room

      B : ℕ
      B = kappa_log m l

      is_b : b ≡ B
      is_b = eb ∙ ap (behind (2 ^ m - 1) e) (ap (log_in ts) is_x ∙ f.logs y ny hy) ∙ sym (kappa_at_lem m g l e least h he q)

      is_v : v ≡ roots_in m ts B % 1024 * 1024 + l
      is_v = ev ∙ ap (λ (i : ℕ). get_or ts i 0 % 1024 * 1024 + l) (et ∙ ap (λ (i : ℕ). 2 * 2 ^ m + 8 + i) is_b)

      low : B < 2 ^ m - 1
      low = kappa_log_lt m g l least h

      new : TrioRoots m (l + 1) (roots_in m (set ts (2 * 2 ^ m + 8 + B) v))
      new =
          trios_more m g size l least h (roots_in m ts) (roots_in m (set ts (2 * 2 ^ m + 8 + B) v)) old
          (roots_new m B v ts (omega (arith, low)) f.long ∙ is_v) (λ k b n. roots_old m B v ts k n)

-- ---- the roots that t asks for, and the first of them repeated

-- the field's tables and the roots of t = 2, none for another t
pub record PairPart (m t : ℕ) (ts : List ℕ) : Type 0 where
  pub field : FieldFilled m t ts
  pub pairs : t ≡ 2 → PairRoots m (2 ^ m) (roots_in m ts)
  pub none : t ≢ 2 → Rootless m ts

-- the field's tables and the roots that t asks for
pub record RootPart (m t : ℕ) (ts : List ℕ) : Type 0 where
  pub field : FieldFilled m t ts
  pub pairs : t ≡ 2 → PairRoots m (2 ^ m) (roots_in m ts)
  pub trios : t ≡ 3 → TrioRoots m (2 ^ m - 1) (roots_in m ts)

module _ (m t : ℕ) (ts us : List ℕ) (f : RootPart m t ts) (r : Again (2 ^ m - 1) (2 * 2 ^ m + 8) 8 ts us) where
  -- the field's tables stay ..
  pub field_stays : FieldFilled m t us
  field_stays = field_same m t ts us r.same_length (λ j l. r.below j (omega arith)) f.field

  -- .. and all is filled
  pub code_filled : 5 ≤ m → m ≤ 10 → 1 ≤ t → t ≤ 3 → CodeTables m t us
  code_filled least most tl tu =
      record {
        least = least;
        most = most;
        size_least = size_least m least;
        size_most = size_most m most;
        t_least = tl;
        t_most = tu;
        long = field_stays.long;
        logs = field_stays.logs;
        log_none = field_stays.log_none;
        powers = field_stays.powers;
        power_none = field_stays.power_none;
        again = λ k h.
            let e : 2 * 2 ^ m + 8 + (2 ^ m - 1 + k) ≡ 2 * 2 ^ m + 8 + (2 ^ m - 1) + k = omega arith in
            ap (λ (j : ℕ). get_or us j 0) e ∙ r.again k h ∙ sym (same k (omega (arith, size_least m least)));
        pairs = λ z. pairs_same m (2 ^ m) g (omega arith) (roots_in m ts) (roots_in m us) same (f.pairs z);
        trios = λ z. trios_same m g (2 ^ m - 1) (omega arith) (roots_in m ts) (roots_in m us) same (f.trios z);
      }
    where
      g : Primitive m
      g = primitive_5_10 m least most

      same : (k : ℕ) → k < 2 ^ m - 1 → roots_in m us k ≡ roots_in m ts k
      same k l = r.below (2 * 2 ^ m + 8 + k) (omega arith)
