-- The steps of `TableFills` and `TableLoops` one after the other, from a list of zeros: every field and every t has its tables, so what
-- `CodeTables` asks for can be met. Assumes nothing.
use Prim.Native.Nat.{ℕ, zero, suc, ◌+◌, ◌-◌, ◌*◌, ◌/◌, ◌%◌, ◌^◌, ◌≤◌, ◌<◌}
use native.Mathlib.Nat.{mod-lt}
use native.Mathlib.Numerals.{add-one}
use native.Mathlib.Omega.{arith}
use native.Mathlib.Decide.{ℕ_discrete}
use mathlib.Core.Path.{◌≡◌, refl, subst}
use mathlib.Core.List.{List}
use lib.Bits.{bit_xor}
use lib.ListN.{length, get_or, set, replicate}
use Rattle.galois.specs.Field.{alpha}
use Rattle.galois.proofs.Primitive.{Primitive, primitive_5_10}
use Rattle.galois.proofs.FieldTables.{zeros, size_least, size_most, even_size}
use Rattle.galois.proofs.Logs.{alpha_mod}
use Rattle.bch.proofs.tables.CodeTables.{CodeTables, PairRoots, TrioRoots, log_in, powers_in, roots_in, reduced}
use Rattle.bch.proofs.tables.RootFills.{pairs_none, trios_none, behind}
use Rattle.bch.proofs.tables.TableFills.{LogPart, FieldPart, logs_none, logs_more, logs_all, part_as, mixed, mixed_none, mixed_more, mixed_all}
use Rattle.bch.proofs.tables.TableFills.{stage, stage_one, stage_two, stage_three, stage_low}
use Rattle.bch.proofs.tables.TableLoops.{FieldFilled, RootPart, Rootless, Again, again_none, again_more, field_filled, roots_empty}
use Rattle.bch.proofs.tables.TableLoops.{pairs_step, trios_step, code_filled}

empty_long : (n : ℕ) → n ≤ length {A = ℕ} (replicate n 0)
empty_long zero = omega arith
empty_long (suc n) = omega (arith, empty_long n)

-- a list with entries repeated
again_to : (p from n : ℕ) (ts : List ℕ) → n ≤ p → from + p + n ≤ length ts → (us : List ℕ) × Again p from n ts us
again_to p from zero ts h l = (ts, again_none p from ts)
again_to p from (suc i) ts h l =
    let (us, f) = again_to p from i ts (omega arith) (omega arith) in
    let vs = set us (from + p + i) (get_or us (from + i) 0) in
    (vs, subst (λ (j : ℕ). Again p from j ts vs) (add-one i) (again_more p from ts i us h (omega arith) f))

module _ (m : ℕ) (least : 5 ≤ m) (most : m ≤ 10) where
  abbrev g : Primitive m
  g = primitive_5_10 m least most

  size : 32 ≤ 2 ^ m
  size = size_least m least

  abbrev p : ℕ
  p = 2 ^ m - 1

  logs_to : (i : ℕ) → i ≤ 2 ^ m - 1 → (ts : List ℕ) × LogPart m i ts
  logs_to zero h =
      let n = 3 * 2 ^ m + 16 in
      let ts : List ℕ = replicate n 0 in
      let l : n ≤ length ts = empty_long n in
      (ts, logs_none m ts l (zeros n))
  logs_to (suc i) h =
      let (ts, f) = logs_to i (omega arith) in
      let k : i + 1 ≡ suc i = add-one i in
      let us = set (set ts (alpha m i) i) (2 ^ m + i) (alpha m i) in
      (us, subst (λ (j : ℕ). LogPart m j us) k (logs_more m g i (alpha m i) i (2 ^ m + i) (alpha m i) ts h refl refl refl refl f))

  module _ (d scale : ℕ) (f h : ℕ → ℕ) (ff : (k : ℕ) → k < 2 ^ m - 1 → f k % 1024 ≡ alpha m k) (hh : (k : ℕ) → k < 2 ^ m - 1 → h k % 1024 ≡ alpha m k)
      (sum : (k : ℕ) → k < 2 ^ m - 1 → f k + scale * alpha m (d * k) ≡ h k) (start : (ts : List ℕ) × FieldPart m f (2 ^ m - 1) ts) where
    mixed_to : (i : ℕ) → i ≤ 2 ^ m - 1 → (ts : List ℕ) × FieldPart m (mixed f h i) (2 ^ m - 1) ts
    mixed_to zero l = (start.0, mixed_none m f h start.0 start.1)
    mixed_to (suc i) l =
        let (ts, q) = mixed_to i (omega arith) in
        let k : i + 1 ≡ suc i = add-one i in
        let e = (d * i) % (2 ^ m - 1) in
        let us = set ts (2 ^ m + i) (get_or ts (2 ^ m + i) 0 + scale * (get_or ts (2 ^ m + e) 0 % 1024)) in
        let he : e < 2 ^ m - 1 = mod-lt (d * i) (omega (arith, size)) in
        (us, subst (λ (j : ℕ). FieldPart m (mixed f h j) (2 ^ m - 1) us) k (mixed_more m f h ts d scale i e l he (alpha_mod m g (d * i)) ff hh sum q))

    added : (ts : List ℕ) × FieldPart m h (2 ^ m - 1) ts
    added = let (ts, q) = mixed_to (2 ^ m - 1) (omega arith) in (ts, mixed_all m f h ts q)

  stage_1 : (ts : List ℕ) × FieldPart m (stage m 1) (2 ^ m - 1) ts
  stage_1 =
      let (ts, f) = logs_to (2 ^ m - 1) (omega arith) in
      let us = set ts 0 (2 ^ m + 7) in
      (us, part_as m (alpha m) (stage m 1) (2 ^ m - 1) us (λ k h. stage_one m g most k) (logs_all m g (2 ^ m + 7) ts refl f))

  stage_2 : (ts : List ℕ) × FieldPart m (stage m 2) (2 ^ m - 1) ts
  stage_2 =
      added 3 1024 (stage m 1) (stage m 2) (λ k h. stage_low m g most k 1 (omega arith) (omega arith))
      (λ k h. stage_low m g most k 2 (omega arith) (omega arith))
      (λ k h. stage_two m g most k) stage_1

  stage_3 : (ts : List ℕ) × FieldPart m (stage m 3) (2 ^ m - 1) ts
  stage_3 =
      added 5 1048576 (stage m 2) (stage m 3) (λ k h. stage_low m g most k 2 (omega arith) (omega arith))
      (λ k h. stage_low m g most k 3 (omega arith) (omega arith))
      (λ k h. stage_three m g most k) stage_2

  stage_to : (t : ℕ) → 1 ≤ t → t ≤ 3 → (ts : List ℕ) × FieldPart m (stage m t) (2 ^ m - 1) ts
  stage_to zero l u = absurd (omega arith)
  stage_to (suc zero) l u = stage_1
  stage_to (suc (suc zero)) l u = stage_2
  stage_to (suc (suc (suc zero))) l u = stage_3
  stage_to (suc (suc (suc (suc t)))) l u = absurd (omega arith)

  module _ (t : ℕ) (tl : 1 ≤ t) (tu : t ≤ 3) where
    field_to : (ts : List ℕ) × FieldFilled m t ts × Rootless m ts
    field_to =
        let (ts, f) = stage_to t tl tu in
        let (us, r) = again_to p (2 ^ m) 8 ts (omega (arith, size)) (omega (arith, f.long)) in
        (us, field_filled m g size t ts us f r, roots_empty m g size t ts us f r)

    pairs_to : (i : ℕ) → 2 * i + 2 ≤ 2 ^ m → (ts : List ℕ) × FieldFilled m t ts × PairRoots m (2 * i + 2) (roots_in m ts)
    pairs_to zero h = let (ts, f, z) = field_to in (ts, f, pairs_none m (roots_in m ts) (λ k l. z k))
    pairs_to (suc i) h =
        let (ts, f, q) = pairs_to i (omega arith) in
        let w = 2 * i + 2 in
        let a = log_in ts w in
        let b = log_in ts (w + 1) in
        let e = reduced (2 ^ m - 1) (a + b) in
        let us = set ts (2 * 2 ^ m + 8 + e) (a + 1024 * b) in
        let k : 2 * i + 2 + 2 ≡ 2 * suc i + 2 = omega arith in
        let (f', q') = pairs_step m g (size_most m most) t ts f w a b e (2 * 2 ^ m + 8 + e) (a + 1024 * b) (omega arith) (omega arith)
        (omega arith) refl refl refl refl refl q in
        (us, f', subst (λ (j : ℕ). PairRoots m j (roots_in m us)) k q')

    trios_to : (i : ℕ) → i + 1 ≤ 2 ^ m - 1 → (ts : List ℕ) × FieldFilled m t ts × TrioRoots m (i + 1) (roots_in m ts)
    trios_to zero h = let (ts, f, z) = field_to in (ts, f, trios_none m g (roots_in m ts) (λ k l. z k))
    trios_to (suc i) h =
        let (ts, f, q) = trios_to i (omega arith) in
        let l = i + 1 in
        let e = (3 * l) % (2 ^ m - 1) in
        let he : e < 2 ^ m - 1 = mod-lt (3 * l) (omega (arith, size)) in
        let x = bit_xor (powers_in m ts l % 1024) 1 in
        let b = behind (2 ^ m - 1) e (log_in ts x) in
        let at = 2 * 2 ^ m + 8 + b in
        let v = get_or ts at 0 % 1024 * 1024 + l in
        let k : i + 1 + 1 ≡ suc i + 1 = omega arith in
        let (f', q') = trios_step m g (size_most m most) t ts f l e x b at v tl tu most (omega arith) (omega arith) he
        (alpha_mod m g (3 * l)) refl refl refl refl q in
        (set ts at v, f', subst (λ (j : ℕ). TrioRoots m j (roots_in m (set ts at v))) k q')

    roots_to : (ts : List ℕ) × RootPart m t ts
    roots_to = go (ℕ_discrete t 2) (ℕ_discrete t 3)
      where
        go : Dec (t ≡ 2) → Dec (t ≡ 3) → (ts : List ℕ) × RootPart m t ts
        go (yes e) d =
            let h : 2 * (2 ^ m / 2 - 1) + 2 ≡ 2 ^ m = omega (arith, even_size m (omega arith), size) in
            let (ts, f, q) = pairs_to (2 ^ m / 2 - 1) (omega arith) in
            let pairs = subst (λ (j : ℕ). PairRoots m j (roots_in m ts)) h q in
            (ts, record { field = f; pairs = λ z. pairs; trios = λ z. absurd (omega arith) })
        go (no n) (yes e) =
            let h : 2 ^ m - 2 + 1 ≡ 2 ^ m - 1 = omega (arith, size) in
            let (ts, f, q) = trios_to (2 ^ m - 2) (omega arith) in
            let trios = subst (λ (j : ℕ). TrioRoots m j (roots_in m ts)) h q in
            (ts, record { field = f; pairs = λ z. absurd (n z); trios = λ z. trios })
        go (no n) (no o) = let (ts, f, z) = field_to in (ts, record { field = f; pairs = λ z. absurd (n z); trios = λ z. absurd (o z) })

    -- there are such tables
    pub code_tables_there : (ts : List ℕ) × CodeTables m t ts
    code_tables_there =
        let (ts, f) = roots_to in
        let (us, r) = again_to p (2 * 2 ^ m + 8) 8 ts (omega (arith, size)) (omega (arith, f.field.long)) in
        (us, code_filled m t ts us f r least most tl tu)
