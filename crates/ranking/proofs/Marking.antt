-- Marks of the symbols of one reliability, and their bits. Assumes nothing.
use Prim.Native.Nat.{ℕ, zero, suc, ◌+◌, ◌-◌, ◌*◌, ◌/◌, ◌%◌, ◌^◌, ◌≤◌, ◌<◌, min}
use native.Mathlib.Omega.{arith}
use native.Mathlib.Decide.{dec_le}
use native.Mathlib.Numerals.{add-one}
use native.Mathlib.Nat.{pow-succ', div-div-eq-div-mul, div-one, zero-div}
use mathlib.Core.Path.{◌≡◌, refl, ap, ap₂, sym, ◌∙◌}
use mathlib.Core.Bool.{Bool, true, false, cond, ◌||◌}
use mathlib.Core.List.{List, [], ◌∷◌, ◌++◌}
use borrow.Author.Tests.{eq-eqb, ne_eqb}
use lib.Dec.{eqb}
use Rattle.std.specs.List.{fold}
use Rattle.std.proofs.Common.{bit_or, reverse}
use Rattle.std.proofs.lemmas.List.{reverse-append}
use Rattle.std.proofs.lemmas.Grind.{fold-append, or_after_shift}
use lib.Pow.{pow_mono}
use lib.Count.{count_trailing_zeros, under}
use lib.ListN.{length, length-drop, drop_of_length-le, length-take, take-append-drop, drop, take, length-map}
use lib.Seq.{drop-drop, take_all, length-take-le}
use Rattle.chase.proofs.ranking.Keys.{map_take}
use Rattle.ranking.specs.Levels.{marks, any_of, bits_of, marked, bit_keys, level_from}

-- ---- marks

length_marks : (z : ℕ) (ss : List ℕ) → length (marks z ss) ≡ length ss
unfolding marks
length_marks z ss = length-map ss (λ (s : ℕ). eqb (s % 16) z)

marks_drop : (z i : ℕ) (ss : List ℕ) → marks z (drop i ss) ≡ drop i (marks z ss)
unfolding marks
marks_drop z zero ss = refl
marks_drop z (suc i) [] = refl
marks_drop z (suc i) (s ∷ ss) = marks_drop z i ss

marks_take : (z i : ℕ) (ss : List ℕ) → marks z (take i ss) ≡ take i (marks z ss)
unfolding marks
marks_take z i ss = map_take (λ (s : ℕ). eqb (s % 16) z) i ss

-- ---- whether there is a mark

-- found already, or among these
pub any_found : (found : Bool) (z : ℕ) (ss : List ℕ)
    → fold (λ (f : Bool) (s : ℕ). f || eqb (s % 16) z) found ss ≡ cond found true (any_of (marks z ss))
unfolding any_of marks
any_found true z [] = refl
any_found false z [] = refl
any_found true z (s ∷ ss) = any_found true z ss
any_found false z (s ∷ ss) = any_found (eqb (s % 16) z) z ss

any_later : (j : ℕ) (bs : List Bool) → any_of bs ≡ false → any_of (drop j bs) ≡ false
unfolding any_of
any_later zero bs e = e
any_later (suc j) [] e = e
any_later (suc j) (true ∷ bs) e = absurd (let q : ◌≡◌ {A = ℕ} 0 1 = cc in omega arith)
any_later (suc j) (false ∷ bs) e = any_later j bs e

none_marked : (k : ℕ) (bs : List Bool) → any_of bs ≡ false → marked k bs ≡ []
unfolding any_of marked
none_marked k [] e = refl
none_marked k (true ∷ bs) e = absurd (let q : ◌≡◌ {A = ℕ} 0 1 = cc in omega arith)
none_marked k (false ∷ bs) e = none_marked (suc k) bs e

-- where there is none, no bit is set, ..
pub bits_unmarked : (bs : List Bool) → any_of bs ≡ false → bits_of bs ≡ 0
unfolding any_of bits_of
bits_unmarked [] e = refl
bits_unmarked (true ∷ bs) e = absurd (let q : ◌≡◌ {A = ℕ} 0 1 = cc in omega arith)
bits_unmarked (false ∷ bs) e = omega (arith, bits_unmarked bs e)

-- .. and no key is marked from anywhere on
pub any_none : (k j : ℕ) (bs : List Bool) → any_of bs ≡ false → marked k (drop j bs) ≡ []
any_none k j bs e = none_marked k (drop j bs) (any_later j bs e)

-- ---- the bits

bits_pow : (bs : List Bool) → bits_of bs < 2 ^ length bs
unfolding bits_of
bits_pow [] = omega arith
bits_pow (true ∷ bs) = rw (pow-succ' 2 (length bs)) (omega (arith, bits_pow bs))
bits_pow (false ∷ bs) = rw (pow-succ' 2 (length bs)) (omega (arith, bits_pow bs))

-- sixteen marks are sixteen bits
bits_small : (bs : List Bool) → length bs ≤ 16 → bits_of bs < 65536
bits_small bs h = omega (arith, bits_pow bs, pow_mono h)

marks_small : (z : ℕ) (ss : List ℕ) → length ss ≤ 16 → bits_of (marks z ss) < 65536
marks_small z ss h = bits_small (marks z ss) (omega (arith, length_marks z ss))

bit_more : (b : Bool) (x : ℕ) → x < 65536 → bit_or (x * 2 % 2 ^ 32) (cond b 1 0) ≡ 2 * x + cond b 1 0
bit_more true x h = or_after_shift x 2 (2 ^ 32) 1 refl (omega arith) (omega arith) ∙ omega arith
bit_more false x h = or_after_shift x 2 (2 ^ 32) 0 refl (omega arith) (omega arith) ∙ omega arith

-- the bits of the marks, from the last down
bits_taken : (z : ℕ) (ss : List ℕ) → length ss ≤ 16
    → fold (λ (b s : ℕ). bit_or (b * 2 % 2 ^ 32) (cond (eqb (s % 16) z) 1 0)) 0 (reverse ss) ≡ bits_of (marks z ss)
unfolding bits_of marks
bits_taken z [] h = refl
bits_taken z (s ∷ ss) h =
    let add = λ (b s : ℕ). bit_or (b * 2 % 2 ^ 32) (cond (eqb (s % 16) z) 1 0) in
    ap (fold add 0) (reverse-append (s ∷ []) ss) ∙ fold-append add 0 (reverse ss) (s ∷ [])
    ∙ ap (λ (x : ℕ). add x s) (bits_taken z ss (omega arith))
    ∙ bit_more (eqb (s % 16) z) (bits_of (marks z ss)) (marks_small z ss (omega arith))

pub sixteen_taken : (z r : ℕ) (ss : List ℕ) → length ss ≤ 16
    → r ≡ fold (λ (b s : ℕ). bit_or (b * 2 % 2 ^ 32) (cond (eqb (s % 16) z) 1 0)) 0 (reverse ss)
    → (r ≡ bits_of (marks z ss)) × (r < 65536)
sixteen_taken z r ss h e = (e ∙ bits_taken z ss h, omega (arith, e ∙ bits_taken z ss h, marks_small z ss h))

-- a shift drops marks
bits_drop : (j : ℕ) (bs : List Bool) → bits_of bs / 2 ^ j ≡ bits_of (drop j bs)
unfolding bits_of
bits_drop zero bs = div-one (bits_of bs)
bits_drop (suc j) [] = zero-div (2 ^ suc j)
bits_drop (suc j) (b ∷ bs) = ap (λ (x : ℕ). (2 * bits_of bs + cond b 1 0) / x) (pow-succ' 2 j)
    ∙ sym (div-div-eq-div-mul (2 * bits_of bs + cond b 1 0) 2 (2 ^ j)) ∙ ap (λ (x : ℕ). x / 2 ^ j) (half b) ∙ bits_drop j bs
  where
    half : (b : Bool) → (2 * bits_of bs + cond b 1 0) / 2 ≡ bits_of bs
    half true = omega arith
    half false = omega arith

-- ---- the keys of the bits

pub keys_none : (n k : ℕ) → bit_keys n 0 k ≡ []
unfolding bit_keys
keys_none zero k = refl
keys_none (suc n) k = keys_none n (suc k)

keys_odd : (n x k : ℕ) → x % 2 ≡ 1 → bit_keys (suc n) x k ≡ k ∷ bit_keys n (x / 2) (suc k)
unfolding bit_keys
keys_odd n x k e = rw (eq-eqb (x % 2) 1 e)

keys_even : (n x k : ℕ) → x % 2 ≡ 0 → bit_keys (suc n) x k ≡ bit_keys n (x / 2) (suc k)
unfolding bit_keys
keys_even n x k e = rw (ne_eqb (x % 2) 1 (λ q. omega arith))

-- are the marked ones
keys_marked : (n k : ℕ) (bs : List Bool) → length bs ≤ n → bit_keys n (bits_of bs) k ≡ marked k bs
unfolding bits_of marked
keys_marked n k [] h = keys_none n k
keys_marked zero k (b ∷ bs) h = absurd (omega arith)
keys_marked (suc n) k (true ∷ bs) h =
    let o : (2 * bits_of bs + 1) % 2 ≡ 1 = omega arith in
    let d : (2 * bits_of bs + 1) / 2 ≡ bits_of bs = omega arith in
    keys_odd n (2 * bits_of bs + 1) k o ∙ ap (λ (x : ℕ). k ∷ bit_keys n x (suc k)) d
    ∙ ap (λ (l : List ℕ). k ∷ l) (keys_marked n (suc k) bs (omega arith))
keys_marked (suc n) k (false ∷ bs) h =
    let o : (2 * bits_of bs + 0) % 2 ≡ 0 = omega arith in
    let d : (2 * bits_of bs + 0) / 2 ≡ bits_of bs = omega arith in
    keys_even n (2 * bits_of bs + 0) k o ∙ ap (λ (x : ℕ). bit_keys n x (suc k)) d ∙ keys_marked n (suc k) bs (omega arith)

-- the lowest bit of x stands at t
pub record Lowest (n x k t : ℕ) : Type 0 where
  pub within : t < n
  pub keys : bit_keys n x k ≡ (k + t) ∷ bit_keys (n - suc t) (x / 2 ^ t / 2) (k + t + 1)
  pub small : x / 2 ^ t / 2 < 2 ^ (n - suc t)

pub lowest : (n d x k : ℕ) → n ≤ d → 0 < x → x < 2 ^ n → Lowest n x k (count_trailing_zeros d x)
unfolding count_trailing_zeros
lowest zero d x k h l w = absurd (omega arith)
lowest (suc n) zero x k h l w = absurd (omega arith)
lowest (suc n) (suc d) x k h l w = go (x % 2) refl (λ e. lowest n d (x / 2) (suc k) (omega arith) (omega arith) half)
  where
    half : x / 2 < 2 ^ n
    half = omega (arith, pow-succ' 2 n)

    go : (r : ℕ) → x % 2 ≡ r → (x % 2 ≡ 0 → Lowest n (x / 2) (suc k) (count_trailing_zeros d (x / 2))) → Lowest (suc n) x k (under r (count_trailing_zeros d (x / 2)))
    go zero e i =
        let t = count_trailing_zeros d (x / 2) in
        let low = i e in
        let f : x / 2 ^ suc t ≡ x / 2 / 2 ^ t = ap (λ (y : ℕ). x / y) (pow-succ' 2 t) ∙ sym (div-div-eq-div-mul x 2 (2 ^ t)) in
        let p : suc k + t ≡ k + suc t = omega arith in
        let q : suc n - suc (suc t) ≡ n - suc t = omega arith in
        record {
          within = omega (arith, low.within);
          keys = keys_even n x k e ∙ low.keys ∙ rw (f, p, q);
          small = rw (f, q) low.small;
        }
    go (suc r) e i =
        let f : x / 1 ≡ x = div-one x in
        let p : k + 0 ≡ k = omega arith in
        let q : suc n - 1 ≡ n = omega arith in
        record {
          within = omega arith;
          keys = keys_odd n x k (omega arith) ∙ rw (f, p, q, add-one);
          small = rw (f, q) half;
        }

-- ---- sixteen after sixteen

-- at the end no key is left
pub marked_end : (k z i : ℕ) (ss : List ℕ) → length ss ≤ i → marked k (drop i (marks z ss)) ≡ []
unfolding marked
marked_end k z i ss h = rw (drop_of_length-le (marks z ss) {i = i} (omega (arith, length_marks z ss)))

marked_append : (k : ℕ) (xs ys : List Bool) → marked k (xs ++ ys) ≡ marked k xs ++ marked (k + length xs) ys
unfolding marked
marked_append k [] ys = let e : k + 0 ≡ k = omega arith in rw e
marked_append k (true ∷ xs) ys =
    let e : suc k + length xs ≡ k + suc (length xs) = omega arith in
    ap (λ (l : List ℕ). k ∷ l) (marked_append (suc k) xs ys ∙ ap (λ (j : ℕ). marked (suc k) xs ++ marked j ys) e)
marked_append k (false ∷ xs) ys =
    let e : suc k + length xs ≡ k + suc (length xs) = omega arith in
    marked_append (suc k) xs ys ∙ ap (λ (j : ℕ). marked (suc k) xs ++ marked j ys) e

-- the keys from i on are those of the sixteen bits there, and those behind them
pub level_sixteen : (z i : ℕ) (ss : List ℕ)
    → level_from z i ss ≡ bit_keys 16 (bits_of (take 16 (drop i (marks z ss)))) (z * 1024 + i) ++ level_from z (i + 16) ss
unfolding marked
level_sixteen z i ss =
    let bs = drop i (marks z ss) in
    let k = z * 1024 + i in
    let e : k + 16 ≡ z * 1024 + (i + 16) = omega arith in
    let few : length (take 16 bs) ≤ 16 = omega (arith, length-take 16 bs) in
    ap (marked k) (sym (take-append-drop 16 bs)) ∙ marked_append k (take 16 bs) (drop 16 bs)
    ∙ ap₂ (λ (xs ys : List ℕ). xs ++ ys) (sym (keys_marked 16 k (take 16 bs) few))
    (ap (marked (k + length (take 16 bs))) (drop-drop 16 i (marks z ss)) ∙ elim (dec_le 16 (length bs)) [
      | yes h ↦ ap (λ (n : ℕ). marked (k + n) (drop (i + 16) (marks z ss))) (length-take-le 16 bs h)
          ∙ ap (λ (n : ℕ). marked n (drop (i + 16) (marks z ss))) e
      | no h ↦ (let none : drop (i + 16) (marks z ss) ≡ []
          = drop_of_length-le (marks z ss) {i = i + 16} (omega (arith, length-drop i (marks z ss))) in
          rw none)
    ])

-- the sixteen bits from i on, where fewer symbols are read, ..
pub sixteen_few : (z i : ℕ) (ss : List ℕ) → length ss < 16 → bits_of (marks z ss) / 2 ^ i ≡ bits_of (take 16 (drop i (marks z ss)))
sixteen_few z i ss h =
    bits_drop i (marks z ss) ∙ ap bits_of (sym (take_all 16 (drop i (marks z ss)) (omega (arith, length-drop i (marks z ss), length_marks z ss))))

-- .. and where sixteen are, the last of which end with the word
pub sixteen_last : (z i at : ℕ) (ss : List ℕ) → 16 ≤ length ss → at ≡ min i (length ss - 16)
    → bits_of (marks z (take (at + 16 - at) (drop at ss))) / 2 ^ (i - at) ≡ bits_of (take 16 (drop i (marks z ss)))
sixteen_last z i at ss h e =
    let w : at + 16 - at ≡ 16 = omega arith in
    rw (w, bits_drop (i - at), marks_take z 16 (drop at ss), marks_drop z at ss)
    (ap bits_of (elim (dec_le i (length ss - 16)) [
      | yes u ↦ (let f : at ≡ i = omega arith in let g : i - i ≡ 0 = omega arith in rw (f, g))
      | no u ↦ (let g : at + (i - at) ≡ i = omega arith in
          rw (take_all 16 (drop at (marks z ss)) (omega (arith, length-drop at (marks z ss), length_marks z ss)), drop-drop (i - at) at (marks z ss), g)
          (sym (take_all 16 (drop i (marks z ss)) (omega (arith, length-drop i (marks z ss), length_marks z ss)))))
    ]))

-- they are small
pub sixteen_small : (z i : ℕ) (ss : List ℕ) → bits_of (take 16 (drop i (marks z ss))) < 65536
sixteen_small z i ss = bits_small (take 16 (drop i (marks z ss))) (omega (arith, length-take 16 (drop i (marks z ss))))
