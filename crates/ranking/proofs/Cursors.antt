-- The keys of a word by levels that a cursor has before it, and the eight places that the first keys go into. Assumes nothing.
use Prim.Native.Nat.{ℕ, zero, suc, ◌+◌, ◌-◌, ◌*◌, ◌/◌, ◌^◌, ◌≤◌, ◌<◌}
use native.Mathlib.Omega.{arith}
use native.Mathlib.Numerals.{add-one}
use mathlib.Core.Path.{◌≡◌, refl, ap, sym, ◌∙◌}
use mathlib.Core.List.{List, [], ◌∷◌, ◌++◌, append_assoc}
use lib.Count.{count_trailing_zeros}
use lib.ListN.{length, take, drop, set, replicate, length-append, length-take, length-drop, length-replicate}
use lib.Seq.{take_all, length-take-le, take-set-lt, set-append_seam, set-append_left}
use Rattle.chase.proofs.ranking.Keys.{take_replicate}
use Rattle.ranking.specs.Weakest.{padded}
use Rattle.ranking.specs.Levels.{marks, bits_of, bit_keys, level_from, level_keys, come, Found}
use Rattle.ranking.proofs.Marking.{Lowest, lowest, keys_none, marked_end, level_sixteen, sixteen_small}

-- ---- eight places

take_pad : (n m x : ℕ) (ys : List ℕ) → n ≤ length ys + m → take n (ys ++ replicate m x) ≡ take n (ys ++ replicate (suc m) x)
take_pad n m x [] h = take_replicate n m x (omega arith) ∙ sym (take_replicate n (suc m) x (omega arith))
take_pad zero m x (y ∷ ys) h = refl
take_pad (suc n) m x (y ∷ ys) h = ap (λ (l : List ℕ). y ∷ l) (take_pad n m x ys (omega arith))

-- one key more
padded_set : (k : ℕ) (xs : List ℕ) → length xs < 8 → set (padded xs) (length xs) k ≡ padded (xs ++ (k ∷ []))
unfolding padded
padded_set k xs h =
    let n : 8 ≤ length (xs ++ (k ∷ [])) + 7 = omega (arith, length-append xs (k ∷ [])) in
    sym (take-set-lt 8 (xs ++ replicate 8 65535) (length xs) k h)
    ∙ ap (take 8) (set-append_seam xs 65535 (replicate 7 65535) k ∙ sym (append_assoc xs (k ∷ []) (replicate 7 65535)))
    ∙ take_pad 8 7 65535 (xs ++ (k ∷ [])) n

pub length_padded : (xs : List ℕ) → length (padded xs) ≡ 8
unfolding padded
length_padded xs = omega (arith, length-take 8 (xs ++ replicate 8 65535), length-append xs (replicate 8 65535), length-replicate {A = ℕ} 8 65535)

set_append_right : (xs ys : List ℕ) (i k : ℕ) → xs ++ set ys i k ≡ set (xs ++ ys) (length xs + i) k
set_append_right [] ys i k = let e : i ≡ 0 + i = omega arith in ap (λ (j : ℕ). set ys j k) e
set_append_right (x ∷ xs) ys i k =
    let e : suc (length xs + i) ≡ suc (length xs) + i = omega arith in
    ap (λ (l : List ℕ). x ∷ l) (set_append_right xs ys i k) ∙ ap (λ (j : ℕ). set (x ∷ xs ++ ys) j k) e

-- ---- a list, of which the first k are taken

cons_at : (k x : ℕ) (xs ys : List ℕ) → drop k xs ≡ x ∷ ys → (k < length xs) × (take (suc k) xs ≡ take k xs ++ (x ∷ [])) × (drop (suc k) xs ≡ ys)
cons_at zero x [] ys e = absurd (let q : ◌≡◌ {A = ℕ} 0 (suc (length ys)) = ap length e in omega arith)
cons_at zero x (w ∷ xs) ys e = (omega arith, cc, cc)
cons_at (suc k) x [] ys e = absurd (let q : ◌≡◌ {A = ℕ} 0 (suc (length ys)) = ap length e in omega arith)
cons_at (suc k) x (w ∷ xs) ys e = let i = cons_at k x xs ys e in (omega (arith, i.0), ap (λ (l : List ℕ). w ∷ l) i.1, i.2)

-- the next key goes into the next place
pub next_put : (k x : ℕ) (ps all ys : List ℕ) → k < 8 → ps ≡ padded (take k all) → drop k all ≡ x ∷ ys
    → (set ps k x ≡ padded (take (k + 1) all)) × (drop (k + 1) all ≡ ys)
next_put k x ps all ys h p e =
    let i = cons_at k x all ys e in
    let n : length (take k all) ≡ k = length-take-le k all (omega (arith, i.0)) in
    rw add-one (
      ap (λ (l : List ℕ). set l k x) p ∙ ap (λ (j : ℕ). set (padded (take k all)) j x) (sym n) ∙ padded_set x (take k all) (omega arith)
          ∙ ap padded (sym i.1),
      i.2,
    )

-- the place is one of the first six, ..
pub low_put : (k x : ℕ) (at more : List ℕ) → k < 6 → length at ≡ 6 → set at k x ++ more ≡ set (at ++ more) k x
low_put k x at more h six = sym (set-append_left at more k x (omega arith))

-- .. or behind them
pub high_put : (k x : ℕ) (at more : List ℕ) → 6 ≤ k → length at ≡ 6 → at ++ set more (k - 6) x ≡ set (at ++ more) k x
high_put k x at more h six =
    let i : length at + (k - 6) ≡ k = omega arith in
    set_append_right at more (k - 6) x ∙ ap (λ (j : ℕ). set (at ++ more) j x) i

-- where none is left, all are taken
pub all_taken : (k size : ℕ) (all : List ℕ) → k ≤ size → drop k all ≡ [] → take k all ≡ take size all
all_taken k size all h e =
    let l : length all ≤ k = omega (arith, ap length e, length-drop k all) in
    take_all k all l ∙ sym (take_all size all (omega arith))

-- ---- the keys still to come

-- at the first symbols of a level from a position on, these and the levels above are
pub found_come : (z from i bits : ℕ) (ss : List ℕ) → Found z from ss i bits
    → come (i + 16) bits (z * 1024 + i) z ss ≡ level_from z from ss ++ level_keys (15 - z) (suc z) ss
unfolding come
found_come z from i bits ss f =
    let e : z * 1024 + (i + 16) - (z * 1024 + i) ≡ 16 = omega arith in
    rw e (ap (λ (l : List ℕ). l ++ level_keys (15 - z) (suc z) ss) (sym f.same))

-- where no bit is left, those of its level from its position on
pub empty_come : (next left key z : ℕ) (ss : List ℕ) → left ≡ 0
    → come next left key z ss ≡ level_from z next ss ++ level_keys (15 - z) (suc z) ss
unfolding come
empty_come next left key z ss h = rw (h, keys_none)

-- at the start all keys are
pub start_come : (ss : List ℕ) → come 0 0 0 0 ss ≡ level_keys 16 0 ss
unfolding level_keys
start_come ss = empty_come 0 0 0 0 ss refl

-- the key of the lowest bit is the next
pub record Stepped (next left key z t : ℕ) : Type 0 where
  pub few : t < 16
  pub begun : key + t + 1 ≤ z * 1024 + next
  pub bits : left / 2 ^ t / 2 < 2 ^ (z * 1024 + next - (key + t + 1))
  pub taken : (ss : List ℕ) → come next left key z ss ≡ (key + t) ∷ come next (left / 2 ^ t / 2) (key + t + 1) z ss

pub stepped : (next left key z t : ℕ) → t ≡ count_trailing_zeros 32 left → 0 < left
    → key ≤ z * 1024 + next → z * 1024 + next ≤ key + 16 → left < 2 ^ (z * 1024 + next - key) → Stepped next left key z t
unfolding come
stepped next left key z t zeros some begun few bits =
    let low : Lowest (z * 1024 + next - key) left key t = rw zeros (lowest (z * 1024 + next - key) 32 left key (omega arith) some bits) in
    let e : z * 1024 + next - (key + t + 1) ≡ z * 1024 + next - key - suc t = omega arith in
    record {
      few = omega (arith, low.within);
      begun = omega (arith, low.within);
      bits = rw e low.small;
      taken = λ ss. rw e (ap (λ (l : List ℕ). l ++ level_from z next ss ++ level_keys (15 - z) (suc z) ss) low.keys);
    }

-- ---- seeking: the symbols of level z from a position on, of which those before i are none

module _ (z from i : ℕ) (ss : List ℕ) (passed : level_from z from ss ≡ level_from z i ss) where
  module _ (bits : ℕ) (are_bits : bits ≡ bits_of (take 16 (drop i (marks z ss)))) where
    rest : level_from z from ss ≡ bit_keys 16 bits (z * 1024 + i) ++ level_from z (i + 16) ss
    rest = passed ∙ level_sixteen z i ss ∙ ap (λ (x : ℕ). bit_keys 16 x (z * 1024 + i) ++ level_from z (i + 16) ss) (sym are_bits)

    -- there are none among the next sixteen, ..
    pub sixteen_none : bits ≡ 0 → level_from z from ss ≡ level_from z (i + 16) ss
    sixteen_none e = rest ∙ ap (λ (l : List ℕ). l ++ level_from z (i + 16) ss) (ap (λ (x : ℕ). bit_keys 16 x (z * 1024 + i)) e ∙ keys_none 16 (z * 1024 + i))

    -- .. or some
    pub sixteen_found : i < length ss → 0 < bits → Found z from ss i bits
    sixteen_found near some = record { within = near; some = some; small = omega (arith, are_bits, sixteen_small z i ss); same = rest }

  -- at the end of the word there are none
  pub seek_end : length ss ≤ i → level_from z from ss ≡ []
  seek_end end = passed ∙ marked_end (z * 1024 + i) z i ss end
