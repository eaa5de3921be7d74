-- The steps from level to level. Assumes nothing.
use Prim.Native.Nat.{ℕ, zero, suc, ◌+◌, ◌-◌, ◌*◌, ◌%◌, ◌≤◌, ◌<◌, min}
use native.Mathlib.Omega.{arith}
use native.Mathlib.Decide.{dec_lt}
use mathlib.Core.Path.{◌≡◌, refl, ap, sym, ◌∙◌}
use mathlib.Core.Bool.{Bool, true, false, cond}
use mathlib.Core.List.{List, [], ◌∷◌, ◌++◌, map}
use borrow.Author.Tests.{ne_eqb}
use lib.Dec.{ltb}
use Rattle.std.proofs.lemmas.Bool.{ltb-true, lt-ltb}
use Rattle.std.specs.List.{fold}
use lib.ListN.{length, get_or, take, drop, length-drop}
use lib.Seq.{get_or-take, get_or-drop, length-take-le}
use Rattle.ranking.specs.Levels.{marks, any_of, level_from, level_keys, Next}
use Rattle.ranking.proofs.Marking.{any_none}

-- ---- the next level

-- a reliability where it is above z, and 16 elsewhere
abbrev above : ℕ → ℕ → ℕ
above z s = cond (ltb z (s % 16)) (s % 16) 16

-- the least of these, and of one before
abbrev least : ℕ → ℕ → List ℕ → ℕ
least z y ss = fold min y (map (above z) ss)

next_before : (z y : ℕ) (ss : List ℕ) → z < y → y ≤ 16 → (least z y ss ≤ y) × Next z (least z y ss) ss
next_before z y [] h m = (omega arith, record { above = h; most = m; none = λ i l. absurd (omega arith) })
next_before z y (s ∷ ss) h m = go (ltb z (s % 16)) refl (λ w l k. next_before z w ss l k)
  where
    more : (w : ℕ) → (least z w ss ≤ w) × Next z (least z w ss) ss → (z < s % 16 → w ≤ s % 16) → Next z (least z w ss) (s ∷ ss)
    more w n first = record { above = n.1.above; most = n.1.most; none = each }
      where
        each : (i : ℕ) → i < length (s ∷ ss) → z < get_or (s ∷ ss) i 0 % 16 → least z w ss ≤ get_or (s ∷ ss) i 0 % 16
        each zero l v = omega (arith, n.0, first v)
        each (suc i) l v = n.1.none i (omega arith) v

    go : (b : Bool) → ltb z (s % 16) ≡ b → ((w : ℕ) → z < w → w ≤ 16 → (least z w ss ≤ w) × Next z (least z w ss) ss)
        → (least z (min y (cond b (s % 16) 16)) ss ≤ y) × Next z (least z (min y (cond b (s % 16) 16)) ss) (s ∷ ss)
    go true e others =
        let l : z < s % 16 = ltb-true z (s % 16) e in
        let n = others (min y (s % 16)) (omega arith) (omega arith) in
        (omega (arith, n.0), more (min y (s % 16)) n (λ _. omega arith))
    go false e others =
        let n = others (min y 16) (omega arith) (omega arith) in
        (omega (arith, n.0), more (min y 16) n (λ l. absurd (let q : ◌≡◌ {A = Bool} true false = sym (lt-ltb z (s % 16) l) ∙ e in cc)))

pub next_least : (z : ℕ) (ss : List ℕ) → z < 16 → Next z (fold min 16 (map (above z) ss)) ss
next_least z ss h = (next_before z 16 ss h (omega arith)).1

-- between a level and the one after it there is none
pub next_one : (z : ℕ) (ss : List ℕ) → z < 16 → Next z (z + 1) ss
next_one z ss h = record { above = omega arith; most = omega arith; none = λ i l w. omega arith }

-- of two parts that leave out no symbol of the word, the lower
pub next_parts : (z y x r a b w : ℕ) (ss : List ℕ) → Next z y (take a ss) → Next z x (take w (drop b ss)) → r ≡ min y x
    → a ≤ length ss → b ≤ a → b + w ≡ length ss → Next z r ss
next_parts z y x r a b w ss n o m h l e =
    record {
      above = omega (arith, n.above, o.above);
      most = omega (arith, n.most);
      none = λ i u v. elim (dec_lt i a) [ yes f ↦ omega (arith, first i f v) | no f ↦ omega (arith, second i (omega arith) u v) ];
    }
  where
    first : (i : ℕ) → i < a → z < get_or ss i 0 % 16 → y ≤ get_or ss i 0 % 16
    first i f v =
        let q = get_or-take a ss i 0 f in
        rw q at (n.none i (omega (arith, length-take-le a ss h)) (rw q v))

    second : (i : ℕ) → b ≤ i → i < length ss → z < get_or ss i 0 % 16 → x ≤ get_or ss i 0 % 16
    second i f u v =
        let k : b + (i - b) ≡ i = omega arith in
        let q : get_or (take w (drop b ss)) (i - b) 0 ≡ get_or ss i 0
        = get_or-take w (drop b ss) (i - b) 0 (omega arith) ∙ get_or-drop b ss (i - b) 0 ∙ ap (λ (j : ℕ). get_or ss j 0) k in
        rw q at (o.none (i - b) (omega (arith, length-take-le w (drop b ss) (omega (arith, length-drop b ss)))) (rw q v))

-- ---- levels

unmarked : (y : ℕ) (ss : List ℕ) → ((i : ℕ) → i < length ss → get_or ss i 0 % 16 ≡ y → ⊥) → any_of (marks y ss) ≡ false
unfolding any_of marks
unmarked y [] h = refl
unmarked y (s ∷ ss) h = rw (ne_eqb (s % 16) y (h 0 (omega arith))) (unmarked y ss (λ i l. h (suc i) (omega arith)))

-- a level without a symbol has no keys
level_none : (y i : ℕ) (ss : List ℕ) → ((j : ℕ) → j < length ss → get_or ss j 0 % 16 ≡ y → ⊥) → level_from y i ss ≡ []
level_none y i ss h = any_none (y * 1024 + i) i (marks y ss) (unmarked y ss h)

-- `gap` levels without a symbol
levels_gap : (gap left z : ℕ) (ss : List ℕ) → ((y i : ℕ) → z ≤ y → y < z + gap → i < length ss → get_or ss i 0 % 16 ≡ y → ⊥)
    → level_keys (gap + left) z ss ≡ level_keys left (z + gap) ss
unfolding level_keys
levels_gap zero left z ss h =
    let e : 0 + left ≡ left = omega arith in
    let f : z + 0 ≡ z = omega arith in
    rw (e, f)
levels_gap (suc gap) left z ss h =
    let e : suc gap + left ≡ suc (gap + left) = omega arith in
    let f : z + suc gap ≡ suc z + gap = omega arith in
    rw (e, f, level_none z 0 ss (λ i l. h z i (omega arith) (omega arith) l))
    (levels_gap gap left (suc z) ss (λ y i l w. h y i (omega arith) (omega arith)))

-- above the last level there is none
pub levels_over : (i : ℕ) (ss : List ℕ) → level_from 16 i ss ++ level_keys (15 - 16) 17 ss ≡ []
unfolding level_keys
levels_over i ss = rw (level_none 16 i ss (λ j l e. omega arith))

-- the levels above z are those from the next on
levels_next : (z y : ℕ) (ss : List ℕ) → z < 16 → Next z y ss → level_keys (15 - z) (suc z) ss ≡ level_from y 0 ss ++ level_keys (15 - y) (suc y) ss
unfolding level_keys
levels_next z y ss h n =
    let e : 15 - z ≡ (y - suc z) + (16 - y) = omega (arith, n.above, n.most) in
    let f : suc z + (y - suc z) ≡ y = omega (arith, n.above) in
    rw e (levels_gap (y - suc z) (16 - y) (suc z) ss (λ x i l w u q. omega (arith, n.above, n.none i u (omega arith)))
    ∙ ap (λ (x : ℕ). level_keys (16 - y) x ss) f
    ∙ elim (dec_lt y 16) [
      | yes l ↦ (let g : 16 - y ≡ suc (15 - y) = omega arith in rw g)
      | no l ↦ (let g : y ≡ 16 = omega (arith, n.most) in rw g (sym (levels_over 0 ss)))
    ])

-- where level z has no more keys, the keys to come are those from the next on
pub level_passed : (z y from : ℕ) (ss ks : List ℕ) → z < 16 → ks ≡ level_from z from ss ++ level_keys (15 - z) (suc z) ss → level_from z from ss ≡ []
    → Next z y ss → ks ≡ level_from y 0 ss ++ level_keys (15 - y) (suc y) ss
level_passed z y from ss ks h come none n =
    come ∙ ap (λ (l : List ℕ). l ++ level_keys (15 - z) (suc z) ss) none ∙ levels_next z y ss h n
