-- Keys of positions, 1024 times the reliability plus the position: the least of a word's, in order, hold its weak positions and its
-- smallest reliabilities. Assumes nothing.
use Prim.Native.Nat.{ℕ, zero, suc, ◌+◌, ◌-◌, ◌*◌, ◌/◌, ◌%◌, ◌≤◌, ◌<◌}
use native.Mathlib.Omega.{arith}
use native.Mathlib.Decide.{dec_lt}
use mathlib.Core.Path.{◌≡◌, refl, ap, sym, ◌∙◌}
use mathlib.Core.Bool.{false}
use mathlib.Core.List.{List, [], ◌∷◌, ◌++◌, map}
use lib.ListN.{length, get_or, take, replicate, length-replicate, length-take, length-append, get_or-map, length-map}
use lib.Seq.{take-append-le, take-take, get_or-take, length-take-le}
use Rattle.bch.specs.Words.{is_in}
use Rattle.bch.proofs.codes.Flipped.{is_in_none}
use Rattle.chase.specs.Soft.{Ranked, rank, weak, reliabilities}
use Rattle.chase.proofs.ranking.Ranking.{All, all_map, Before, Ordered, ordered, Placed, placed, length_rank}
use Rattle.chase.proofs.test_words.Reach.{length_reliabilities}

-- ---- what the keys are

-- the key of a position
abbrev pub key : ℕ → ℕ → ℕ
key z at = z * 1024 + at

-- what a key holds
abbrev pub ranked_of : ℕ → Ranked
ranked_of k = record { z = k / 1024; at = k % 1024 }

-- ks begins with the `size` least keys of a word of symbols, in order: each holds a position and its reliability, the first p the
-- p weak positions, and the first k the first k of the weakest order
pub record Weakest (size : ℕ) (ss ks : List ℕ) : Type 0 where
  pub long : size ≤ length ks
  pub positions : (p : ℕ) → p ≤ size → p ≤ length ss → map (λ (k : ℕ). k % 1024) (take p ks) ≡ weak p (reliabilities ss)
  pub ranked : (k : ℕ) → k ≤ size → k ≤ length ss → map ranked_of (take k ks) ≡ take k (rank 0 (reliabilities ss))
  pub rising : (i j : ℕ) → i ≤ j → j < size → get_or ks i 0 ≤ get_or ks j 0
  pub held : (b : ℕ) → b < size → b < length ss
      → (get_or ks b 0 / 1024 ≡ get_or (reliabilities ss) (get_or ks b 0 % 1024) 0) × (get_or ks b 0 % 1024 < length ss)

-- a reliability is read off its symbol, ..
pub reliability_at : (ss : List ℕ) (i : ℕ) → get_or (reliabilities ss) i 0 ≡ get_or ss i 0 % 16
unfolding reliabilities
reliability_at ss i = get_or-map (λ (x : ℕ). x % 16) ss i 0

-- .. and is below 16
pub reliability_lt : (ss : List ℕ) (i : ℕ) → get_or (reliabilities ss) i 0 < 16
reliability_lt ss i = omega (arith, reliability_at ss i)

-- ---- rising lists

-- a list that rises from x on
unfoldable pub Rising : ℕ → List ℕ → Type 0
Rising x [] = Unit {0}
Rising x (y ∷ ys) = (x ≤ y) × Rising y ys

rising_least : (x : ℕ) (xs : List ℕ) (j : ℕ) → Rising x xs → j < length xs → x ≤ get_or xs j 0
unfolding Rising
rising_least x [] j r h = absurd (omega arith)
rising_least x (y ∷ ys) zero r h = r.0
rising_least x (y ∷ ys) (suc j) r h = omega (arith, r.0, rising_least y ys j r.1 (omega arith))

rising_order : (x : ℕ) (xs : List ℕ) (i j : ℕ) → Rising x xs → i ≤ j → j < length xs → get_or xs i 0 ≤ get_or xs j 0
unfolding Rising
rising_order x [] i j r o h = absurd (omega arith)
rising_order x (y ∷ ys) zero zero r o h = omega arith
rising_order x (y ∷ ys) zero (suc j) r o h = rising_least y ys j r.1 (omega arith)
rising_order x (y ∷ ys) (suc i) zero r o h = absurd (omega arith)
rising_order x (y ∷ ys) (suc i) (suc j) r o h = rising_order y ys i j r.1 (omega arith) (omega arith)

-- equal keys rise
rising_replicate : (x y n : ℕ) → x ≤ y → Rising x (replicate n y)
unfolding Rising
rising_replicate x y zero h = tt
rising_replicate x y (suc n) h = (h, rising_replicate y y n (omega arith))

rising_take : (size x : ℕ) (ks : List ℕ) → Rising x ks → Rising x (take size ks)
unfolding Rising
rising_take zero x ks r = tt
rising_take (suc size) x [] r = tt
rising_take (suc size) x (k ∷ ks) r = (r.0, rising_take size k ks r.1)

pub take_replicate : (size n x : ℕ) → size ≤ n → take size (replicate n x) ≡ replicate size x
take_replicate zero n x h = refl
take_replicate (suc size) zero x h = absurd (omega arith)
take_replicate (suc size) (suc n) x h = ap (λ (l : List ℕ). x ∷ l) (take_replicate size n x (omega arith))

key_of : Ranked → ℕ
key_of r = key r.z r.at

-- ---- what the keys hold

pub map_take : {A B : Type 0} (f : A → B) (p : ℕ) (xs : List A) → map f (take p xs) ≡ take p (map f xs)
map_take f zero xs = refl
map_take f (suc p) [] = refl
map_take f (suc p) (x ∷ xs) = ap (λ (l : List _). f x ∷ l) (map_take f p xs)

positions_of : (rs : List Ranked) → All (λ r. r.at < 1024) rs → map (λ (k : ℕ). k % 1024) (map key_of rs) ≡ map (λ (r : Ranked). r.at) rs
unfolding All key_of
positions_of [] a = refl
positions_of (r ∷ rs) a =
    let e : (r.z * 1024 + r.at) % 1024 ≡ r.at = omega (arith, a.0) in
    rw e (ap (λ (l : List ℕ). r.at ∷ l) (positions_of rs a.1))

ranked_of_lem : (rs : List Ranked) → All (λ r. r.at < 1024) rs → map ranked_of (map key_of rs) ≡ rs
unfolding All key_of
ranked_of_lem [] a = refl
ranked_of_lem (r ∷ rs) a =
    let e : (r.z * 1024 + r.at) / 1024 ≡ r.z = omega (arith, a.0) in
    let f : (r.z * 1024 + r.at) % 1024 ≡ r.at = omega (arith, a.0) in
    rw (e, f) (ap (λ (l : List Ranked). r ∷ l) (ranked_of_lem rs a.1))

held_at : (zs : List ℕ) (rs : List Ranked) → length zs ≤ 1024 → All (Placed 0 zs) rs → (b : ℕ) → b < length rs
    → (get_or (map key_of rs) b 0 / 1024 ≡ get_or zs (get_or (map key_of rs) b 0 % 1024) 0) × (get_or (map key_of rs) b 0 % 1024 < length zs)
unfolding All key_of
held_at zs [] u a b h = absurd (omega arith)
held_at zs (r ∷ rs) u a zero h =
    let l : r.at < length zs = omega (arith, a.0.below) in
    let e : (r.z * 1024 + r.at) / 1024 ≡ r.z = omega arith in
    let f : (r.z * 1024 + r.at) % 1024 ≡ r.at = omega arith in
    let d : r.at - 0 ≡ r.at = omega arith in
    rw (e, f) (a.0.reliability ∙ ap (λ (i : ℕ). get_or zs i 0) d, l)
held_at zs (r ∷ rs) u a (suc b) h = held_at zs rs u a.1 b (omega arith)

-- keys in the weakest order rise
record Small (r : Ranked) : Type 0 where
  narrow : r.at < 1024
  weak : r.z < 16

key_order : (r s : Ranked) → Before r s → Small r → key_of r ≤ key_of s
unfolding key_of
key_order r s b w =
    elim (dec_lt r.z s.z) [
      | yes h ↦ omega (arith, w.narrow)
      | no h ↦ (let e : r.z ≡ s.z = omega (arith, b.weaker) in omega (arith, b.lower e))
    ]

rising_keys : (n x : ℕ) (rs : List Ranked) → x ≤ 65535 → All (λ r. x ≤ key_of r) rs → All Small rs → Ordered rs
    → Rising x (map key_of rs ++ replicate n 65535)
unfolding All Ordered Rising key_of
rising_keys n x [] h a w o = rising_replicate x 65535 n h
rising_keys n x (r ∷ rs) h a w o = (
  a.0,
  rising_keys n (key_of r) rs (omega (arith, w.0.narrow, w.0.weak))
      (all_map (Before r) (λ s. key_of r ≤ key_of s) (λ s b. key_order r s b w.0) rs o.0) w.1 o.1,
)

module _ (size : ℕ) (ss : List ℕ) (most : length ss ≤ 1024) where
  zs : List ℕ
  zs = reliabilities ss

  pad : List ℕ
  pad = replicate size 65535

  all : List ℕ
  all = map key_of (rank 0 zs)

  narrow : All (λ r. r.at < 1024) (rank 0 zs)
  unfolding zs
  narrow = all_map (Placed 0 zs) (λ r. r.at < 1024) (λ r h. omega (arith, h.below, length_reliabilities ss)) (rank 0 zs) (placed 0 zs)

  small : All Small (rank 0 zs)
  unfolding zs
  small =
      all_map (Placed 0 zs) Small
      (λ r h. record { narrow = omega (arith, h.below, length_reliabilities ss); weak = omega (arith, h.reliability, reliability_lt ss (r.at - 0)) })
      (rank 0 zs) (placed 0 zs)

  long_pad : length pad ≡ size
  unfolding pad
  long_pad = length-replicate size 65535

  long_all : length all ≡ length ss
  unfolding zs all
  long_all = length-map (rank 0 zs) key_of ∙ length_rank 0 zs ∙ length_reliabilities ss

  rising_all : Rising 0 (all ++ pad)
  unfolding zs pad all
  rising_all =
      rising_keys size 0 (rank 0 zs) (omega arith) (all_map Small (λ r. 0 ≤ key_of r) (λ r h. omega arith) (rank 0 zs) small) small (ordered 0 zs)

  module _ (ks : List ℕ)
      (listed : take size ks ≡ take size (map (λ (r : Ranked). key r.z r.at) (rank 0 (reliabilities ss)) ++ replicate size 65535)) where
    first_listed : take size ks ≡ take size (all ++ pad)
    unfolding zs pad all key_of
    first_listed = listed

    long_listed : length (take size ks) ≡ size
    long_listed = ap length first_listed ∙ length-take-le size (all ++ pad) (omega (arith, length-append all pad, long_pad))

    front : (k : ℕ) → k ≤ size → k ≤ length ss → take k ks ≡ take k all
    front k u h =
        sym (take-take k size ks u) ∙ ap (take k) first_listed ∙ take-take k size (all ++ pad) u ∙ take-append-le k all pad (omega (arith, long_all))

    at_listed : (b : ℕ) → b < size → get_or ks b 0 ≡ get_or (take size (all ++ pad)) b 0
    at_listed b u = sym (get_or-take size ks b 0 u) ∙ ap (λ (l : List ℕ). get_or l b 0) first_listed

    at_all : (b : ℕ) → b < size → b < length ss → get_or ks b 0 ≡ get_or all b 0
    at_all b u h =
        sym (get_or-take (suc b) ks b 0 (omega arith)) ∙ ap (λ (l : List ℕ). get_or l b 0) (front (suc b) u h) ∙ get_or-take (suc b) all b 0 (omega arith)

    -- the first of a word's keys in the weakest order, with 65535 where there are no more
    pub ranked_weakest : Weakest size ss ks
    unfolding zs pad all weak
    ranked_weakest =
        record {
          long = omega (arith, long_listed, length-take size ks);
          positions = λ p u h. ap (map (λ (k : ℕ). k % 1024)) (front p u h) ∙ map_take (λ (k : ℕ). k % 1024) p all
              ∙ ap (take p) (positions_of (rank 0 zs) narrow);
          ranked = λ k u h. ap (map ranked_of) (front k u h) ∙ map_take ranked_of k all ∙ ap (take k) (ranked_of_lem (rank 0 zs) narrow);
          rising = λ i j o h. rw (at_listed i (omega arith), at_listed j h)
              (rising_order 0 (take size (all ++ pad)) i j (rising_take size 0 (all ++ pad) rising_all) o
              (omega (arith, ap length first_listed, long_listed)));
          held = λ b u h. rw (at_all b u h, ← length_reliabilities ss)
              (held_at zs (rank 0 zs) (omega (arith, length_reliabilities ss)) (placed 0 zs) b
              (omega (arith, length_rank 0 zs, length_reliabilities ss)));
        }

-- fewer keys, of those that stand in front
pub fewer_weakest : (size few room : ℕ) (ss ks : List ℕ) → Weakest size ss ks → few ≤ size → few ≤ room → Weakest few ss (take room ks)
fewer_weakest size few room ss ks w h l =
    record {
      long = omega (arith, w.long, length-take room ks);
      positions = λ p u e. ap (map (λ (k : ℕ). k % 1024)) (take-take p room ks (omega arith)) ∙ w.positions p (omega arith) e;
      ranked = λ k u e. ap (map ranked_of) (take-take k room ks (omega arith)) ∙ w.ranked k (omega arith) e;
      rising = λ i j o u. rw (get_or-take room ks i 0 (omega arith), get_or-take room ks j 0 (omega arith)) (w.rising i j o (omega arith));
      held = λ b u e. rw (get_or-take room ks b 0 (omega arith)) (w.held b (omega arith) e);
    }

-- ---- the weak positions, from the keys

module _ (p : ℕ) (ss ks : List ℕ) (weakest : Weakest p ss ks) (enough : p ≤ length ss) where
  -- they are p, ..
  pub weak_long : length (weak p (reliabilities ss)) ≡ p
  weak_long =
      ap length (sym (weakest.positions p (omega arith) enough)) ∙ length-map (take p ks) (λ (k : ℕ). k % 1024)
      ∙ length-take-le p ks (omega (arith, weakest.long))

  -- .. each in its place, ..
  pub weak_at : (b : ℕ) → b < p → get_or (weak p (reliabilities ss)) b 0 ≡ get_or ks b 0 % 1024
  weak_at b h =
      ap (λ (l : List ℕ). get_or l b 0) (sym (weakest.positions p (omega arith) enough)) ∙ get_or-map (λ (k : ℕ). k % 1024) (take p ks) b 0
      ∙ ap (λ (k : ℕ). k % 1024) (get_or-take p ks b 0 h)

  -- .. and a position more reliable than the last of them is none of them
  pub not_weak : 0 < p → (x : ℕ) → get_or ks (p - 1) 0 / 1024 < get_or (reliabilities ss) x 0 → is_in x (weak p (reliabilities ss)) ≡ false
  not_weak h x l = is_in_none x (weak p (reliabilities ss)) (λ b w e. stronger b (omega (arith, weak_long)) e)
    where
      stronger : (b : ℕ) → b < p → get_or (weak p (reliabilities ss)) b 0 ≡ x → ⊥
      stronger b w e =
          let q : get_or ks b 0 % 1024 ≡ x = sym (weak_at b w) ∙ e in
          let z : get_or ks b 0 / 1024 ≡ get_or (reliabilities ss) x 0
          = (weakest.held b (omega arith) (omega arith)).0 ∙ ap (λ (i : ℕ). get_or (reliabilities ss) i 0) q in
          omega (arith, weakest.rising b (p - 1) (omega arith) (omega arith))
