-- The hard stage's answer from the positions found, whatever they were read from: lost where there are none, and otherwise the word
-- flipped at them, one after the other. Assumes nothing.
use Prim.Native.Nat.{ℕ, ◌+◌, ◌≤◌, ◌<◌}
use native.Mathlib.Omega.{arith}
use mathlib.Core.Path.{◌≡◌, sym, ap, ◌∙◌}
use mathlib.Core.Bool.{Bool, true, false}
use mathlib.Core.List.{List, []}
use mathlib.Core.Option
use mathlib.Core.Option.{Option, none, some, map}
use lib.ListN.{length, get_or, take, drop}
use lib.Seq.{drop-length, length-take-le, get_or-take}
use Rattle.bch.specs.Words.{Below, flipped_at}
use Rattle.bch.specs.Code.{Code}
use Rattle.bch.specs.Hard.{Repair, hard_stage, hard_written}
use Rattle.bch.proofs.codes.Entries.{below_in}
use Rattle.bch.proofs.codes.Behind.{flip_from, flipped_from}
use Rattle.bch.proofs.tables.Placing.{positions, Placed, next}

-- the hard stage flips the word at the positions found
abbrev pub Repairs : Code → List ℕ → Bool → ℕ → List ℕ → Type 0
Repairs c xs found count ps =
    hard_stage c xs ≡ map (λ (P : List ℕ). record { word = flipped_at P xs; flipped = P }) (positions found count ps)

-- ---- the answer

module _ (c : Code) (xs : List ℕ) (found : Bool) (count : ℕ) (ps : List ℕ) (repairs : Repairs c xs found count ps) where
  module _ (z : found ≡ false) where
    lost : hard_stage c xs ≡ none
    unfolding positions
    lost =
        repairs
        ∙ ap (λ (b : Bool). map (λ (P : List ℕ). record { word = flipped_at P xs; flipped = P }) (positions b count ps)) z

    pub lost_answer_lem : (old : List ℕ) → (none ≡ hard_stage c xs) × (old ≡ hard_written c xs old)
    unfolding hard_written
    lost_answer_lem old = (
      sym lost,
      sym (ap (λ (o : Option Repair). Option.get_or (map (λ (r : Repair). r.word) o) old) lost),
    )

  module _ (z : found ≡ true) where
    staged : hard_stage c xs ≡ some (record { word = flipped_at (take count ps) xs; flipped = take count ps })
    unfolding positions
    staged =
        repairs
        ∙ ap (λ (b : Bool). map (λ (P : List ℕ). record { word = flipped_at P xs; flipped = P }) (positions b count ps)) z

    pub found_answer : (old : List ℕ)
        → (some (record { word = flipped_at (take count ps) xs; flipped = take count ps }) ≡ hard_stage c xs)
        × (flipped_at (take count ps) xs ≡ hard_written c xs old)
    unfolding hard_written
    found_answer old = (
      sym staged,
      sym (ap (λ (o : Option Repair). Option.get_or (map (λ (r : Repair). r.word) o) old) staged),
    )

-- ---- flipping one position after the other, in the bits from `from` on

pub flip_more : (from count i p : ℕ) (ps ys : List ℕ) {r : List ℕ} → count ≤ length ps → i < count → p ≡ get_or ps i 0
    → flipped_from from (drop i (take count ps)) ys ≡ r → flipped_from from (drop (i + 1) (take count ps)) (flip_from from p ys) ≡ r
unfolding flipped_from
flip_more from count i p ps ys l h q old =
    ap (λ (j : ℕ). flipped_from from (drop (i + 1) (take count ps)) (flip_from from j ys)) q
    ∙ sym (ap (λ (P : List ℕ). flipped_from from P ys) (next ps count i l h)) ∙ old

pub flip_end : (from count i : ℕ) (ps ys : List ℕ) {r : List ℕ} → count ≤ length ps → i ≡ count
    → flipped_from from (drop i (take count ps)) ys ≡ r → ys ≡ r
unfolding flipped_from
flip_end from count i ps ys l h old =
    let e : drop i (take count ps) ≡ [] =
    ap (λ (j : ℕ). drop j (take count ps)) (h ∙ sym (length-take-le count ps l)) ∙ drop-length (take count ps) in
    sym (ap (λ (P : List ℕ). flipped_from from P ys) e) ∙ old

-- ---- positions below n

-- what is found is placed, where all of it is below n
pub placed_within : (n : ℕ) (found : Bool) (count : ℕ) (ps : List ℕ) → found ≡ true → count ≤ 3 → length ps ≡ 3
    → ((P : List ℕ) → positions found count ps ≡ some P → Below n P) → Placed n count ps
unfolding positions
placed_within n found count ps z few long below =
    let b : Below n (take count ps) = below (take count ps) (ap (λ (b : Bool). positions b count ps) z) in
    record {
      few = few;
      long = long;
      inside = λ k h. rw get_or-take at (below_in n k (take count ps) b (omega (arith, length-take-le count ps (omega arith))));
    }
