-- A candidate that is farther than the best so far can't be sure, so the search goes on with that best one, and the candidate's
-- allowance A is not needed. Assumes nothing.
use Prim.Native.Nat.{ℕ, ◌+◌, ◌-◌, ◌^◌, ◌<◌}
use native.Mathlib.Omega.{arith}
use mathlib.Core.Path.{◌≡◌, refl, ap, sym, subst, ◌∙◌}
use mathlib.Core.List.{List}
use mathlib.Core.Option.{Option, none, some, map}
use lib.ListN.{length}
use Rattle.bch.specs.Code.{Code, Codeword, word_length}
use Rattle.bch.proofs.codes.Settings.{Lawful}
use Rattle.chase.specs.Soft.{hard_bits, reliabilities, Candidate, better, candidate, tried, search_from}
use Rattle.chase.specs.Word.{Symbols, soft_distance, allowed}
use Rattle.chase.proofs.weighing.Weighing.{farther}
use Rattle.chase.proofs.test_words.Reach.{length_hard, length_reliabilities}
use Rattle.chase.proofs.search.SearchLaws.{near_tried}
use Rattle.chase.proofs.search.Steps.{better_kept, step_on}

-- a candidate is a codeword with its distance
pub record Backed (code : Code) (ss : List ℕ) (b : Candidate) : Type 0 where
  pub codeword : Codeword code b.word
  pub sum : b.L ≡ soft_distance ss b.word

-- so is the best so far, where there is one
abbrev pub BestBacked : Code → List ℕ → Option Candidate → Type 0
BestBacked code ss best = (b : Candidate) → best ≡ some b → Backed code ss b

-- at the start there is none
pub backed_none : (code : Code) (ss : List ℕ) → BestBacked code ss none
backed_none code ss b e = absurd (let z : ◌≡◌ {A = ℕ} 0 1 = cc in omega arith)

module _ (code : Code) (is_code : Lawful code) (p : ℕ) (ss : List ℕ) (long : length ss ≡ word_length code) (symbols : Symbols ss) (j : ℕ) (below : j < 2 ^ p)
    (k : Candidate) (given : map (candidate code p ss j) (tried code p ss j) ≡ some k) where
  gave : (k ≡ candidate code p ss j k.word) × Codeword code k.word
  unfolding candidate
  gave = go (tried code p ss j) refl given
    where
      go : (o : Option (List ℕ)) → tried code p ss j ≡ o → map (candidate code p ss j) o ≡ some k
          → (k ≡ candidate code p ss j k.word) × Codeword code k.word
      go none e h = absurd (let z : ◌≡◌ {A = ℕ} 0 1 = cc in omega arith)
      go (some c) e h =
          let s : candidate code p ss j c ≡ k = cc in
          let w : c ≡ k.word = ap (λ (k : Candidate). k.word) s in
          (sym s ∙ ap (candidate code p ss j) w, subst (Codeword code) w (near_tried code is_code p ss long symbols j c below e).codeword)

  -- what a try gives is a codeword with its distance
  pub backed_tried : Backed code ss k
  unfolding candidate
  backed_tried = record { codeword = gave.1; sum = ap (λ (k : Candidate). k.L) gave.0 }

  -- a nearer one has at least the allowance of k
  unsure_beside : (b : Candidate) → Backed code ss b → b.L < k.L → k.A < k.L
  unfolding candidate
  unsure_beside b backed nearer =
      let a : k.A ≡ allowed code ss k.word = ap (λ (k : Candidate). k.A) gave.0 in
      let l : k.L ≡ soft_distance ss k.word = ap (λ (k : Candidate). k.L) gave.0 in
      omega (
        arith,
        farther code is_code (reliabilities ss) (hard_bits ss) (length_reliabilities ss ∙ long) (length_hard ss ∙ long) k.word b.word gave.1
            backed.codeword (omega (arith, backed.sum)),
      )

  module _ (b : Candidate) (backed : Backed code ss b) (far : b.L < k.L) where
    -- farther than another, it is not sure, ..
    pub far_unsure : k.A < k.L
    far_unsure = unsure_beside b backed (omega (arith, far))

    -- .. and the search goes on with the best so far
    pub step_far : (n : ℕ) (best : Option Candidate) → j < n → best ≡ some b
        → search_from code p ss (n - j) j best ≡ search_from code p ss (n - (j + 1)) (j + 1) best
    step_far n best more e =
        step_on code p ss n j best more k given (unsure_beside b backed (omega (arith, far)))
        ∙ ap (search_from code p ss (n - (j + 1)) (j + 1)) (ap (λ (o : Option Candidate). better o k) e ∙ better_kept b k (omega arith) ∙ sym e)
