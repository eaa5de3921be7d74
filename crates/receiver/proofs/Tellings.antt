-- What is told of an outcome, beside the word that is written for it, is the answer that it stands for. Assumes nothing.
use Prim.Native.Nat.{ℕ}
use mathlib.Core.Path.{◌≡◌, refl, ap, ap₂, sym, ◌∙◌}
use mathlib.Core.Logic.{inr}
use mathlib.Core.List.{List}
use lib.ListN.{drop}
use Rattle.std.specs.Prelude.{Ok, None, Some}
use Rattle.chase.specs.Soft.{Answer, Mark, lost, sure, fair, soft_written}
use Rattle.refusal.specs.Checked.{answer_of}
use Rattle.receiver.specs.Answer.{found_of, soft_of}
use Rattle.receiver.specs.Search.{pick_in, candidate_of, answer_in, written_from, told}
use Rattle.receiver.specs.declared.search.Pick.{Pick}
use Rattle.receiver.specs.declared.search.Best.{Best}
use Rattle.receiver.specs.declared.search.Best.TheVariants.{Nothing, Fair, Sure}
use Rattle.receiver.specs.declared.Soft.{Soft}

module _ (p : ℕ) (ss : List ℕ) (tries : ℕ) where
  -- the answer's case, beside the word written
  told_answer : (old : List ℕ) (b : Best)
      → soft_of (Ok (told tries b)) (soft_written (answer_in p ss tries b) old) ≡ inr (answer_in p ss tries b)
  unfolding answer_of found_of soft_written answer_in
  told_answer old Nothing = refl
  told_answer old (Fair k) = refl
  told_answer old (Sure k) = refl

  -- the caller's answer, where the buffer w is written
  pub answer_told : (old : List ℕ) (b : Best) (w : List ℕ) (a : Answer) (r : Soft) → w ≡ soft_written a old → answer_in p ss tries b ≡ a
      → r ≡ told tries b → soft_of (Ok r) w ≡ inr a
  answer_told old b w a r e f g =
      ap₂ (λ (r : Soft) (w : List ℕ). soft_of (Ok r) w) g (e ∙ ap (λ (x : Answer). soft_written x old) (sym f)) ∙ told_answer old b ∙ ap inr f

  -- what is written: nothing where nothing is found, ..
  pub written_none : (from : ℕ) (old : List ℕ) (b : Best) (a : Answer) → answer_in p ss tries b ≡ a → pick_in b ≡ None → old ≡ written_from from a old
  unfolding answer_in written_from
  written_none from old Nothing a e is = rw (← e) refl
  written_none from old (Fair k) a e is = cc
  written_none from old (Sure k) a e is = cc

  -- .. and else the candidate's word from there on
  pub written_some : (from : ℕ) (old : List ℕ) (b : Best) (a : Answer) (k : Pick) → answer_in p ss tries b ≡ a → pick_in b ≡ Some k
      → drop from (candidate_of p ss k).word ≡ written_from from a old
  unfolding answer_in written_from
  written_some from old Nothing a k e is = cc
  written_some from old (Fair b) a k e is = let q : b ≡ k = cc in rw (← e, q) refl
  written_some from old (Sure b) a k e is = let q : b ≡ k = cc in rw (← e, q) refl

-- from position 0 on, the whole codeword
pub written_whole : (a : Answer) (old : List ℕ) → written_from 0 a old ≡ soft_written a old
unfolding written_from soft_written
written_whole a old = go a.mark
  where
    go : (m : Mark) → ◌≡◌ {A = List ℕ} (elim m [ lost ↦ old | fair ↦ drop 0 a.word | sure ↦ drop 0 a.word ])
        (elim m [ lost ↦ old | fair ↦ a.word | sure ↦ a.word ])
    go lost = refl
    go fair = refl
    go sure = refl
