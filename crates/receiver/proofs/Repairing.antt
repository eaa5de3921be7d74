-- What is located is where the hard stage flips a word, and what its answer then is. Assumes nothing.
use Prim.Native.Nat.{ℕ, ◌%◌, ◌<◌}
use native.Mathlib.Omega.{arith}
use mathlib.Core.Path.{◌≡◌, refl, ap, ap₂, sym, subst, ◌∙◌}
use mathlib.Core.Logic.{inr}
use mathlib.Core.List.{List, [], ◌∷◌}
use mathlib.Core.Option.{Option, some}
use lib.Bits.{bit_xor}
use lib.ListN.{length}
use lib.Seq.{length-take-le}
use Rattle.std.specs.Prelude.{Option as Rust·Option, Some, None, Ok, is_some}
use Rattle.bch.specs.Words.{Below, Bits}
use Rattle.bch.specs.Hard.{Repair, hard_stage, hard_written}
use Rattle.bch.proofs.codes.Behind.{flipped_from, flipped_whole}
use Rattle.bch.proofs.decoding.Elements.{if_zero}
use Rattle.bch.proofs.decoding.KappaSums.{within}
use Rattle.bch.proofs.tables.CodeTables.{log_in, powers_in}
use Rattle.bch.proofs.tables.Placing.{positions}
use Rattle.bch.proofs.logarithms.FewRepairs.{few_repairs, few_placed}
use Rattle.bch.proofs.logarithms.LogAnswers.{syndromes_of, repairs_in, found_placed}
use Rattle.bch.proofs.logarithms.LogLocator.{rising_in}
use Rattle.bch.proofs.logarithms.Repairs.{lost_answer_lem, found_answer}
use Rattle.bch.proofs.logarithms.Seeking.{next_one}
use Rattle.take_format.specs.Calls.{found, flipped_in, hard_record}
use Rattle.refusal.specs.Named.{code_of}
use Rattle.refusal.specs.declared.Code as struct
use Rattle.receiver.specs.declared.flips.Flips.{Flips}
use Rattle.receiver.specs.Answer.{hard_of}
use Rattle.receiver.specs.Located.{Located, Sought, Repaired, flips_of, count_of, places_in}
use Rattle.receiver.specs.Tables.{Fielded, Filled}
use Rattle.receiver.proofs.Placed.{flips_long, placed_below}

module _ (c : struct.Code) (xs : List ℕ) (s : ℕ) (ts : List ℕ) (long : length xs ≡ c.n) (bits : Bits xs) (is : s ≡ syndromes_of (code_of c) xs) where
  -- where at most one position makes them, ..
  pub few_repaired : (f : Rust·Option Flips) → Fielded c ts → bit_xor s (powers_in c.m ts (log_in ts (s % 1024))) ≡ 0
      → Located f (if_zero s (some []) (within c.n (log_in ts (s % 1024) ∷ []))) → Repaired c xs f
  few_repaired None t flat e = record { repairs = few_repairs (code_of c) t.made.lawful ts t.field xs long bits s is flat _ _ _ e; below = tt }
  few_repaired (Some f) t flat e = record {
    repairs = few_repairs (code_of c) t.made.lawful ts t.field xs long bits s is flat _ _ _ e;
    below = placed_below c.n f.count f.at
        (few_placed (code_of c) t.made.lawful ts t.field xs long bits s is flat _ _ _ e refl f.few (flips_long f));
  }

  -- .. and elsewhere
  pub all_repaired : (f : Rust·Option Flips) (tries x : ℕ) → Filled c ts → x ≡ s → s < 4294967296 → Sought c ts (x ∷ []) 0 tries f → Repaired c xs f
  all_repaired f tries x t e h sought =
      let low : x % 4294967296 ≡ s = omega arith in
      go f (next_one _ _ _ _ _ sought ∙ ap (rising_in c.m c.t c.n ts) low)
    where
      go : (f : Rust·Option Flips) → positions (is_some f) (count_of f) (places_in f) ≡ rising_in c.m c.t c.n ts s → Repaired c xs f
      go None e = record { repairs = repairs_in (code_of c) t.fielded.made.lawful ts t.tables xs long bits s is _ _ _ e; below = tt }
      go (Some f) e = record {
        repairs = repairs_in (code_of c) t.fielded.made.lawful ts t.tables xs long bits s is _ _ _ e;
        below = placed_below c.n f.count f.at
            (found_placed (code_of c) t.fielded.made.lawful ts t.tables xs long bits s is _ _ _ e refl f.few (flips_long f));
      }

-- ---- the answer

module _ (c : struct.Code) (xs : List ℕ) (f : Rust·Option Flips) (repaired : Repaired c xs f) where
  pub told : hard_of (Ok f) ≡ hard_record (inr (hard_stage (code_of c) xs))
  unfolding hard_of hard_record flipped_in
  told = go f repaired
    where
      go : (g : Rust·Option Flips) → Repaired c xs g → hard_of (Ok g) ≡ hard_record (inr (hard_stage (code_of c) xs))
      go None r = ap (λ (o : Option Repair). hard_record (inr o)) (lost_answer_lem (code_of c) xs _ _ _ r.repairs refl []).0
      go (Some k) r =
          ap₂ (λ (n : ℕ) (ps : List ℕ). record { case = found; count = n; places = ps })
          (sym (length-take-le k.count k.at (omega (arith, k.few, flips_long k)))) k.zeros
          ∙ ap (λ (o : Option Repair). hard_record (inr o)) (found_answer (code_of c) xs _ k.count k.at r.repairs refl []).0

  -- a buffer that is left, where the word is lost
  pub left : (old : List ℕ) → f ≡ None → old ≡ hard_written (code_of c) xs old
  left old e = (lost_answer_lem (code_of c) xs _ _ _ repaired.repairs (ap is_some e) old).1

  -- and one that is written
  pub written : (old : List ℕ) (k : Flips) → f ≡ Some k
      → Below c.n (flips_of k) × (flipped_from 0 (flips_of k) xs ≡ hard_written (code_of c) xs old)
  written old k e =
      let r = subst (Repaired c xs) e repaired in
      (r.below, flipped_whole (flips_of k) xs ∙ (found_answer (code_of c) xs _ k.count k.at r.repairs refl old).1)

pub ruleset answers = (told, left, written)
