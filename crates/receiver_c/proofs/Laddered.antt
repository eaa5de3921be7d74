-- Quantising by a ladder's edges: refused for what the ladder is refused for, and otherwise as by the ladder. Assumes nothing.
use Prim.Native.Nat.{ℕ}
use mathlib.Core.Path.{◌≡◌, ap, sym, ◌∙◌}
use mathlib.Core.List.{List, [], ◌∷◌}
use mathlib.Core.Option.{Option, none, some}
use lib.Ieee.{Float}
use Rattle.take_format.specs.Refusal.{Refusal}
use Rattle.take_format.specs.Calls.{unless_refused, quantised_buffer}
use Rattle.take_format.specs.Samples.{ladder_check, samples_refusal, quantised}
use Rattle.take_format.proofs.checks.RefusalLaws.{first_some, first_none, first_last}
use Rattle.take_format.proofs.checks.CallLaws.{buffer_some}
use Rattle.receiver_c.specs.Packed.{quantise_refusal, quantise_buffer}

module _ (es : List Float) (kinds : List ℕ) (levels : List Float) (symbols : List ℕ) where
  later : List (Option Refusal)
  later = samples_refusal kinds levels symbols ∷ []

  pub first_ladder : (r : Refusal) → some r ≡ ladder_check es
      → (some r ≡ quantise_refusal es kinds levels symbols) × (symbols ≡ quantise_buffer es kinds levels symbols)
  unfolding later quantise_refusal quantise_buffer
  first_ladder r e =
      let s = first_some (ladder_check es) later r e in
      (s, buffer_some _ r symbols (quantised es kinds levels) (sym s))

  pub then_samples : none ≡ ladder_check es
      → (samples_refusal kinds levels symbols ≡ quantise_refusal es kinds levels symbols)
      × ((fs : List Float) → fs ≡ es → quantised_buffer fs kinds levels symbols ≡ quantise_buffer es kinds levels symbols)
  unfolding later quantise_refusal quantise_buffer quantised_buffer
  then_samples e =
      let s = sym (first_last (samples_refusal kinds levels symbols)) ∙ first_none (ladder_check es) later e in
      (s, λ fs f. rw f (ap (λ (o : Option Refusal). unless_refused o symbols (quantised es kinds levels)) s))
