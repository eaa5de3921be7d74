-- Laws of the checks of a strip, one after the other. Assumes nothing.
-- (`Cases` is named so that its cases are checked before these laws, which follow the definitions' text.)
use Prim.Native.Nat.{ℕ}
use mathlib.Core.Path.{◌≡◌, refl, sym, ◌∙◌}
use mathlib.Core.Logic.{◌≢◌}
use mathlib.Core.List.{List, [], ◌∷◌}
use mathlib.Core.Option.{Option, none, some}
use borrow.Author.Tests.{eq-eqb, ne_eqb}
use lib.ListN.{length}
use Rattle.take_format.specs.Refusal.{Refusal, refused, unless, first_of, output_length}
use Rattle.take_format.specs.Take.{header, header_refusal, take_symbols_check, open_refusal}
use Rattle.take_format.proofs.checks.RefusalLaws.{first_some, first_none}
use Rattle.printing.specs.Layout.{strip_length}
use Rattle.printing.specs.Calls.{strip_refusal}

module _ (bs strip : List ℕ) where
  abbrev later : List (Option Refusal)
  later = output_length (strip_length (header bs).words) (length strip) ∷ take_symbols_check bs ∷ []

  -- that of the header, ..
  pub strip_first : (r : Refusal) → some r ≡ header_refusal bs → strip_refusal bs strip ≡ some r
  unfolding strip_refusal
  strip_first r e = sym (first_some (header_refusal bs) later r e)

  module _ (headed : none ≡ header_refusal bs) where
    strip_next : strip_refusal bs strip ≡ first_of later
    unfolding strip_refusal
    strip_next = sym (first_none (header_refusal bs) later headed)

    -- .. 7, ..
    pub strip_room : length strip ≢ strip_length (header bs).words → strip_refusal bs strip ≡ refused 7 0
    unfolding output_length unless first_of
    strip_room n = strip_next ∙ rw (ne_eqb (length strip) (strip_length (header bs).words) n) refl

    -- .. and what else opening refuses
    pub strip_last : length strip ≡ strip_length (header bs).words → strip_refusal bs strip ≡ open_refusal bs
    unfolding output_length unless first_of open_refusal
    strip_last n =
        strip_next ∙ rw (eq-eqb (length strip) (strip_length (header bs).words) n) (first_none (header_refusal bs) (take_symbols_check bs ∷ []) headed)
