-- What the calls on a strip answer has room in its fields. Assumes nothing.
use Prim.Native.Nat.{ℕ, ◌*◌, ◌≤◌, ◌<◌}
use native.Mathlib.Omega.{arith}
use lib.ListN.{length, replicate, length-replicate}
use mathlib.Core.Path.{◌≡◌, refl, sym, ◌∙◌}
use mathlib.Core.Bool.{Bool, true, false}
use mathlib.Core.Logic.{◌⊎◌, inl, inr}
use mathlib.Core.List.{List, [], ◌∷◌}
use mathlib.Core.Option.{Option, none, some}
use borrow.Author.Tests.{eq-eqb, eqb-true, eqb-false}
use lib.Dec.{eqb}
use Rattle.bch.specs.Code.{message_length}
use Rattle.take_format.specs.Refusal.{Refusal, refused, unless, output_length}
use Rattle.take_format.specs.Batch.{Totals}
use Rattle.take_format.specs.Take.{header, header_refusal, take_symbols_check, open_refusal, take_refusal, message_bytes, mark_bytes, totals}
use Rattle.take_format.proofs.checks.RefusalLaws.{IfRefused, some_not_none, first_cons, first_some, first_none}
use Rattle.take_format.proofs.checks.CallLaws.{answered_inl, answered_inr}
use Rattle.take_format.proofs.checks.Numbers.{Numbered, numbered_open}
use Rattle.take_format.proofs.takes.PromiseLaws.{take_promise}
use Rattle.printing.specs.Layout.{strip_length}
use Rattle.printing.specs.Calls.{strip_refusal, length_answer, strip_answer}
use Rattle.printing.proofs.Refusing.{strip_first, strip_room, strip_last}
use Rattle.receiver_c.proofs.Sizes.{totals_room}

-- ---- a strip's length

-- 65535 words have 1639 pages
pub length_room : (bs : List ℕ) (n : ℕ) → inr n ≡ length_answer bs → (header bs).words ≤ 65535 → n ≤ 1679350
unfolding length_answer strip_length
length_room bs n e few = omega (arith, (answered_inr (open_refusal bs) (strip_length (header bs).words) n e).1, few)

-- ---- printing

module _ (bs strip : List ℕ) where
  -- a strip is refused for what opening the take is refused for, or for its length
  strip_refused : (strip_refusal bs strip ≡ open_refusal bs) ⊎ (strip_refusal bs strip ≡ refused 7 0)
  unfolding open_refusal
  strip_refused = go (header_refusal bs) refl (eqb (length strip) (strip_length (header bs).words)) refl
    where
      go : (o : Option Refusal) → header_refusal bs ≡ o → (b : Bool) → eqb (length strip) (strip_length (header bs).words) ≡ b
          → (strip_refusal bs strip ≡ open_refusal bs) ⊎ (strip_refusal bs strip ≡ refused 7 0)
      go (some r) e b f = inl (strip_first bs strip r (sym e) ∙ first_some (header_refusal bs) (take_symbols_check bs ∷ []) r (sym e))
      go none e true f = inl (strip_last bs strip (sym e) (eqb-true _ _ f))
      go none e false f = inr (strip_room bs strip (sym e) (eqb-false _ _ f))

  numbered_strip : IfRefused Numbered (strip_refusal bs strip)
  numbered_strip r e = elim strip_refused [
    | inl q ↦ numbered_open bs r (sym q ∙ e)
    | inr q ↦ let z : r.number ≡ 7 = cc in (omega arith, omega arith)
  ]

  pub strip_number : (r : Refusal) → inl r ≡ strip_answer bs strip → r.number < 128
  unfolding strip_answer
  strip_number r e = omega (arith, (numbered_strip r (sym (answered_inl _ _ r e))).1)

  strip_opened : strip_refusal bs strip ≡ none → open_refusal bs ≡ none
  strip_opened e = elim strip_refused [
    | inl q ↦ sym q ∙ e
    | inr q ↦ some_not_none (record { number = 7; place = 0 }) (sym q ∙ e)
  ]

-- a take that is opened is read with buffers of its lengths, ..
abbrev zeros : ℕ → List ℕ
zeros n = replicate n 0

enough : (n : ℕ) → none ≡ output_length n (length (zeros n))
unfolding output_length unless
enough n = rw (length-replicate n, eq-eqb n n refl) refl

opened_read : (bs : List ℕ) → open_refusal bs ≡ none
    → take_refusal bs (zeros ((header bs).words * message_length (header bs).code)) (zeros (header bs).words) ≡ none
unfolding open_refusal take_refusal
opened_read bs e =
    let (headed, symbols) = first_cons (header_refusal bs) (take_symbols_check bs ∷ []) e in
    let W = (header bs).words in
    let K = W * message_length (header bs).code in
    let last = take_symbols_check bs ∷ [] in
    let marks = output_length W (length (zeros W)) in
    let messages = output_length K (length (zeros K)) in
    sym (first_none marks last (enough W) ∙ first_none messages (marks ∷ last) (enough K) ∙ first_none (header_refusal bs) (messages ∷ marks ∷ last) (sym headed))
    ∙ symbols

-- .. so that its totals have room
pub strip_totals : (bs strip : List ℕ) (k : Totals) → inr k ≡ strip_answer bs strip → (header bs).words ≤ 65535
    → (k.sures < 65536) × (k.fairs < 65536) × (k.tries < 16777216)
unfolding strip_answer
strip_totals bs strip k e few =
    let (ok, same) = answered_inr (strip_refusal bs strip) (totals bs) k e in
    let promise = take_promise bs _ _ (opened_read bs (strip_opened bs strip (sym ok))) in
    rw same (totals_room bs (message_bytes bs) (mark_bytes bs) (totals bs) promise few)
