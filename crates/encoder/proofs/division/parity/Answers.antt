-- The register is the remainder of the bits that were taken, and so ends as that of the message. Assumes nothing.
use Prim.Native.Nat.{ℕ, ◌+◌, ◌-◌, ◌<◌, ◌^◌}
use native.Mathlib.Nat.{one-mul}
use native.Mathlib.Omega.{arith}
use mathlib.Core.Path.{◌≡◌, refl, ap, ap₂, sym, ◌∙◌}
use mathlib.Core.List.{List, [], ◌∷◌, ◌++◌}
use lib.ListN.{length, take, drop, get_or}
use lib.Pow.{shl_exact}
use lib.Seq.{drop-length, take-length, take-append_seam}
use Rattle.std.proofs.lemmas.List.{get_or-take, get_or_push, length-append, take-take}
use Rattle.bch.proofs.codes.Entries.{below_drop, below_at}
use Rattle.bch.proofs.encoding.Division.{step, remainder, remainder_lt, remainder_drop}
use Rattle.encoder.proofs.division.parity.Goals as goal

-- the last of the bits that are left
taken : (xs all left : List ℕ) (b : ℕ) → all ≡ left ++ b ∷ [] → all ≡ take (length all) xs
    → (length all ≡ length left + 1) × (left ≡ take (length left) xs) × (b ≡ get_or xs (length left) 0)
taken xs all left b split e =
    let n : length all ≡ length left + 1 = ap length split ∙ length-append left (b ∷ []) in
    let f : left ++ b ∷ [] ≡ take (length all) xs = sym split ∙ e in (
      n,
      sym (take-append_seam left (b ∷ [])) ∙ ap (take (length left)) f ∙ take-take (length left) (length all) xs (omega (arith, n)),
      sym (get_or_push left b 0 (length left) refl)
          ∙ ap (λ (l : List ℕ). get_or l (length left) 0) f
          ∙ get_or-take (length all) xs (length left) 0 (omega (arith, n)),
    )

pub loop-bit-init : goal.loop-bit-init
unfolding remainder
loop-bit-init c =
    let a = c.args in
    let whole : c.into_iter-bit-iterator.result.iter.rest.now ≡ a.message.now = cc in
    rw whole (omega arith, sym (take-length a.message.now), sym (ap (remainder a.r a.g) (drop-length a.message.now)))

pub step-register-requires : goal.step-register-requires
step-register-requires c =
    let l = c.loop-bit in
    let bs = c.args.message.now in
    let r = c.args.r in
    let j = length l.bit-iterator.iter.rest.now in
    let small : l.register < 2 ^ r = rw l.invariant.2 (remainder_lt r c.args.g c.requires.1 (drop j bs) (below_drop 2 j bs c.requires.2)) in
    let last = taken bs l.bit-iterator.iter.rest.now c.next.new.self.iter.rest.now c.in-Some.field-0.now c.in-Some.ensures.steps l.invariant.1 in (
      c.requires.0,
      shl_exact 1 r 32 (omega arith) (omega arith) ∙ one-mul _,
      c.requires.1,
      small,
      omega (arith, below_at 1 bs (length c.next.new.self.iter.rest.now) c.requires.2, last.2),
    )

pub loop-bit-preserved : goal.loop-bit-preserved
loop-bit-preserved c =
    let l = c.loop-bit in
    let a = c.args in
    let bs = a.message.now in
    let all = l.bit-iterator.iter.rest.now in
    let left = c.next.new.self.iter.rest.now in
    let last = taken bs all left c.in-Some.field-0.now c.in-Some.ensures.steps l.invariant.1 in
    let e : length all - 1 ≡ length left = omega (arith, last.0) in
    let more = remainder_drop a.r a.g bs (length all) (omega (arith, last.0)) l.invariant.0 in (
      omega (arith, last.0),
      last.1,
      c.step-register.ensures ∙ ap₂ (step a.r a.g) l.invariant.2 (c.from.ensures ∙ last.2) ∙ (rw e at more),
    )

pub returns : goal.returns
returns c =
    let l = c.loop-bit in
    let done = c.in-None.ensures.steps.0 in
    rw done at l.invariant.2
