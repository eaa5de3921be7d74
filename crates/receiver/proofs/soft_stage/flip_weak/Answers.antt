-- What is left of j, over the weak positions left, makes of the bits what j makes of them over all. Assumes nothing.
use Prim.Native.Nat.{ℕ, ◌%◌, ◌<◌}
use native.Mathlib.Omega.{arith}
use mathlib.Core.Path.{◌≡◌, refl, ap, sym, ◌∙◌}
use mathlib.Core.List.{List}
use lib.ListN.{length, get_or, take, length-map, get_or-map}
use Rattle.bch.proofs.codes.Behind.{flipped_from, bits_from}
use Rattle.bch.proofs.codes.Flipped.{distinct_at}
use Rattle.chase.proofs.search.Ready.{places_of}
use Rattle.chase.proofs.test_words.TestWords.{chosen_next, chosen_past, chosen_over}
use Rattle.receiver.proofs.soft_stage.flip_weak.Goals as goal
use Rattle.receiver.proofs.soft_stage.flip_weak.Goals.{then-r-eq1, else-r-eq1}

module _ (ks : List ℕ) (p : ℕ) where
  long : length (places_of ks p) ≡ length (take p ks)
  long = length-map (take p ks) (λ (k : ℕ). k % 1024)

  at : (k : ℕ) → get_or (places_of ks p) k 0 ≡ get_or (take p ks) k 0 % 1024
  at k = get_or-map (λ (k : ℕ). k % 1024) (take p ks) k 0

pub loop-key-init : goal.loop-key-init
loop-key-init c = (c.requires.0, refl)

pub flip-requires : goal.flip-requires
flip-requires c =
    let l = c.loop-key in
    let ks = c.args.word.now.keys.at in
    let p = c.args.word.now.p in
    let below = distinct_at _ l.key-index (places_of ks p) c.requires.1 (omega (arith, long ks p)) in
    (l.invariant.0, omega (arith, c.place_of.ensures, at ks p l.key-index, below))

pub loop-key-preserved : goal.loop-key-preserved
unfolding flipped_from
loop-key-preserved c =
    let l = c.loop-key in
    let from = c.args.from in
    let ks = c.args.word.now.keys.at in
    let p = c.args.word.now.p in
    let k = l.key-index in
    let ws = places_of ks p in
    let h : k < length ws = omega (arith, long ks p) in
    let flipped : List ℕ → List ℕ = λ P. flipped_from from P l.out in
    elim c.if-r-eq1.branch [
      | then-r-eq1 w ↦ rw (w.out-is, w.flip.ensures) (
        bits_from from w.place_of.result l.out l.invariant.0,
        rw (w.place_of.ensures, ← at ks p k) (sym (ap flipped (chosen_next l.r k ws h w.if-r-eq1.true)) ∙ l.invariant.1),
      )
      | else-r-eq1 w ↦ rw w.out-is (l.invariant.0, sym (ap flipped (chosen_past l.r k ws h w.if-r-eq1.false)) ∙ l.invariant.1)
    ]

pub returns : goal.returns
unfolding flipped_from
returns c =
    let a = c.args in
    let l = c.loop-key in
    let ks = a.word.now.keys.at in
    let p = a.word.now.p in
    let none_left = chosen_over l.r l.key-index (places_of ks p) (omega (arith, long ks p)) in
    sym (ap (λ (P : List ℕ). flipped_from a.from P l.out) none_left) ∙ l.invariant.1
