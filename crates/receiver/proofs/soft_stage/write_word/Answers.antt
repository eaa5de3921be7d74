-- The hard bits, flipped at the weak positions that j chooses, are test word j, and this is flipped at f. Assumes nothing.
use Prim.Native.Nat.{ℕ, ◌+◌, ◌≤◌}
use native.Mathlib.Omega.{arith}
use mathlib.Core.Path.{◌≡◌, ap, sym, ◌∙◌}
use mathlib.Core.List.{List}
use lib.ListN.{length, drop, length-drop}
use Rattle.bch.specs.Words.{Bits, flipped_at}
use Rattle.bch.proofs.codes.Behind.{flipped_from, drop_flipped, length_flipped_from, bits_flipped_from}
use Rattle.bch.proofs.codes.Entries.{below_drop}
use Rattle.chase.specs.Soft.{hard_bits, test_word}
use Rattle.chase.specs.Word.{test, Symbols}
use Rattle.chase.proofs.test_words.Reach.{bits_hard, length_hard}
use Rattle.chase.proofs.test_words.TestWords.{chosen, test_flipped}
use Rattle.chase.proofs.search.Ready.{places_of, places_weak, weak_distinct}
use Rattle.receiver.specs.Located.{flips_of}
use Rattle.receiver.proofs.soft_stage.write_word.Goals as goal

-- the bits that are written first, of a word with from and after it as many as it has

module _ (ss : List ℕ) (from : ℕ) (ys : List ℕ) (e : ys ≡ drop from (hard_bits ss)) where
  as_long : from ≤ length ss → from + length ys ≡ length ss
  as_long h = omega (arith, ap length e, length-drop from (hard_bits ss), length_hard ss)

  are_bits : Symbols ss → Bits ys
  are_bits h = rw e (below_drop 2 from (hard_bits ss) (bits_hard ss h))

pub flip_weak-requires : goal.flip_weak-requires
flip_weak-requires c =
    let a = c.args in
    let ss = a.word.now.symbols.now in
    let ready = a.word.now.deep.ready in
    let w = c.write_bits in (
      are_bits ss a.from _ w.ensures ready.symbols,
      rw (as_long ss a.from _ w.ensures (omega (arith, c.requires.0)), places_weak ss a.word.now.keys.at a.word.now.p ready)
          (weak_distinct ss a.word.now.keys.at a.word.now.p ready),
    )

pub flip_at-requires : goal.flip_at-requires
flip_at-requires c =
    let a = c.args in
    let ss = a.word.now.symbols.now in
    let w = c.write_bits in
    let f = c.flip_weak in
    let P = chosen a.pick.now.place (places_of a.word.now.keys.at a.word.now.p) in
    let ys = w.new.out in
    let long : a.from + length ys ≡ length ss = as_long ss a.from ys w.ensures (omega (arith, c.requires.0)) in (
      rw f.ensures (bits_flipped_from a.from P ys (are_bits ss a.from ys w.ensures a.word.now.deep.ready.symbols)),
      rw (ap length f.ensures ∙ length_flipped_from a.from P ys, long) c.requires.1,
    )

pub returns : goal.returns
returns c =
    let a = c.args in
    let word = a.word.now in
    let ss = word.symbols.now in
    let j = a.pick.now.place in
    let P = flips_of a.pick.now.flips in
    let ws = places_of word.keys.at word.p in
    let Q = chosen j ws in
    let bits = hard_bits ss in
    let tested : flipped_at Q bits ≡ test word.p ss j =
    sym (test_flipped j ws bits) ∙ ap (λ (ws : List ℕ). test_word j ws bits) (places_weak ss word.keys.at word.p word.deep.ready) in
    c.flip_at.ensures
    ∙ ap (flipped_from a.from P) (c.flip_weak.ensures ∙ ap (flipped_from a.from Q) c.write_bits.ensures ∙ sym (drop_flipped a.from Q bits))
    ∙ sym (drop_flipped a.from P (flipped_at Q bits)) ∙ ap (λ (xs : List ℕ). drop a.from (flipped_at P xs)) tested
