-- The positions that j flips are gone through one after the other. Assumes nothing.
use Prim.Native.Nat.{ℕ, ◌%◌, ◌<◌}
use native.Mathlib.Omega.{arith}
use mathlib.Core.Path.{◌≡◌, ap, sym, ◌∙◌}
use mathlib.Core.List.{List}
use lib.ListN.{length, get_or, take, length-map, get_or-map}
use Rattle.bch.specs.Words.{is_in}
use Rattle.chase.proofs.test_words.TestWords.{chosen_hit, chosen_miss, chosen_past, chosen_over}
use Rattle.chase.proofs.search.Ready.{places_of}
use Rattle.receiver.proofs.least_keys.Ranked.chosen_at.Goals as goal
use Rattle.receiver.proofs.least_keys.Ranked.chosen_at.Goals.{else-r-eq1-via-then-r-eq1+else-place_of-x, else-r-eq1-via-else-r-eq1}

module _ (ks : List ℕ) (p : ℕ) where
  long : length (places_of ks p) ≡ length (take p ks)
  long = length-map (take p ks) (λ (k : ℕ). k % 1024)

  at : (k : ℕ) → get_or (places_of ks p) k 0 ≡ get_or (take p ks) k 0 % 1024
  at k = get_or-map (λ (k : ℕ). k % 1024) (take p ks) k 0

pub returns-then-place_of-x : goal.returns-then-place_of-x
returns-then-place_of-x c =
    let ks = c.args.self.now.keys.at in
    let p = c.args.self.now.p in
    let l = c.loop-key in
    let k = l.key-index in
    sym (chosen_hit l.r k (places_of ks p) (omega (arith, long ks p)) c.args.x c.if-r-eq1.true
    (at ks p k ∙ sym c.place_of.ensures ∙ c.if-place_of-x.true)) ∙ l.invariant

pub loop-key-preserved : goal.loop-key-preserved
loop-key-preserved c =
    let ks = c.args.self.now.keys.at in
    let p = c.args.self.now.p in
    let l = c.loop-key in
    let k = l.key-index in
    let ws = places_of ks p in
    let h : k < length ws = omega (arith, long ks p) in
    elim c.else-r-eq1.branch [
      | else-r-eq1-via-then-r-eq1+else-place_of-x w ↦
          let other = λ (q : get_or ws k 0 ≡ c.args.x). w.if-place_of-x.false (w.place_of.ensures ∙ sym (at ks p k) ∙ q) in
          sym (chosen_miss l.r k ws h c.args.x w.if-r-eq1.true other) ∙ l.invariant
      | else-r-eq1-via-else-r-eq1 w ↦ sym (ap (is_in c.args.x) (chosen_past l.r k ws h w.if-r-eq1.false)) ∙ l.invariant
    ]

pub returns : goal.returns
unfolding is_in
returns c =
    let ks = c.args.self.now.keys.at in
    let p = c.args.self.now.p in
    let l = c.loop-key in
    sym (ap (is_in c.args.x) (chosen_over l.r l.key-index (places_of ks p) (omega (arith, long ks p)))) ∙ l.invariant
