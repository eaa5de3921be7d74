-- A position that is stronger than the last weak one is not flipped. Assumes nothing.
use Prim.Native.Nat.{ℕ, ◌-◌, ◌/◌, ◌<◌}
use native.Mathlib.Omega.{arith}
use mathlib.Core.Path.{ap, sym, ◌∙◌}
use lib.ListN.{get_or}
use Rattle.bch.specs.Words.{is_in}
use Rattle.chase.specs.Soft.{reliabilities}
use Rattle.chase.specs.Word.{weakest}
use Rattle.chase.proofs.test_words.TestWords.{chosen, chosen_none, chosen_over}
use Rattle.chase.proofs.search.Ready.{long_weak, strong_unflipped}
use Rattle.receiver.proofs.least_keys.Ranked.flipped.Goals as goal
use Rattle.receiver.proofs.least_keys.Ranked.flipped.Goals.{then-self-eq0-via-then-self-eq0, then-self-eq0-via-else-self-eq0+then-j-eq0}

pub returns-then-self-eq0 : goal.returns-then-self-eq0
unfolding is_in
returns-then-self-eq0 c =
    let a = c.args in
    let word = a.self.now in
    let ws = weakest word.p word.symbols.now in
    elim c.then-self-eq0.branch [
      | then-self-eq0-via-then-self-eq0 w ↦
          let none-weak = sym (long_weak word.symbols.now word.keys.at word.p word.deep.ready ∙ w.if-self-eq0.true) in
          sym (ap (is_in a.x) (chosen_over a.j 0 ws none-weak))
      | then-self-eq0-via-else-self-eq0+then-j-eq0 w ↦
          sym (ap (λ (j : ℕ). is_in a.x (chosen j ws)) w.if-j-eq0.true ∙ ap (is_in a.x) (chosen_none ws))
    ]

pub returns-then-held-z : goal.returns-then-held-z
returns-then-held-z c =
    let a = c.args in
    let word = a.self.now in
    let h : get_or word.keys.at (word.p - 1) 0 / 1024 < get_or (reliabilities word.symbols.now) a.x 0 =
    omega (arith, c.if-held-z.true, c.held.ensures.0, c.requires) in
    sym (strong_unflipped word.symbols.now word.keys.at word.p word.deep.ready (omega arith) a.j a.x h)
