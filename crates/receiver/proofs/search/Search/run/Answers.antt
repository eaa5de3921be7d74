-- Test word 0, and then the others. Assumes nothing.
use Prim.Native.Nat.{ℕ, ◌^◌}
use native.Mathlib.Omega.{arith}
use mathlib.Core.Path.{◌≡◌, refl, ap, sym, ◌∙◌}
use Rattle.chase.specs.Soft.{hard_bits}
use Rattle.chase.proofs.test_words.Reach.{bits_hard}
use Rattle.receiver.proofs.Outcomes.{tried_none, tried_all}
use Rattle.receiver.proofs.Turns.{first_tests}
use Rattle.receiver.proofs.search.Search.run.Goals.{then-is_sure-via-then-is_sure, then-is_sure-via-else-is_sure+then-self-eq0}
use Rattle.receiver.proofs.search.Search.run.Goals as goal

pub syndromes-requires : goal.syndromes-requires
unfolding hard_bits
syndromes-requires c =
    let s = c.args.self.now in
    (s.long, omega arith, bits_hard _ s.word.now.deep.ready.symbols)

pub try_on-o-requires : goal.try_on-o-requires
unfolding hard_bits
try_on-o-requires c =
    let s = c.args.self.now in
    record {
      tests = first_tests s _ (c.from-base.ensures ∙ c.syndromes.ensures);
      tried = (tried_none _ _ _, refl, omega arith);
    }

pub returns-then-is_sure : goal.returns-then-is_sure
returns-then-is_sure c =
    let e = c.try_on-o.ensures in
    let all = tried_all _ _ _ _ e.0 in
    elim c.then-is_sure.branch [
      | then-is_sure-via-then-is_sure w ↦ (all (λ z. cc), e.0.sound)
      | then-is_sure-via-else-is_sure+then-self-eq0 w ↦
          let one : 1 ≡ 2 ^ c.args.self.now.word.now.p = sym (ap (λ (n : ℕ). 2 ^ n) w.if-self-eq0.true) in
          (all (λ z. e.1 z ∙ one), e.0.sound)
    ]

pub search_on-requires-clause-base : goal.search_on-requires-clause-base
unfolding hard_bits
search_on-requires-clause-base c = c.from-base.ensures ∙ c.syndromes.ensures

pub returns : goal.returns
returns c = let e = c.search_on.ensures in (tried_all _ _ _ _ e.0 e.1, e.0.sound)
