-- Each position located adds its flip to what the test word weighs, or takes it away. Assumes nothing.
use Prim.Native.Nat.{ℕ, ◌+◌, ◌-◌, ◌≤◌, ◌<◌}
use native.Mathlib.Omega.{arith}
use mathlib.Core.Path.{◌≡◌, sym, ◌∙◌}
use mathlib.Core.Bool.{Bool, true, false}
use mathlib.Core.List.{List, []}
use lib.ListN.{length, get_or, take}
use lib.Seq.{get_or-take, length-take-le}
use Rattle.bch.specs.Words.{Distinct, flipped_at, is_in}
use Rattle.bch.proofs.codes.Flipped.{distinct_at}
use Rattle.chase.specs.Soft.{hard_bits, reliabilities}
use Rattle.chase.specs.Word.{test, weakest}
use Rattle.chase.proofs.test_words.TestWords.{chosen}
use Rattle.chase.proofs.weighing.Weights.{Weighs, weighs_small}
use Rattle.chase.proofs.search.Ready.{Ready, length_candidate, start_weighs, out_at, back_at}
use Rattle.receiver.specs.Located.{flips_of}
use Rattle.receiver.specs.declared.flips.Flips.{Flips}
use Rattle.receiver.proofs.least_keys.Ranked.weigh.Goals as goal
use Rattle.receiver.proofs.least_keys.Ranked.weigh.Goals.{then-flipped, else-flipped}

-- the weight of test word j with the positions P turned
abbrev Turned : List ℕ → List ℕ → ℕ → ℕ → ℕ → ℕ → Type 0
Turned ss P p j q sum = Weighs (reliabilities ss) (flipped_at P (test p ss j)) (hard_bits ss) q sum

-- the weight so far is small, and with one position more, of reliability z, it is less where b tells that the test word flips it, and else more
record Step (ss P : List ℕ) (p j a q sum z : ℕ) (b : Bool) : Type 0 where
  q-most : q ≤ 1023
  sum-most : sum ≤ 15345
  back : b ≡ true → (1 ≤ q) × (z ≤ sum) × Turned ss (take (a + 1) P) p j (q - 1) (sum - z)
  out : b ≡ false → Turned ss (take (a + 1) P) p j (q + 1) (sum + z)

-- the next position x of those located makes such a step
step : (f : Flips) {ss ks : List ℕ} {p j a q sum x z : ℕ} {b : Bool} → Ready ss ks p → f.count ≤ length f.at → Distinct (length ss) (flips_of f)
    → a < f.count → Turned ss (take a (flips_of f)) p j q sum → x ≡ get_or f.at a 0 → z ≡ get_or (reliabilities ss) x 0
    → b ≡ is_in x (chosen j (weakest p ss)) → Step ss (flips_of f) p j a q sum z b
step f {ss} {ks} {p} {j} {a} {q} {sum} ready there apart more old is-x is-z is-b =
    let small = weighs_small ss _ q sum ready.most (length_candidate ss ks p ready j (take a (flips_of f))) old in
    let held = rw is-x at is-z in
    let chooses = rw is-x at is-b in
    record {
      q-most = small.0;
      sum-most = small.1;
      back = λ k. back_at ss ks p ready j f.at f.count a q sum _ apart more there held old (sym k ∙ chooses);
      out = λ k. out_at ss ks p ready j f.at f.count a q sum _ apart more there held old (sym k ∙ chooses);
    }

pub loop-i-init : goal.loop-i-init
loop-i-init c =
    let word = c.args.self.now in
    start_weighs word.symbols.now word.keys.at word.p word.deep.ready c.args.j c.args.start [] c.requires.start_value

pub z_at-z-requires : goal.z_at-z-requires
z_at-z-requires c =
    let f = c.args.f.now in
    let i = c.loop-i.i in
    let long : length (flips_of f) ≡ f.count = length-take-le f.count f.at (omega arith) in
    let e = c.entry-x.ensures ∙ sym (get_or-take f.count f.at i 0 c.loop-i-test.true) in
    rw e (distinct_at _ i _ c.requires.distinct (omega (arith, long, c.loop-i-test.true)))

-- where the test word flips the position, the weight is less by its flip
taken : (c : goal.Then-flipped) → (1 ≤ c.loop-i.q) × (c.z_at-z.result ≤ c.loop-i.sum)
taken c =
    let s =
    step c.args.f.now c.args.self.now.deep.ready (omega arith) c.requires.distinct c.loop-i-test.true c.loop-i.invariant
    c.entry-x.ensures c.z_at-z.ensures.0 c.flipped.ensures in
    let less = s.back c.if-flipped.true in
    (less.0, less.1)

-- where it doesn't, it has room for one more
given : (c : goal.Else-flipped) → (c.loop-i.q ≤ 1023) × (c.loop-i.sum ≤ 15345)
given c =
    let s =
    step c.args.f.now c.args.self.now.deep.ready (omega arith) c.requires.distinct c.loop-i-test.true c.loop-i.invariant
    c.entry-x.ensures c.z_at-z.ensures.0 c.flipped.ensures in
    (s.q-most, s.sum-most)

pub overflow_sub-q : goal.overflow_sub-q
overflow_sub-q c = (taken c).0

pub overflow_sub-sum : goal.overflow_sub-sum
overflow_sub-sum c = (taken c).1

pub overflow_add-q : goal.overflow_add-q
overflow_add-q c = omega (arith, (given c).0)

pub overflow_add-sum : goal.overflow_add-sum
overflow_add-sum c = omega (arith, (given c).1, c.z_at-z.ensures.1)

pub loop-i-preserved : goal.loop-i-preserved
loop-i-preserved c =
    let s =
    step c.args.f.now c.args.self.now.deep.ready (omega arith) c.requires.distinct c.loop-i-test.true c.loop-i.invariant
    c.entry-x.ensures c.z_at-z.ensures.0 c.flipped.ensures in
    elim c.if-flipped.branch [
      | then-flipped w ↦ rw (w.q-is, w.sum-is) ((s.back w.if-flipped.true).2)
      | else-flipped w ↦ rw (w.q-is, w.sum-is) (s.out w.if-flipped.false)
    ]
