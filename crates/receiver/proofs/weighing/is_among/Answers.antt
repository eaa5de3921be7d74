-- The positions are looked at one after the other. Assumes nothing.
use Prim.Native.Nat.{ℕ, ◌+◌, ◌≤◌, ◌<◌}
use native.Mathlib.Omega.{arith}
use native.Mathlib.Decide.{ℕ_discrete}
use mathlib.Core.Path.{◌≡◌, sym, ◌∙◌}
use mathlib.Core.Bool.{true, false}
use mathlib.Core.List.{List}
use borrow.Author.Tests.{eq-eqb, ne_eqb}
use lib.Dec.{eqb}
use lib.ListN.{length, get_or, take, drop}
use lib.Seq.{get_or-take, length-take-le}
use Rattle.bch.specs.Words.{is_in}
use Rattle.chase.proofs.ranking.Allowances.{in_here, in_next, in_over}
use Rattle.receiver.proofs.weighing.is_among.Goals as goal

module _ (x count : ℕ) (at : List ℕ) (room : count ≤ length at) where
  long : length (take count at) ≡ count
  long = length-take-le count at room

  here : (a : ℕ) → a < count → get_or at a 0 ≡ x → is_in x (drop a (take count at)) ≡ true
  here a h e = in_here x a (take count at) (omega (arith, long)) (get_or-take count at a 0 h ∙ e)

  next : (a : ℕ) → a < count → (get_or at a 0 ≡ x → ⊥) → is_in x (drop a (take count at)) ≡ is_in x (drop (a + 1) (take count at))
  next a h n = in_next x a (take count at) (omega (arith, long)) (λ e. n (sym (get_or-take count at a 0 h) ∙ e))

  over : (a : ℕ) → a ≡ count → is_in x (drop a (take count at)) ≡ false
  over a e = in_over x a (take count at) (e ∙ sym long)

  last : (a : ℕ) → count ≡ a + 1 → eqb (get_or at a 0) x ≡ is_in x (drop a (take count at))
  last a e = go (ℕ_discrete (get_or at a 0) x)
    where
      go : Dec (get_or at a 0 ≡ x) → eqb (get_or at a 0) x ≡ is_in x (drop a (take count at))
      go (yes h) = eq-eqb (get_or at a 0) x h ∙ sym (here a (omega arith) h)
      go (no n) = ne_eqb (get_or at a 0) x n ∙ sym (next a (omega arith) n ∙ over (a + 1) (sym e))

pub returns-then-f-eq0 : goal.returns-then-f-eq0
returns-then-f-eq0 c =
    let f = c.args.f.now in
    sym (over c.args.x f.count f.at (omega (arith, c.args.f.now.few)) 0 (sym c.if-f-eq0.true))

pub returns-then-f-x : goal.returns-then-f-x
returns-then-f-x c =
    let f = c.args.f.now in
    sym (here c.args.x f.count f.at (omega (arith, c.args.f.now.few)) 0 (omega (arith, c.if-f-eq0.false)) c.if-f-x.true)

pub returns-then-f-eq1 : goal.returns-then-f-eq1
returns-then-f-eq1 c =
    let f = c.args.f.now in
    let x = c.args.x in
    let room : f.count ≤ length f.at = omega (arith, c.args.f.now.few) in
    sym (next x f.count f.at room 0 (omega (arith, c.if-f-eq0.false)) c.if-f-x.false
    ∙ over x f.count f.at room 1 (sym c.if-f-eq1.true))

pub returns-then-f-x-2 : goal.returns-then-f-x-2
returns-then-f-x-2 c =
    let f = c.args.f.now in
    let x = c.args.x in
    let room : f.count ≤ length f.at = omega (arith, c.args.f.now.few) in
    sym (next x f.count f.at room 0 (omega (arith, c.if-f-eq0.false)) c.if-f-x.false
    ∙ here x f.count f.at room 1 (omega (arith, c.if-f-eq0.false, c.if-f-eq1.false)) c.if-f-x-2.true)

pub returns-then-f-eq2 : goal.returns-then-f-eq2
returns-then-f-eq2 c =
    let f = c.args.f.now in
    let x = c.args.x in
    let room : f.count ≤ length f.at = omega (arith, c.args.f.now.few) in
    sym (next x f.count f.at room 0 (omega (arith, c.if-f-eq0.false)) c.if-f-x.false
    ∙ next x f.count f.at room 1 (omega (arith, c.if-f-eq0.false, c.if-f-eq1.false)) c.if-f-x-2.false
    ∙ over x f.count f.at room 2 (sym c.if-f-eq2.true))

pub returns : goal.returns
returns c =
    let f = c.args.f.now in
    let x = c.args.x in
    let room : f.count ≤ length f.at = omega (arith, c.args.f.now.few) in
    let more : 2 < f.count = omega (arith, c.if-f-eq0.false, c.if-f-eq1.false, c.if-f-eq2.false) in
    last x f.count f.at room 2 (omega (arith, c.args.f.now.few))
    ∙ sym (next x f.count f.at room 0 (omega arith) c.if-f-x.false
    ∙ next x f.count f.at room 1 (omega arith) c.if-f-x-2.false)
