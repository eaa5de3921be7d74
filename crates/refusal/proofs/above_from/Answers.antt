-- Where the largest byte is not above, none is; and behind the end there is none. Assumes nothing.
use Prim.Native.Nat.{ℕ, ◌+◌, ◌-◌, ◌≤◌}
use native.Mathlib.Omega.{arith}
use mathlib.Core.Path.{◌≡◌, refl, subst, sym, ◌∙◌}
use mathlib.Core.List.{List}
use mathlib.Core.Option.{none}
use Rattle.std.specs.List.{slice_range}
use Rattle.std.specs.List.{position_or_len}
use Rattle.std.proofs.lemmas.Bool.{ltb-true, ltb-false}
use Rattle.std.proofs.lemmas.List.Sums.{fails_before_first}
use lib.ListN.{length, drop, length-drop}
use lib.Seq.{take_all}
use Rattle.std.specs.Prelude.{Option as the_option, Bool, true, false, cond, position, nat_lt, Some, None}
use Rattle.std.proofs.lemmas.List.Quantifiers.{position-Some}
use Rattle.take_format.specs.Refusal.{unless_at_most, refused}
use Rattle.take_format.proofs.checks.RefusalLaws.{all_most, above_none}
use Rattle.refusal.proofs.Laws.{fold_most, first_at}
use Rattle.refusal.proofs.above_from.Goals as goal

-- the bytes from `start` on
rest : (xs : List ℕ) (start : ℕ) (ys : List ℕ) → ys ≡ slice_range xs start (length xs) → ys ≡ drop start xs
rest xs start ys e = e ∙ take_all (length xs - start) (drop start xs) (omega (arith, length-drop start xs))

-- no place: no byte passes the test
nowhere : (p : ℕ → Bool) (xs : List ℕ) → position p xs ≡ None → length xs ≤ position_or_len p xs
nowhere p xs e = ltb-false _ _ (go (nat_lt (position_or_len p xs) (length xs)) e)
  where
    go : (b : Bool) → ◌≡◌ {A = the_option ℕ} (cond b (Some (position_or_len p xs)) None) None → b ≡ false
    go true e = cc
    go false e = refl

pub returns-in_err-rest : goal.returns-in_err-rest
returns-in_err-rest c k = let a = c.args in
    rw c.from_residual.ensures (above_none k a.most a.start a.bytes.now (omega (arith, c.in_err-rest.ensures.lookup)))

pub returns-then-highest-most : goal.returns-then-highest-most
returns-then-highest-most c k = let a = c.args in
    let xs = c.in_ok-rest.rest.now in
    let is = rest a.bytes.now a.start xs c.in_ok-rest.ensures.lookup.0.2 in
    subst (λ (ys : List ℕ). none ≡ unless_at_most k a.most a.start ys) is
    (all_most k a.most a.start xs (λ i l. omega (arith, c.highest.ensures, fold_most 0 xs i l)))

pub returns-in_err-i : goal.returns-in_err-i
returns-in_err-i c k = let a = c.args in
    let xs = c.in_ok-rest.rest.now in
    let is = rest a.bytes.now a.start xs c.in_ok-rest.ensures.lookup.0.2 in
    let p : ℕ → Bool = λ b. nat_lt a.most b in
    rw c.from_residual-in_err-i.ensures
    (subst (λ (ys : List ℕ). none ≡ unless_at_most k a.most a.start ys) is
    (all_most k a.most a.start xs (λ i l. ltb-false _ _ (fails_before_first p xs i 0 (omega (arith, l, nowhere p xs (sym c.in_err-i.ensures)))))))

pub returns : goal.returns
returns c k = let a = c.args in
    let xs = c.in_ok-rest.rest.now in
    let i = c.in_ok-i.i in
    let is = rest a.bytes.now a.start xs c.in_ok-rest.ensures.lookup.0.2 in
    let (l, at, before) = position-Some (λ b. nat_lt a.most b) xs i 0 (sym c.in_ok-i.ensures) in
    subst (λ (ys : List ℕ). refused k (a.start + i) ≡ unless_at_most k a.most a.start ys) is
    (first_at k a.most a.start i xs l (ltb-true _ _ at) (λ j h. ltb-false _ _ (before j h)))
