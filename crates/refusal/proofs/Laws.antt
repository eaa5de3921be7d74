-- What the answer of the settings' check tells, and the record that it hands on; and the first byte that is above. Assumes nothing.
use Prim.Native.Nat.{ℕ, zero, suc, ◌+◌, ◌<◌, ◌≤◌}
use native.Mathlib.Omega.{arith}
use native.Mathlib.Numerals.{unary_clauses}
use mathlib.Core.Path.{◌≡◌, refl, ap, sym, ◌∙◌}
use mathlib.Core.Logic.{inl}
use mathlib.Core.List.{List, [], ◌∷◌}
use mathlib.Core.Option.{Option, none, some}
use borrow.Author.Tests.{le-leb, lt-leb}
use lib.ListN.{length, get_or}
use Rattle.std.specs.Prelude.{fold, max, Result, Ok, Err, IsErrAnd}
use Rattle.std.proofs.lemmas.Result.{err_from_is_err_and}
use Rattle.galois.proofs.FieldTables.{size_least, size_most}
use Rattle.bch.specs.Code.{Code, IsCode, code}
use Rattle.bch.proofs.codes.Settings.{lawful, word_long}
use Rattle.take_format.specs.Refusal.{Refusal, refused, unless_at_most, first_of, settings}
use Rattle.take_format.specs.Calls.{answered}
use Rattle.take_format.proofs.checks.CallLaws.{settings_refused, later_refused, answered_some, answered_inl, answered_inr}
use Rattle.refusal.specs.Checked.{checked, answer_of, refusal_of}
use Rattle.refusal.specs.Named.{record_of, named_of, named_by, Made}
use Rattle.refusal.specs.declared.Refusal as struct
use Rattle.refusal.specs.declared.Code as code_record

-- a code is the settings' own, and they are not refused
pub named_code : (c : code_record.Code) (o : Option Refusal) (k : Code) → named_of (Ok c) ≡ answered o (record_of k) → (o ≡ none) × (c ≡ record_of k)
unfolding answer_of
named_code c o k e =
    let (n, q) = answered_inr o (record_of k) c e in
    (sym n, q)

-- a refusal is what the checks refuse for: of a call, ..
pub refused_for : {A B : Type 0} (f : A → B) (r : struct.Refusal) (o : Option Refusal) (x : B) → answer_of f (Err r) ≡ answered o x → o ≡ some (refusal_of r)
unfolding answer_of
refused_for f r o x e = sym (answered_inl o x (refusal_of r) e)

-- .. and of the settings
pub named_refused : (r : struct.Refusal) (o : Option Refusal) (x : code_record.Code) → named_of (Err r) ≡ answered o x → o ≡ some (refusal_of r)
named_refused r o x e = refused_for (λ c. c) r o x e

-- what `?` hands on is the refusal that came: of a call, ..
pub handed_on : {A B : Type 0} (f : A → B) (y : Result A struct.Refusal) (r : struct.Refusal) → IsErrAnd y (λ z. z ≡ r) → answer_of f y ≡ inl (refusal_of r)
unfolding answer_of
handed_on f y r is = let p = err_from_is_err_and y is in rw (p.1, p.2) refl

-- .. and of a check
pub check_handed_on : (y : Result Unit struct.Refusal) (r : struct.Refusal) → IsErrAnd y (λ z. z ≡ r) → checked y ≡ some (refusal_of r)
unfolding checked
check_handed_on y r is = let p = err_from_is_err_and y is in rw (p.1, p.2) refl

-- settings that are refused are refused whatever a later check says, ..
pub named_first : (x : Result code_record.Code struct.Refusal) (r : struct.Refusal) (k : Code) (later : Option Refusal) → IsErrAnd x (λ y. y ≡ r)
    → named_of (Err r) ≡ answered (first_of (settings k)) (record_of k) → named_of x ≡ named_by k later
unfolding answer_of
named_first x r k later is e =
    handed_on (λ c. c) x r is ∙ answered_some _ _ _ (settings_refused k later (refusal_of r) (sym (named_refused r (first_of (settings k)) (record_of k) e)))

-- .. and a code that they name is refused for that check alone, which asks the record
pub named_later : (x : Result code_record.Code struct.Refusal) (c : code_record.Code) (k : Code) (later : code_record.Code → Option Refusal)
    → named_of (Ok c) ≡ answered (first_of (settings k)) (record_of k) → named_of x ≡ answered (later c) c → named_of x ≡ named_by k (later (record_of k))
named_later x c k later e h =
    let (ok, same) = named_code c (first_of (settings k)) k e in
    let last = later (record_of k) in
    h
    ∙ ap (λ (y : code_record.Code). answered (later y) y) same
    ∙ ap (λ (o : Option Refusal). answered o (record_of k)) (sym (later_refused k last last (sym ok) refl))

-- its refusal, and the code where it passes
pub later_err : (x : Result code_record.Code struct.Refusal) (r : struct.Refusal) (c : code_record.Code) (o : Option Refusal)
    → IsErrAnd x (λ y. y ≡ r) → checked (Err r) ≡ o → named_of x ≡ answered o c
unfolding answer_of checked answered
later_err x r c o is e = handed_on (λ c. c) x r is ∙ rw (← e) refl

pub later_ok : (c : code_record.Code) (o : Option Refusal) → checked (Ok tt) ≡ o → named_of (Ok c) ≡ answered o c
unfolding answer_of checked answered
later_ok c o e = rw (← e) refl

-- no byte is above the highest
fold_least : (a : ℕ) (xs : List ℕ) → a ≤ fold (λ a b. max a b) a xs
fold_least a [] = omega arith
fold_least a (x ∷ xs) = omega (arith, fold_least (max a x) xs)

pub fold_most : (a : ℕ) (xs : List ℕ) (i : ℕ) → i < length xs → get_or xs i 0 ≤ fold (λ a b. max a b) a xs
fold_most a [] i l = absurd (omega (arith, l))
fold_most a (x ∷ xs) zero l = omega (arith, fold_least (max a x) xs)
fold_most a (x ∷ xs) (suc i) l = fold_most (max a x) xs i (omega arith)

-- the first byte that is above is refused, at its place
pub first_at : (k most at i : ℕ) (xs : List ℕ) → i < length xs → most < get_or xs i 0 → ((j : ℕ) → j < i → get_or xs j 0 ≤ most)
    → refused k (at + i) ≡ unless_at_most k most at xs
unfolding unless_at_most
first_at k most at i [] h w b = absurd (omega (arith, h))
first_at k most at zero (x ∷ xs) h w b = rw (unless_at_most, lt-leb x most w) (simp unary_clauses refl)
first_at k most at (suc i) (x ∷ xs) h w b =
    let e : at + suc i ≡ suc at + i = omega arith in
    rw (e, unless_at_most, le-leb x most (b 0 (omega arith))) (first_at k most (suc at) i xs (omega arith) w (λ j l. b (suc j) (omega arith)))

-- the laws hold for the record of a code
pub made : (m t n : ℕ) → IsCode (code m t n) → Made (record_of (code m t n))
made m t n is =
    let (long, deep) = word_long (code m t n) is in
    record {
      lawful = lawful (code m t n) is;
      size_least = size_least m is.m_least;
      size_most = size_most m (omega arith);
      long = long;
      deep = deep;
      is_n = omega (arith, is.n_least);
      is_d = refl;
      is_polynomial = refl;
      is_period = refl;
      is_powers = refl;
      is_roots = refl;
    }
