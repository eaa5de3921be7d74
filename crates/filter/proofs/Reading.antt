-- What was read from a reader whose bytes are known, and what is written for it. Assumes nothing.
use Rattle.std.proofs.Common.{◌≡◌, ℕ, ◌+◌, ◌-◌, ◌<◌, ◌≤◌, inl, inr, List, ◌++◌, None, Some, Result, Ok}
use Rattle.std.proofs.Common.{Err, IfSome, OnOk, OnErr, sym, ap, subst, ◌∙◌, append-nil, length, take, take_all, take_at, length-take-le, arith}
use Rattle.std.proofs.Math.Nat.{eq-or-lt_of_le}
use lib.Seq.{take-append-le, take-append-add}
use borrow.Rule.Slice.PartMut.{put_mid, take_put}
use Rattle.std.specs.declared.option.Option.{Option}
use Rattle.std.specs.Io.KnownBytes.{Consumes, Keeps, Appends, IsAtEnd}
use Rattle.std.proofs.KnownBytes.{Consumes-kept, Consumes-trans}

module _ (a b c : Option (List ℕ)) (buffer part : List ℕ) (at : ℕ) (inside : at ≤ length buffer) (before : Consumes a b (take at buffer)) where
  abbrev now : List ℕ
  now = put_mid at (length buffer - at) buffer part

  -- n bytes more are read, to behind what was
  pub more_read : (n : ℕ) → n ≤ length part → Consumes b c (take n part) → Consumes a c (take (at + n) now)
  more_read n fits read =
      let front = take at buffer in
      let whole : take (at + n) now ≡ front ++ take n part =
      ap (λ k. take (k + n) now) (sym (length-take-le at buffer inside)) ∙ take-append-add front _ n ∙ ap (λ l. front ++ l) (take-append-le n part _ fits) in
      subst (Consumes a c) (sym whole) (Consumes-trans a b c _ _ before read)

  -- no byte more is read
  pub nothing_read : (n : ℕ) → n ≡ 0 → n ≤ length part → Consumes b c (take n part) → Consumes a c (take at now)
  nothing_read n none fits read =
      let same : at + n ≡ at = omega arith in
      subst (λ k. Consumes a c (take k now)) same (more_read n fits read)

  -- a read that fails changes nothing before it
  pub none_read : Keeps b c → Consumes a c (take at now)
  none_read kept = subst (Consumes a c) (sym (take_put at _ buffer part inside)) (Consumes-kept a b c _ before kept)

-- where a buffer is full or the reader at its end, what was read is the front of what there was, of the buffer's length
pub front_read : (a b : Option (List ℕ)) (n room : ℕ) (buffer : List ℕ) → length buffer ≡ room → n ≤ length buffer → Consumes a b (take n buffer)
    → (n < length buffer → IsAtEnd b) → IfSome a (λ bytes. take n buffer ≡ take room bytes)
front_read None b n room buffer long fits read end = tt
front_read (Some xs) None n room buffer long fits read end = absurd read
front_read (Some xs) (Some ys) n room buffer long fits read end =
    let front = take n buffer in
    let so_long = length-take-le n buffer fits in
    elim (eq-or-lt_of_le fits) [
      | inl full ↦ sym (ap (take room) read ∙ take_at front ys room (so_long ∙ full ∙ long))
      | inr less ↦
          let all : xs ≡ front = read ∙ ap (λ l. front ++ l) (end less) ∙ append-nil _ in
          sym (take_all room xs (omega (arith, ap length all)) ∙ all)
    ]

-- .. the reader loses that front, ..
pub consumed : {T E : Type 0} (r : Result T E) (a b : Option (List ℕ)) (room : ℕ) (read : List ℕ) → IfSome a (λ bytes. read ≡ take room bytes) → Consumes a b read
    → OnOk r (IfSome a (λ bytes. Consumes a b (take room bytes)))
consumed (Ok v) None b room read front lost = tt
consumed (Ok v) (Some xs) b room read front lost = subst (Consumes (Some xs) b) front lost
consumed (Err e) a b room read front lost = tt

-- .. and what is written for it is written for that front
pub written : {T E : Type 0} (r : Result T E) (a x y : Option (List ℕ)) (f : List ℕ → List ℕ) (room : ℕ) (read text : List ℕ) → IfSome a (λ bytes. read ≡ take room bytes)
    → text ≡ f read → OnOk r (Appends x y text) → OnOk r (IfSome a (λ bytes. Appends x y (f (take room bytes))))
written (Ok v) None x y f room read text front is all = tt
written (Ok v) (Some xs) x y f room read text front is all = subst (Appends x y) (is ∙ ap f front) all
written (Err e) a x y f room read text front is all = tt

-- a text that stands at the front of a buffer
pub at_front : (n : ℕ) (buffer text rest : List ℕ) → n ≡ length text → buffer ≡ text ++ rest → take n buffer ≡ text
at_front n buffer text rest long is = ap (take n) is ∙ take_at text rest n (sym long)

-- what holds, holds of an error too
pub on_err : {T E : Type 0} (r : Result T E) {P : Type 0} → P → OnErr r P
on_err (Ok v) p = tt
on_err (Err e) p = p
