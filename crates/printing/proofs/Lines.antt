-- Laws of a line that is put from its end: characters that end at a place are a field, with the spaces that stand before them. Assumes nothing.
use Rattle.std.proofs.Common.{ℕ, ◌+◌, ◌-◌, ◌≤◌, ◌≡◌, List, ◌∷◌, ◌++◌, length, take, drop, min, replicate, ap, ap₂, subst, sym, ◌∙◌, arith}
use mathlib.Core.List.{append_assoc}
use lib.ListN.{set, length-set}
use borrow.Rule.Slice.PartMut.{put_mid}
use Rattle.std.proofs.lemmas.List.{take-take, take-set-le, take-replicate, drop-replicate, take-append-drop, drop-take, drop-set, drop_at, length-take-le, drop-drop}
use Rattle.std.proofs.lemmas.Slice.{take-put_mid_below}
use Rattle.printing.specs.Layout.{padded}

-- characters are put so that they end at a place, and nothing before them is written
pub record Ending (old : List ℕ) (end : ℕ) (new now : List ℕ) (start : ℕ) : Type 0 where
  pub ends : start + length new ≡ end
  pub text : drop start now ≡ new ++ drop end old
  pub before : take start now ≡ take start old

-- characters that are copied
pub copied : (old new part : List ℕ) (end : ℕ) → length new ≤ end → end ≤ length old → part ≡ new
    → Ending old end new (put_mid (end - length new) (end - (end - length new)) old part) (end - length new)
copied old new part end short inside e =
    let start = end - length new in
    let there : start ≤ length old = omega arith in
    let sum : start + (end - start) ≡ end = omega arith in
    record {
      ends = omega arith;
      text =
          drop_at (take start old) (part ++ drop (end - start) (drop start old)) start (length-take-le start old there)
          ∙ ap₂ (λ (xs ys : List ℕ). xs ++ ys) e (drop-drop (end - start) start old ∙ ap (λ (k : ℕ). drop k old) sum);
      before = take-put_mid_below start (end - start) old part start (omega arith) there;
    }

-- a character before them
pub hyphen : (old new now : List ℕ) (end start c : ℕ) → 1 ≤ start → start ≤ length now → Ending old end new now start
    → Ending old end (c ∷ new) (set now (start - 1) c) (start - 1)
hyphen old new now end start c some inside p =
    let next : start - 1 + 1 ≡ start = omega arith in
    record {
      ends = omega (arith, p.ends);
      text =
          drop-set now (start - 1) c (omega arith) ∙ ap (λ (k : ℕ). c ∷ drop k now) next ∙ ap (λ (t : List ℕ). c ∷ t) p.text;
      before =
          take-set-le (start - 1) now (start - 1) c (omega arith) ∙ sym (take-take (start - 1) start now (omega arith))
          ∙ ap (take (start - 1)) p.before ∙ take-take (start - 1) start old (omega arith);
    }

-- a field is put before what stands from a place on, and the spaces before it are as they were
pub record Field (bytes : List ℕ) (at width : ℕ) (new : List ℕ) (behind : ℕ) (now : List ℕ) (r : ℕ) : Type 0 where
  pub spaces : take r now ≡ replicate r 32
  pub inside : r ≤ at
  pub text : drop r now ≡ padded width new ++ (behind ∷ drop at bytes)
  pub room : at ≤ r + 21

-- with the character behind them and the spaces before them such characters are a field
pub settled : (bytes new now : List ℕ) (at start width r behind : ℕ) → 21 ≤ at → at ≤ length bytes → take at bytes ≡ replicate at 32
    → width ≤ 20 → length new ≤ 20 → Ending (set bytes (at - 1) behind) (at - 1) new now start → r ≡ min start (at - 1 - width)
    → Field bytes at width new behind now r
unfolding padded
settled bytes new now at start width r behind some inside free narrow short p least =
    let end = at - 1 in
    let old = set bytes end behind in
    let blank : (n : ℕ) → n ≤ start → take n now ≡ replicate n 32 =
    λ n h. sym (take-take n start now h) ∙ ap (take n) p.before ∙ take-take n start old h
    ∙ take-set-le n bytes end behind (omega (arith, p.ends, h)) ∙ sym (take-take n at bytes (omega (arith, p.ends, h)))
    ∙ ap (take n) free ∙ take-replicate n at 32 (omega (arith, p.ends, h)) in
    let most : r ≤ start = omega (arith, least) in
    let gap : start - r ≡ width - length new = omega (arith, least, p.ends) in
    let sum : r + (start - r) ≡ start = omega (arith, most) in
    let next : end + 1 ≡ at = omega arith in
    let tail : drop end old ≡ behind ∷ drop at bytes =
    drop-set bytes end behind (omega arith) ∙ ap (λ (k : ℕ). behind ∷ drop k bytes) next in
    let front : take (start - r) (drop r now) ≡ replicate (width - length new) 32 =
    sym (drop-take r (start - r) now) ∙ ap (λ (k : ℕ). drop r (take k now)) sum ∙ ap (drop r) (blank start (omega arith))
    ∙ drop-replicate r start 32 ∙ ap (λ (k : ℕ). replicate k 32) gap in
    let back : drop (start - r) (drop r now) ≡ new ++ (behind ∷ drop at bytes) =
    drop-drop (start - r) r now ∙ ap (λ (k : ℕ). drop k now) sum ∙ p.text ∙ ap (λ (t : List ℕ). new ++ t) tail in
    record {
      spaces = blank r most;
      inside = omega (arith, most, p.ends);
      text =
          sym (take-append-drop (start - r) (drop r now)) ∙ ap₂ (λ (xs ys : List ℕ). xs ++ ys) front back
          ∙ sym (append_assoc (replicate (width - length new) 32) new (behind ∷ drop at bytes));
      room = omega (arith, least, p.ends, short, narrow);
    }

-- and so are characters that are copied
pub copied_field : (bytes new part : List ℕ) (at width r behind : ℕ) → 21 ≤ at → at ≤ length bytes → take at bytes ≡ replicate at 32
    → (width ≤ 20) × (length new ≤ 20) → part ≡ new → r ≡ min (at - 1 - length new) (at - 1 - width)
    → Field bytes at width new behind (put_mid (at - 1 - length new) (at - 1 - (at - 1 - length new)) (set bytes (at - 1) behind) part) r
copied_field bytes new part at width r behind some inside free short e least =
    let p = copied (set bytes (at - 1) behind) new part (at - 1) (omega arith) (omega (arith, length-set bytes (at - 1) behind)) e in
    settled bytes new _ at (at - 1 - length new) width r behind some inside free short.0 short.1 p least

-- the same characters by another name
pub ending_said : {old now a b : List ℕ} {end start : ℕ} → Ending old end a now start → a ≡ b → Ending old end b now start
ending_said {old} {now} {a} {b} {end} {start} p e = subst (λ (t : List ℕ). Ending old end t now start) e p
