-- Laws of a text on a buffer: a piece is copied as far as there is room, and one piece behind another. Assumes nothing.
use Rattle.std.proofs.Common.{ℕ, zero, suc, ◌+◌, ◌-◌, ◌%◌, ◌≤◌, ◌<◌, ◌≡◌, List, [], ◌∷◌}
use Rattle.std.proofs.Common.{◌++◌, length, take, drop, min, refl, sym, ap, ap₂, subst, ◌∙◌, arith}
use native.Mathlib.Decide.{dec_lt}
use native.Mathlib.Numerals.{add-one}
use mathlib.Core.List.{append_assoc, append-nil}
use lib.ListN.{length-set, length-take, length-drop, length-append, take-append-drop, get_or, get_or-map, set}
use lib.Seq.{drop-drop, take_all, take-suc-set}
use borrow.Rule.Slice.PartMut.{put_mid}
use Rattle.std.proofs.lemmas.Slice.{take-put_mid, drop-put_mid}
use Rattle.std.proofs.lemmas.List.{take_min, drop_all, drop-set-lt}
use Rattle.bch.specs.Words.{Bits}
use Rattle.bch.proofs.codes.Entries.{below_at}
use Rattle.listing.specs.Text.{bits_text}
use Rattle.listing.specs.Takelist.{over}
use Rattle.listing.specs.declared.text.Text.{Text}
use Rattle.listing.specs.Put.{Put}
use Rattle.listing.specs.Written.{written, left, Written}

-- what has room is copied
pub copied : (bs new part : List ℕ) (at k : ℕ) → at ≤ length bs → k ≡ min (length bs - at) (length new) → part ≡ take k new
    → (take (at + k) (put_mid at (at + k - at) bs part) ≡ take at bs ++ take (length (drop at bs)) new)
    × (drop (at + k) (put_mid at (at + k - at) bs part) ≡ drop (length new) (drop at bs))
copied bs new part at k h e p =
    let long : length part ≡ k = ap length p ∙ omega (arith, e, length-take k new) in
    let room : length (drop at bs) ≡ length bs - at = length-drop at bs in
    let same : part ≡ take (length (drop at bs)) new =
    p ∙ ap (λ (n : ℕ). take n new) e ∙ take_min (length bs - at) new ∙ ap (λ (n : ℕ). take n new) (sym room) in
    let rest : drop (at + k) bs ≡ drop (at + length new) bs = elim (dec_lt k (length new)) [
      | yes l ↦ drop_all (at + k) bs (omega (arith, e, l, h)) ∙ sym (drop_all (at + length new) bs (omega (arith, e, l, h)))
      | no l ↦ let z : at + k ≡ at + length new = omega (arith, e, l) in ap (λ (n : ℕ). drop n bs) z
    ] in (
      take-put_mid at (at + k - at) bs part (at + k) (omega (arith, long)) h ∙ ap (λ (t : List ℕ). take at bs ++ t) same,
      drop-put_mid at (at + k - at) bs part (at + k) (omega arith) h (omega (arith, long)) ∙ rest ∙ sym (drop-drop (length new) at bs),
    )

-- and so is a character
pub stored : (bs : List ℕ) (at c : ℕ) → at < length bs
    → (take (at + 1) (set bs at c) ≡ take at bs ++ take (length (drop at bs)) (c ∷ [])) × (drop (at + 1) (set bs at c) ≡ drop 1 (drop at bs))
stored bs at c h =
    let one : c ∷ [] ≡ take (length (drop at bs)) (c ∷ []) = sym (take_all (length (drop at bs)) (c ∷ []) (omega (arith, h, length-drop at bs))) in (
      ap (λ (k : ℕ). take k (set bs at c)) (add-one at) ∙ take-suc-set bs at c h ∙ ap (λ (t : List ℕ). take at bs ++ t) one,
      drop-set-lt (at + 1) bs at c (omega arith) ∙ sym (drop-drop 1 at bs),
    )

-- ---- pieces

-- the same piece by another name
pub said : {a b : List ℕ} {old now : Text} → Written old a now → a ≡ b → Written old b now
said {a} {b} {old} {now} p e = subst (λ (t : List ℕ). Written old t now) e p

take-nil : (n : ℕ) → ◌≡◌ {A = List ℕ} (take n []) []
take-nil zero = refl
take-nil (suc n) = refl

-- none
pub nothing : (t : Text) → Written t [] t
nothing t = record { same = refl; text = sym (rw (take-nil (length (left t))) (append-nil (written t))); rest = refl }

less : (n m : ℕ) → suc n - suc m ≡ n - m
less n m = omega arith

-- the front of two pieces
take_both : (n : ℕ) (a b : List ℕ) → take n a ++ take (n - length a) b ≡ take n (a ++ b)
take_both zero [] b = refl
take_both zero (x ∷ a) b = let z : 0 - length (x ∷ a) ≡ 0 = omega arith in ap (λ (k : ℕ). take k b) z
take_both (suc n) [] b = let z : suc n - length {A = ℕ} [] ≡ suc n = omega arith in ap (λ (k : ℕ). take k b) z
take_both (suc n) (x ∷ a) b = ap (λ (t : List ℕ). x ∷ t) (ap (λ (k : ℕ). take n a ++ take k b) (less n (length a)) ∙ take_both n a b)

-- one behind another
pub then : {a b : List ℕ} {old mid now : Text} → Written old a mid → Written mid b now → Written old (a ++ b) now
then {a} {b} {old} {mid} {now} p q =
    let n = length (left old) in
    let room : length (left mid) ≡ n - length a = ap length p.rest ∙ length-drop (length a) (left old) in
    record {
      same = q.same ∙ p.same;
      text =
          q.text ∙ ap₂ (λ (t : List ℕ) (k : ℕ). t ++ take k b) p.text room
          ∙ append_assoc (written old) (take n a) (take (n - length a) b) ∙ ap (λ (t : List ℕ). written old ++ t) (take_both n a b);
      rest =
          q.rest ∙ ap (λ (t : List ℕ). drop (length b) t) p.rest ∙ drop-drop (length b) (length a) (left old)
          ∙ ap (λ (k : ℕ). drop k (left old)) (sym (length-append a b));
    }

-- and so at a place of a list
pub put_then : {a b old mid now : List ℕ} {at next end : ℕ} → Put old at a mid next → Put mid next b now end → Put old at (a ++ b) now end
put_then {a} {b} {old} {mid} {now} {at} {next} {end} p q =
    let n = length (drop at old) in
    let room : length (drop next mid) ≡ n - length a = ap length p.rest ∙ length-drop (length a) (drop at old) in
    record {
      text =
          q.text ∙ ap₂ (λ (t : List ℕ) (k : ℕ). t ++ take k b) p.text room
          ∙ append_assoc (take at old) (take n a) (take (n - length a) b) ∙ ap (λ (t : List ℕ). take at old ++ t) (take_both n a b);
      rest =
          q.rest ∙ ap (λ (t : List ℕ). drop (length b) t) p.rest ∙ drop-drop (length b) (length a) (drop at old)
          ∙ ap (λ (k : ℕ). drop k (drop at old)) (sym (length-append a b));
      inside = q.inside;
    }

pub put_said : {a b old now : List ℕ} {at end : ℕ} → Put old at a now end → a ≡ b → Put old at b now end
put_said {a} {b} {old} {now} {at} {end} p e = subst (λ (t : List ℕ). Put old at t now end) e p

pub put_at : {a old mid mid' : List ℕ} {at next next' : ℕ} → mid ≡ mid' → next ≡ next' → Put old at a mid' next' → Put old at a mid next
put_at {a} {old} {mid} {mid'} {at} {next} {next'} e f p =
    subst (λ (k : ℕ). Put old at a mid k) (sym f) (subst (λ (m : List ℕ). Put old at a m next') (sym e) p)

pub put_none : (bs : List ℕ) (at : ℕ) → at ≤ length bs → Put bs at [] bs at
put_none bs at h = record { text = sym (rw (take-nil (length (drop at bs))) (append-nil (take at bs))); rest = refl; inside = h }

-- a character has room, or not
pub put_one : (bs : List ℕ) (at c : ℕ) → at < length bs → Put bs at (c ∷ []) (set bs at c) (at + 1)
put_one bs at c h = let s = stored bs at c h in record { text = s.0; rest = s.1; inside = omega (arith, h, length-set bs at c) }

pub put_full : (bs : List ℕ) (at c : ℕ) → at ≡ length bs → Put bs at (c ∷ []) bs at
put_full bs at c h =
    let none : drop at bs ≡ [] = drop_all at bs (omega (arith, h)) in
    record {
      text = sym (ap (λ (r : List ℕ). take at bs ++ take (length r) (c ∷ [])) none ∙ append-nil (take at bs));
      rest = none ∙ sym (ap (drop 1) none);
      inside = omega (arith, h);
    }

-- what is put at the end of a text is written
pub put_written : {t u : Text} {a : List ℕ} → u.bytes.ghost_name ≡ t.bytes.ghost_name → Put t.bytes.now t.at a u.bytes.now u.at → Written t a u
put_written e p = record { same = e; text = p.text; rest = p.rest }

-- a text that has room stands at its buffer's front, and the rest is as it was
pub whole : (old now : Text) (all : List ℕ) → old.at ≡ 0 → Written old all now → length all ≤ length old.bytes.now → now.at ≤ length now.bytes.now
    → (now.at ≡ length all) × (now.bytes.now ≡ over all old.bytes.now)
whole old now all z p h l =
    let e : left old ≡ old.bytes.now = ap (λ (k : ℕ). drop k old.bytes.now) z in
    let none : written old ≡ [] = ap (λ (k : ℕ). take k old.bytes.now) z in
    let text : written now ≡ all = p.text ∙ ap₂ (λ (t r : List ℕ). t ++ take (length r) all) none e ∙ take_all (length old.bytes.now) all h in (
      omega (arith, length-take now.at now.bytes.now, ap length text),
      sym (take-append-drop now.at now.bytes.now) ∙ ap₂ (λ (a b : List ℕ). a ++ b) text (p.rest ∙ ap (drop (length all)) e),
    )

-- and one that is as long as its buffer is what is there
pub filled : (old now : Text) (all : List ℕ) → old.at ≡ 0 → Written old all now → length all ≡ length old.bytes.now → now.at ≤ length now.bytes.now
    → now.bytes.now ≡ all
filled old now all z p h l =
    (whole old now all z p (omega (arith, h)) l).1 ∙ ap (λ (t : List ℕ). all ++ t) (drop_all (length all) old.bytes.now (omega (arith, h))) ∙ append-nil all

-- ---- bits

-- each is a character by its own bit
pub bits_at : (bs : List ℕ) (i : ℕ) → 48 + get_or bs i 0 ≡ get_or (bits_text bs) i 48
unfolding bits_text
bits_at bs i = sym (get_or-map (λ (b : ℕ). 48 + b) bs i 0)

-- the first i are characters
abbrev pub shown_to : ℕ → List ℕ → List ℕ
shown_to i bits = bits_text (take i bits) ++ drop i bits

-- none ..
pub shown_none : (bits : List ℕ) → bits ≡ shown_to 0 bits
unfolding bits_text
shown_none bits = refl

-- .. one more ..
at_next : (bits : List ℕ) (i : ℕ) → i < length bits → get_or (shown_to i bits) i 0 ≡ get_or bits i 0
unfolding bits_text
at_next [] i h = absurd (omega (arith, h))
at_next (b ∷ bits) zero h = refl
at_next (b ∷ bits) (suc i) h = at_next bits i (omega (arith, h))

shown_more : (bits : List ℕ) (i : ℕ) → i < length bits → set (shown_to i bits) i (get_or (bits_text bits) i 48) ≡ shown_to (suc i) bits
unfolding bits_text
shown_more [] i h = absurd (omega (arith, h))
shown_more (b ∷ bits) zero h = refl
shown_more (b ∷ bits) (suc i) h = ap (λ (t : List ℕ). (48 + b) ∷ t) (shown_more bits i (omega (arith, h)))

-- as the code has it ..
pub bits_more : (bits now : List ℕ) (i : ℕ) → Bits bits → i < length bits → now ≡ shown_to i bits
    → set now i ((get_or now i 0 + 48) % 256) ≡ shown_to (i + 1) bits
bits_more bits now i b h e =
    let v : get_or now i 0 ≡ get_or bits i 0 = ap (λ (t : List ℕ). get_or t i 0) e ∙ at_next bits i h in
    let small : (get_or now i 0 + 48) % 256 ≡ 48 + get_or bits i 0 = omega (arith, v, below_at 1 bits i b) in
    let z = small ∙ bits_at bits i in
    ap₂ (λ (t : List ℕ) (c : ℕ). set t i c) e z ∙ shown_more bits i h ∙ ap (λ (k : ℕ). shown_to k bits) (sym (add-one i))

-- .. all
pub shown_all : (bits : List ℕ) (i : ℕ) → length bits ≤ i → shown_to i bits ≡ bits_text bits
unfolding bits_text
shown_all bits i h = ap₂ (λ (a b : List ℕ). bits_text a ++ b) (take_all i bits h) (drop_all i bits h) ∙ append-nil (bits_text bits)
