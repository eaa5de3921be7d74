-- Laws of lines as the fields that the code writes, and how long they are at most. Assumes nothing.
use Prim.Native.Nat.{ℕ, suc, ◌+◌, ◌^◌, ◌≤◌, ◌<◌}
use native.Mathlib.Omega.{arith}
use mathlib.Core.Path.{◌≡◌, refl}
use mathlib.Core.Logic.{◌⊎◌, inl, inr}
use mathlib.Core.List.{List, [], ◌∷◌, ◌++◌, append_assoc}
use lib.IntN.{ℤ, pos, negsuc}
use lib.ListN.{length, length-append, length-map}
use lib.Pow.{pow_mono}
use lib.Signed.{mag}
use mir.Syntax.{w32}
use mir.Val.{SFits}
use Rattle.chase.specs.Soft.{Mark, lost, fair, sure, Answer}
use Rattle.chase.proofs.weighing.Bounded.{BoundedAnswer}
use Rattle.take_format.specs.Refusal.{Refusal}
use Rattle.take_format.specs.Batch.{Totals}
use Rattle.listing.specs.Text.{ascii, decimal, signed, mark_name, bits_text, message_text, line, word_line, totals_line, refusal_line}
use Rattle.receiver.specs.declared.Mark.{Mark as Marked}
use Rattle.receiver.specs.declared.Mark.TheVariants.{Lost, Fair, Sure}
use Rattle.listing.specs.declared.take.Shown.{Shown}
use Rattle.listing.specs.Shown.{mark_of, Shows}
use Rattle.listing.proofs.Decimals.{decimal_long}

-- ---- the fields that the code writes

-- a text and the character behind it
abbrev pub field : List ℕ → ℕ → List ℕ
field text c = text ++ (c ∷ [])

two_fields : (name a b : List ℕ) → (name ++ field a 32) ++ field b 10 ≡ name ++ (a ++ (32 ∷ (b ++ (10 ∷ []))))
two_fields name a b = simp append_assoc

-- a refusal
pub refusal_text : (r : Refusal) → (ascii "refused " ++ field (decimal r.number) 32) ++ field (decimal r.place) 10 ≡ refusal_line r
unfolding refusal_line line ascii
refusal_text r = two_fields (ascii "refused ") (decimal r.number) (decimal r.place)

-- totals
pub totals_text : (k : Totals)
    → (((field (decimal k.words) 32 ++ field (decimal k.sures) 32) ++ field (decimal k.fairs) 32) ++ field (decimal k.losts) 32) ++ field (decimal k.tries) 10
    ≡ totals_line k
unfolding totals_line line
totals_text k = simp append_assoc

-- a margin of 32 bits is small
pub margin_small : (z : ℤ) → SFits w32 z → mag z < 2 ^ 63
margin_small (pos n) f = let l : n < 2 ^ 63 = omega (arith, f.sfits) in l
margin_small (negsuc n) f = let l : n < 2 ^ 63 = omega (arith, f.sfits) in l

-- a word
pub word_text : (i : ℕ) (s : Shown) (a : Answer) (bits piece : List ℕ) → Shows s a → piece ≡ message_text (mark_of s.mark) bits
    → ((((((field (decimal i) 32 ++ mark_name (mark_of s.mark)) ++ (32 ∷ [])) ++ field (decimal s.distance) 32)
    ++ field (signed s.margin) 32) ++ field (decimal s.tries) 32) ++ piece) ++ (10 ∷ [])
    ≡ word_line i a bits
unfolding word_line line
word_text i s a bits piece h e = rw (e, h.mark, h.distance, h.margin, h.tries) (simp append_assoc)

-- .. whose message is a hyphen where it is lost
pub lost_piece : (m : Marked) (bits : List ℕ) → m ≡ Lost → 45 ∷ [] ≡ message_text (mark_of m) bits
unfolding mark_of message_text ascii
lost_piece m bits e = rw e refl

-- .. and else its bits
pub bits_piece : (m : Marked) (bits : List ℕ) → (m ≡ Fair) ⊎ (m ≡ Sure) → bits_text bits ≡ message_text (mark_of m) bits
unfolding mark_of message_text
bits_piece m bits (inl e) = rw e refl
bits_piece m bits (inr e) = rw e refl

-- ---- how long they are at most

-- totals that a machine holds
pub record Held (k : Totals) : Type 0 where
  pub words : k.words < 2 ^ 64
  pub sures : k.sures < 2 ^ 64
  pub fairs : k.fairs < 2 ^ 64
  pub losts : k.losts < 2 ^ 64
  pub tries : k.tries < 2 ^ 64

-- a number that a machine holds
held_long : (x : ℕ) → x < 2 ^ 64 → length (decimal x) ≤ 20
held_long x h = decimal_long 19 x (omega (arith, h))

margin_long : (z : ℤ) → mag z < 9999 → length (signed z) ≤ 5
unfolding signed
margin_long (pos n) h = let l : n < 9999 = h in omega (arith, decimal_long 3 n (omega arith))
margin_long (negsuc n) h = let l : n < 9999 = h in omega (arith, decimal_long 3 (suc n) (omega arith))

mark_long : (m : Mark) → length (mark_name m) ≡ 4
unfolding mark_name ascii
mark_long lost = refl
mark_long fair = refl
mark_long sure = refl

message_long : (m : Mark) (bits : List ℕ) → length (message_text m bits) ≤ length bits + 1
unfolding message_text bits_text ascii
message_long lost bits = omega arith
message_long fair bits = omega (arith, length-map bits (λ (b : ℕ). 48 + b))
message_long sure bits = omega (arith, length-map bits (λ (b : ℕ). 48 + b))

-- a refusal
pub refusal_long : (r : Refusal) → r.number < 2 ^ 64 → r.place < 2 ^ 64 → length (refusal_line r) ≤ 50
unfolding refusal_line line ascii
refusal_long r n p =
    let b = length-append (decimal r.place) (10 ∷ []) in
    let a = length-append (decimal r.number) (32 ∷ (decimal r.place ++ (10 ∷ []))) in
    omega (arith, a, b, held_long r.number n, held_long r.place p)

-- totals
pub totals_long : (k : Totals) → Held k → length (totals_line k) ≤ 105
unfolding totals_line line
totals_long k h =
    let e = length-append (decimal k.tries) (10 ∷ []) in
    let d = length-append (decimal k.losts) (32 ∷ (decimal k.tries ++ (10 ∷ []))) in
    let c = length-append (decimal k.fairs) (32 ∷ (decimal k.losts ++ (32 ∷ (decimal k.tries ++ (10 ∷ []))))) in
    let b = length-append (decimal k.sures) (32 ∷ (decimal k.fairs ++ (32 ∷ (decimal k.losts ++ (32 ∷ (decimal k.tries ++ (10 ∷ []))))))) in
    let a = length-append (decimal k.words)
    (32 ∷ (decimal k.sures ++ (32 ∷ (decimal k.fairs ++ (32 ∷ (decimal k.losts ++ (32 ∷ (decimal k.tries ++ (10 ∷ []))))))))) in
    omega (
      arith,
      a,
      b,
      c,
      d,
      e,
      held_long k.words h.words,
      held_long k.sures h.sures,
      held_long k.fairs h.fairs,
      held_long k.losts h.losts,
      held_long k.tries h.tries,
    )

-- a word
pub word_line_long : (i p : ℕ) (a : Answer) (bits : List ℕ) → i < 65536 → p ≤ 6 → BoundedAnswer p a → length (word_line i a bits) ≤ length bits + 81
unfolding word_line line
word_line_long i p a bits few depth s =
    let most : 2 ^ p ≤ 2 ^ 6 = pow_mono depth in
    let z = message_text a.mark bits in
    let lz = length-append z (10 ∷ []) in
    let lt = length-append (decimal a.tries) (32 ∷ (z ++ (10 ∷ []))) in
    let lm = length-append (signed a.margin) (32 ∷ (decimal a.tries ++ (32 ∷ (z ++ (10 ∷ []))))) in
    let ld = length-append (decimal a.distance) (32 ∷ (signed a.margin ++ (32 ∷ (decimal a.tries ++ (32 ∷ (z ++ (10 ∷ []))))))) in
    let ln = length-append (mark_name a.mark)
    (32 ∷ (decimal a.distance ++ (32 ∷ (signed a.margin ++ (32 ∷ (decimal a.tries ++ (32 ∷ (z ++ (10 ∷ []))))))))) in
    let li = length-append (decimal i)
    (32 ∷ (mark_name a.mark ++ (32 ∷ (decimal a.distance ++ (32 ∷ (signed a.margin ++ (32 ∷ (decimal a.tries ++ (32 ∷ (z ++ (10 ∷ []))))))))))) in
    omega (
      arith,
      lz,
      lt,
      lm,
      ld,
      ln,
      li,
      held_long i (omega arith),
      mark_long a.mark,
      held_long a.distance (omega (arith, s.distance, s.flips)),
      margin_long a.margin (omega (arith, s.margin)),
      held_long a.tries (omega (arith, s.tries)),
      message_long a.mark bits,
    )
