-- Laws of the checks: what holds where none of them refuses. Assumes nothing.
-- (`Cases` is named so that its cases are checked before these laws, which follow the definitions' text.)
use Prim.Native.Nat.{ℕ, suc, ◌+◌, ◌-◌, ◌^◌, ◌≤◌, ◌<◌, ◌*◌}
use native.Mathlib.Omega.{arith}
use native.Mathlib.Numerals.{add-one}
use mathlib.Core.Path.{◌≡◌, refl, ap, sym}
use mathlib.Core.Bool.{Bool, true, false, ◌&&◌}
use mathlib.Core.List.{List, [], ◌∷◌, ◌++◌}
use mathlib.Core.Option.{Option, none, some}
use borrow.Author.Tests.{leb-true, le-leb, lt-leb}
use lib.Dec.{T, leb, eqb, leb→le, eqb→eq}
use lib.ListN.{length, get_or, drop, drop_of_length-le}
use lib.Seq.{drop-cons}
use Rattle.galois.proofs.Tests.{and_left, and_right}
use Rattle.bch.specs.Words.{Below, Bits}
use Rattle.bch.specs.Code.{Code, IsCode, parity_length, word_length, message_length}
use Rattle.chase.specs.Word.{Symbols}
use Rattle.take_format.specs.Refusal.{Refusal, refused, unless, unless_at_most, first_of, settings, depth_check, input_length, output_length}
use Rattle.take_format.specs.Refusal.{bit_bytes, symbol_bytes, bits_check, bits_refusal, symbols_check, soft_refusal, words_check, words_refusal}

-- ---- a list of checks

-- a refusal is not none
pub some_not_none : {X : Type 0} (r : Refusal) → ◌≡◌ {A = Option Refusal} (some r) none → X
some_not_none r e = let z : ◌≡◌ {A = ℕ} 0 1 = cc in absurd (omega arith)

-- where none of a list of checks refuses, neither the first does nor the others, ..
pub first_cons : (o : Option Refusal) (os : List (Option Refusal)) → first_of (o ∷ os) ≡ none → (o ≡ none) × (first_of os ≡ none)
unfolding first_of
first_cons none os e = (refl, e)
first_cons (some r) os e = some_not_none r e

-- .. and of two lists that are joined, neither does
pub first_append : (os ps : List (Option Refusal)) → first_of (os ++ ps) ≡ none → (first_of os ≡ none) × (first_of ps ≡ none)
unfolding first_of
first_append [] ps e = (refl, e)
first_append (none ∷ os) ps e = first_append os ps e
first_append (some r ∷ os) ps e = some_not_none r e

-- the first of a list of checks that begins with this one
pub first_some : (o : Option Refusal) (os : List (Option Refusal)) (r : Refusal) → some r ≡ o → some r ≡ first_of (o ∷ os)
unfolding first_of
first_some o os r e = rw (← e) refl

pub first_none : (o : Option Refusal) (os : List (Option Refusal)) → none ≡ o → first_of os ≡ first_of (o ∷ os)
unfolding first_of
first_none o os e = rw (← e) refl

-- the last check decides where no other refuses
pub first_last : (o : Option Refusal) → first_of (o ∷ []) ≡ o
unfolding first_of
first_last none = refl
first_last (some r) = refl

-- ---- one check

-- its test holds
pub unless_none : (k : ℕ) (b : Bool) → unless k b ≡ none → T b
unfolding unless
unless_none k true e = tt
unless_none k false e = some_not_none (record { number = k; place = 0 }) e

-- two tests hold
both_none : (k : ℕ) (a b : Bool) → unless k (a && b) ≡ none → T a × T b
both_none k a b e = let h = unless_none k (a && b) e in (and_left a b h, and_right a b h)

-- every element is at most `most`
pub most_none : (k most at : ℕ) (xs : List ℕ) → unless_at_most k most at xs ≡ none → Below (suc most) xs
unfolding unless_at_most Below
most_none k most at [] e = tt
most_none k most at (x ∷ xs) e = go (leb x most) refl e (most_none k most (suc at) xs)
  where
    go : (b : Bool) → leb x most ≡ b
        → ◌≡◌ {A = Option Refusal} (elim b [ true ↦ unless_at_most k most (suc at) xs | false ↦ refused k at ]) none
        → (unless_at_most k most (suc at) xs ≡ none → Below (suc most) xs) → Below (suc most) (x ∷ xs)
    go true h e f = (omega (arith, leb-true x most h), f e)
    go false h e f = some_not_none (record { number = k; place = at }) e

-- a check of bytes one after the other: the first that is above is refused, ..
module _ (k most i : ℕ) (xs : List ℕ) where
  pub above_here : i < length xs → most < get_or xs i 0 → refused k i ≡ unless_at_most k most i (drop i xs)
  unfolding unless_at_most
  above_here h w = rw (drop-cons xs i 0 h, unless_at_most, lt-leb (get_or xs i 0) most w)

  -- .. one that is not is passed over, ..
  pub above_later : i < length xs → get_or xs i 0 ≤ most → unless_at_most k most i (drop i xs) ≡ unless_at_most k most (i + 1) (drop (i + 1) xs)
  unfolding unless_at_most
  above_later h w = rw (add-one, drop-cons xs i 0 h, unless_at_most, le-leb (get_or xs i 0) most w)

  -- .. and at the end none is
  pub above_none : length xs ≤ i → none ≡ unless_at_most k most i (drop i xs)
  unfolding unless_at_most
  above_none h = sym (ap (unless_at_most k most i) (drop_of_length-le xs h))

-- where no byte is above there is no refusal
pub all_most : (k most at : ℕ) (xs : List ℕ) → ((i : ℕ) → i < length xs → get_or xs i 0 ≤ most) → none ≡ unless_at_most k most at xs
unfolding unless_at_most
all_most k most at [] h = refl
all_most k most at (x ∷ xs) h = rw (unless_at_most, le-leb x most (h 0 (omega arith))) (all_most k most (suc at) xs (λ i l. h (suc i) (omega arith)))

-- the settings name a code
pub settings_code : (c : Code) → first_of (settings c) ≡ none → IsCode c
unfolding settings
settings_code c e =
    let (em, rest) = first_cons (unless 1 (leb 5 c.m && leb c.m 8)) _ e in
    let (et, last) = first_cons (unless 2 (leb 1 c.t && leb c.t 3)) _ rest in
    let (en, _) = first_cons (unless 3 (leb (parity_length c + 1) c.n && leb c.n (2 ^ c.m - 1))) _ last in
    let m = both_none 1 (leb 5 c.m) (leb c.m 8) em in
    let t = both_none 2 (leb 1 c.t) (leb c.t 3) et in
    let n = both_none 3 (leb (parity_length c + 1) c.n) (leb c.n (2 ^ c.m - 1)) en in
    record {
      m_least = leb→le 5 c.m m.0;
      m_most = leb→le c.m 8 m.1;
      t_least = leb→le 1 c.t t.0;
      t_most = leb→le c.t 3 t.1;
      n_least = leb→le (parity_length c + 1) c.n n.0;
      n_most = leb→le c.n (2 ^ c.m - 1) n.1;
    }

-- the depth is at most 6, ..
pub depth_none : (p : ℕ) → depth_check p ≡ none → p ≤ 6
unfolding depth_check
depth_none p e = leb→le p 6 (unless_none 4 (leb p 6) e)

-- .. an input is as long as asked, ..
pub input_none : (n long : ℕ) → input_length n long ≡ none → long ≡ n
unfolding input_length
input_none n long e = eqb→eq long n (unless_none 6 (eqb long n) e)

-- .. and so is an output
pub output_none : (n room : ℕ) → output_length n room ≡ none → room ≡ n
unfolding output_length
output_none n room e = eqb→eq room n (unless_none 7 (eqb room n) e)

-- bytes are bits, ..
pub bits_none : (xs : List ℕ) → bit_bytes xs ≡ none → Bits xs
unfolding bit_bytes
bits_none xs e = most_none 8 1 _ xs e

-- .. or symbols
pub symbols_none : (at : ℕ) (xs : List ℕ) → symbol_bytes at xs ≡ none → Symbols xs
unfolding symbol_bytes
symbols_none at xs e = most_none 9 31 _ xs e

-- ---- the calls on one word

-- what the checks of a call on k bits leave
pub record BitsAccepted (c : Code) (k : ℕ) (bits codeword : List ℕ) : Type 0 where
  pub is_code : IsCode c
  pub long : length bits ≡ k
  pub room : length codeword ≡ word_length c
  pub are_bits : Bits bits

-- .. those of its bits and its room, ..
pub bits_checked : (k n : ℕ) (bits : List ℕ) (room : ℕ) → bits_check k n bits room ≡ none → (length bits ≡ k) × (room ≡ n) × Bits bits
unfolding bits_check
bits_checked k n bits room e =
    let i = input_length k (length bits) in
    let o = output_length n room in
    let b = bit_bytes bits in
    let (hi, rest) = first_cons i (o ∷ b ∷ []) e in
    let (ho, last) = first_cons o (b ∷ []) rest in
    let (hb, _) = first_cons b [] last in
    (input_none k (length bits) hi, output_none n room ho, bits_none bits hb)

-- .. and all of them
pub bits_accepted : (c : Code) (k : ℕ) (bits codeword : List ℕ) → bits_refusal c k bits codeword ≡ none → BitsAccepted c k bits codeword
unfolding bits_refusal
bits_accepted c k bits codeword e =
    let (s, call) = first_append (settings c) (bits_check k (word_length c) bits (length codeword) ∷ []) e in
    let (all, _) = first_cons (bits_check k (word_length c) bits (length codeword)) [] call in
    let (long, room, bytes) = bits_checked k (word_length c) bits (length codeword) all in
    record { is_code = settings_code c s; long = long; room = room; are_bits = bytes }

-- what those of the soft stage leave
pub record SoftAccepted (c : Code) (p : ℕ) (symbols codeword : List ℕ) : Type 0 where
  pub is_code : IsCode c
  pub depth : p ≤ 6
  pub long : length symbols ≡ word_length c
  pub room : length codeword ≡ word_length c
  pub are_symbols : Symbols symbols

-- those of the symbols and the room alone
pub symbols_accepted : (p n : ℕ) (symbols : List ℕ) (room : ℕ) → symbols_check p n symbols room ≡ none
    → (p ≤ 6) × (length symbols ≡ n) × (room ≡ n) × Symbols symbols
unfolding symbols_check
symbols_accepted p n symbols room e =
    let i = input_length n (length symbols) in
    let o = output_length n room in
    let b = symbol_bytes 0 symbols in
    let (hd, more) = first_cons (depth_check p) (i ∷ o ∷ b ∷ []) e in
    let (hi, rest) = first_cons i (o ∷ b ∷ []) more in
    let (ho, last) = first_cons o (b ∷ []) rest in
    let (hb, _) = first_cons b [] last in
    (depth_none p hd, input_none n (length symbols) hi, output_none n room ho, symbols_none 0 symbols hb)

pub soft_accepted : (c : Code) (p : ℕ) (symbols codeword : List ℕ) → soft_refusal c p symbols codeword ≡ none → SoftAccepted c p symbols codeword
unfolding soft_refusal
soft_accepted c p symbols codeword e =
    let check = symbols_check p (word_length c) symbols (length codeword) in
    let (s, call) = first_append (settings c) (check ∷ []) e in
    let (h, _) = first_cons check [] call in
    let ok = symbols_accepted p (word_length c) symbols (length codeword) h in
    record { is_code = settings_code c s; depth = ok.0; long = ok.1; room = ok.2; are_symbols = ok.3 }

-- ---- the call on several words

-- what its checks leave, beside those of the settings
pub record WordsChecked (c : Code) (p W : ℕ) (symbols messages marks : List ℕ) : Type 0 where
  pub depth : p ≤ 6
  pub long : length symbols ≡ W * word_length c
  pub messages_room : length messages ≡ W * message_length c
  pub marks_room : length marks ≡ W
  pub are_symbols : Symbols symbols

pub words_checked : (c : Code) (p W : ℕ) (symbols messages marks : List ℕ) → words_check c p W symbols (length messages) (length marks) ≡ none
    → WordsChecked c p W symbols messages marks
unfolding words_check
words_checked c p W symbols messages marks e =
    let d = depth_check p in
    let i = input_length (W * word_length c) (length symbols) in
    let o = output_length (W * message_length c) (length messages) in
    let k = output_length W (length marks) in
    let b = symbol_bytes 0 symbols in
    let (hd, more) = first_cons d (i ∷ o ∷ k ∷ b ∷ []) e in
    let (hi, rest) = first_cons i (o ∷ k ∷ b ∷ []) more in
    let (ho, rooms) = first_cons o (k ∷ b ∷ []) rest in
    let (hk, last) = first_cons k (b ∷ []) rooms in
    let (hb, _) = first_cons b [] last in
    record {
      depth = depth_none p hd;
      long = input_none (W * word_length c) (length symbols) hi;
      messages_room = output_none (W * message_length c) (length messages) ho;
      marks_room = output_none W (length marks) hk;
      are_symbols = symbols_none 0 symbols hb;
    }

pub words_accepted : (c : Code) (p W : ℕ) (symbols messages marks : List ℕ) → words_refusal c p W symbols messages marks ≡ none
    → IsCode c × WordsChecked c p W symbols messages marks
unfolding words_refusal
words_accepted c p W symbols messages marks e =
    let check = words_check c p W symbols (length messages) (length marks) in
    let (s, call) = first_append (settings c) (check ∷ []) e in
    (settings_code c s, words_checked c p W symbols messages marks (first_cons check [] call).0)

-- ---- what holds of a refusal

-- a claim about the refusal, where there is one
abbrev pub IfRefused : (Refusal → Type 0) → Option Refusal → Type 0
IfRefused P o = (r : Refusal) → o ≡ some r → P r

-- what holds of all checks holds of the first that refuses
module _ (P : Refusal → Type 0) where
  unfoldable pub AllSo : List (Option Refusal) → Type 0
  AllSo [] = Unit {0}
  AllSo (o ∷ os) = IfRefused P o × AllSo os

  pub first_so : (os : List (Option Refusal)) → AllSo os → IfRefused P (first_of os)
  unfolding AllSo first_of
  first_so [] a r e = some_not_none r (sym e)
  first_so (none ∷ os) a r e = first_so os a.1 r e
  first_so (some s ∷ os) a r e = a.0 r e

  pub both_so : (os ps : List (Option Refusal)) → AllSo os → AllSo ps → AllSo (os ++ ps)
  unfolding AllSo
  both_so [] ps a b = b
  both_so (o ∷ os) ps a b = (a.0, both_so os ps a.1 b)

-- a test refuses with its number, at place 0
pub unless_refused_lem : (k : ℕ) (b : Bool) → IfRefused (λ (r : Refusal). (r.number ≡ k) × (r.place ≡ 0)) (unless k b)
unfolding unless
unless_refused_lem k true r e = some_not_none r (sym e)
unless_refused_lem k false r e = (cc, cc)

-- bytes are refused with their check's number, among them
pub bytes_refused : (k most at : ℕ) (xs : List ℕ)
    → IfRefused (λ (r : Refusal). (r.number ≡ k) × (r.place ≤ at + length xs)) (unless_at_most k most at xs)
unfolding unless_at_most
bytes_refused k most at [] r e = some_not_none r (sym e)
bytes_refused k most at (x ∷ xs) r e = go (leb x most) e (bytes_refused k most (suc at) xs)
  where
    go : (b : Bool) → elim b [ true ↦ unless_at_most k most (suc at) xs | false ↦ refused k at ] ≡ some r
        → IfRefused (λ (r : Refusal). (r.number ≡ k) × (r.place ≤ suc at + length xs)) (unless_at_most k most (suc at) xs)
        → (r.number ≡ k) × (r.place ≤ at + length (x ∷ xs))
    go true e f = let (n, p) = f r e in (n, omega (arith, p))
    go false e f = let z : r.place ≡ at = cc in (cc, omega arith)

-- ---- the place of a refusal

-- where it is refused at all, then at a place that is not beyond
abbrev Within : ℕ → Option Refusal → Type 0
Within most o = IfRefused (λ (r : Refusal). r.place ≤ most) o

within_unless : (most k : ℕ) (b : Bool) → Within most (unless k b)
within_unless most k b r e = omega (arith, (unless_refused_lem k b r e).1)

-- that of settings is 0, so that a call's is where its other checks have it
call_within : (most : ℕ) (c : Code) (later : Option Refusal) → Within most later → Within most (first_of (settings c ++ later ∷ []))
unfolding settings AllSo
call_within most c later f =
    let near : Refusal → Type 0 = λ r. r.place ≤ most in
    let m = within_unless most 1 (leb 5 c.m && leb c.m 8) in
    let t = within_unless most 2 (leb 1 c.t && leb c.t 3) in
    let n = within_unless most 3 (leb (parity_length c + 1) c.n && leb c.n (2 ^ c.m - 1)) in
    first_so near (settings c ++ later ∷ []) (both_so near (settings c) (later ∷ []) (m, (t, (n, tt))) (f, tt))

within_symbols : (xs : List ℕ) → Within (length xs) (symbol_bytes 0 xs)
unfolding symbol_bytes
within_symbols xs r e = omega (arith, (bytes_refused 9 31 0 xs r e).1)

-- the soft stage's, not beyond its symbols, ..
pub soft_within : (c : Code) (p : ℕ) (symbols codeword : List ℕ) → Within (length symbols) (soft_refusal c p symbols codeword)
unfolding soft_refusal symbols_check depth_check input_length output_length AllSo
soft_within c p symbols codeword =
    let most = length symbols in
    let n = word_length c in
    let word = depth_check p ∷ input_length n most ∷ output_length n (length codeword) ∷ symbol_bytes 0 symbols ∷ [] in
    let i = within_unless most 6 (eqb most n) in
    let o = within_unless most 7 (eqb (length codeword) n) in
    call_within most c (first_of word)
    (first_so (λ (r : Refusal). r.place ≤ most) word (within_unless most 4 (leb p 6), (i, (o, (within_symbols symbols, tt)))))

-- .. nor that of several words
pub words_within_lem : (c : Code) (p W : ℕ) (symbols messages marks : List ℕ) → Within (length symbols) (words_refusal c p W symbols messages marks)
unfolding words_refusal words_check depth_check input_length output_length AllSo
words_within_lem c p W symbols messages marks =
    let most = length symbols in
    let n = W * word_length c in
    let k = W * message_length c in
    let words = depth_check p ∷ input_length n most ∷ output_length k (length messages) ∷ output_length W (length marks) ∷ symbol_bytes 0 symbols ∷ [] in
    let i = within_unless most 6 (eqb most n) in
    let o = within_unless most 7 (eqb (length messages) k) in
    let m = within_unless most 7 (eqb (length marks) W) in
    call_within most c (first_of words)
    (first_so (λ (r : Refusal). r.place ≤ most) words (within_unless most 4 (leb p 6), (i, (o, (m, (within_symbols symbols, tt))))))
