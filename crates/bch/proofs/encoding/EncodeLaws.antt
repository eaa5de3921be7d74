-- Encoding: of every message there is one codeword that carries it, `encoded` finds it, and it is the message behind its
-- parity, the remainder of the message's division by the generator. Assumes nothing.
use Prim.Native.Nat.{ℕ, ◌+◌, ◌-◌, ◌*◌, ◌≤◌, ◌<◌}
use native.Mathlib.Omega.{arith}
use mathlib.Core.Path.{◌≡◌, refl, sym, ap, ap₂, ◌∙◌, subst}
use mathlib.Core.Logic.{◌↔◌}
use mathlib.Core.List.{List, [], ◌++◌, map}
use mathlib.Core.Option.{Option, none, some, get_or}
use lib.Bits.{bit_xor}
use lib.Dec.{T}
use lib.ListN.{length, take, drop, length-append, length-drop, take-append-drop}
use lib.Seq.{length-take-le, take_at, drop_at}
use Rattle.galois.specs.Field.{times}
use Rattle.galois.proofs.Xor.{xor_zero→eq}
use Rattle.galois.proofs.Primitive.{Primitive}
use Rattle.bch.specs.Words.{Bits, words, first}
use Rattle.bch.specs.Code.{Code, Codeword, is_codeword, syndrome, parity_length, message_length}
use Rattle.bch.specs.Encode.{encoded}
use Rattle.bch.specs.Generator.{generator}
use Rattle.bch.proofs.codes.Entries.{below_append, below_drop, below_take}
use Rattle.bch.proofs.codes.Settings.{Lawful, primitive_of}
use Rattle.bch.proofs.codes.Trials.{mapped, mapping, first_some, first_none, of_words, words_of}
use Rattle.bch.proofs.codes.SyndromeLaws.{syndrome_append, passes→, →passes}
use Rattle.bch.proofs.encoding.Numbers.{word, length_word, Bits-word}
use Rattle.bch.proofs.encoding.Recover.{determined}
use Rattle.bch.proofs.encoding.Inverse.{inverse, length_inverse}
use Rattle.bch.proofs.encoding.Division.{remainder, parity_syndrome}
use Rattle.bch.proofs.encoding.GeneratorLaws.{Suits, suits_all}

-- the word carries the message: it is a codeword, and the message stands at positions r to n-1
pub record Carries (c : Code) (message bs : List ℕ) : Type 0 where
  pub codeword : Codeword c bs
  pub carried : drop (parity_length c) bs ≡ message

-- the parity of a message: the remainder of message(x)·x^r by the generator
unfoldable pub parity : Code → List ℕ → List ℕ
unfolding word remainder generator
parity c message = word (parity_length c) (remainder (parity_length c) (generator c.m c.t) message)

-- a word of syndrome 0: what its first r bits contribute is what the others do
parts : (m i r : ℕ) (bs : List ℕ) → Primitive m → Bits bs → r ≤ length bs → syndrome m i bs ≡ 0
    → syndrome m i (take r bs) ≡ times m (i * r) (syndrome m i (drop r bs))
parts m i r bs f h l e =
    xor_zero→eq (syndrome m i (take r bs)) (times m (i * r) (syndrome m i (drop r bs)))
    (ap (λ (x : ℕ). bit_xor (syndrome m i (take r bs)) (times m (i * x) (syndrome m i (drop r bs)))) (sym (length-take-le r bs l))
    ∙ sym (syndrome_append m f i (take r bs) (drop r bs) (below_take 2 r bs h) (below_drop 2 r bs h))
    ∙ ap (syndrome m i) (take-append-drop r bs) ∙ e)

-- ---- the syndromes of at most r positions, the generator and the parity

module _ (c : Code) (is_code : Lawful c) where
  suits : Suits c.m c.t
  suits = suits_all c.m c.t is_code.m_least is_code.m_most is_code.t_least is_code.t_most

  -- words of one length, at most r, with the same syndromes are equal
  pub same_syndromes : (xs ys : List ℕ) → Bits xs → Bits ys → length xs ≡ length ys → length xs ≤ parity_length c
      → ((j : ℕ) → j < c.t → syndrome c.m (2 * j + 1) xs ≡ syndrome c.m (2 * j + 1) ys) → xs ≡ ys
  same_syndromes xs ys hx hy l s e =
      determined c.m (parity_length c) (inverse c.m c.t) suits.independent xs ys hx hy l s
      (λ j h. e j (omega (arith, length_inverse c.m c.t)))

  length_parity : (message : List ℕ) → length (parity c message) ≡ parity_length c
  unfolding parity
  length_parity message = length_word (parity_length c) (remainder (parity_length c) (generator c.m c.t) message)

  Bits-parity : (message : List ℕ) → Bits (parity c message)
  unfolding parity
  Bits-parity message = Bits-word (parity_length c) (remainder (parity_length c) (generator c.m c.t) message)

  parity_zero : (message : List ℕ) → Bits message → (j : ℕ) → j < c.t → syndrome c.m (2 * j + 1) (parity c message ++ message) ≡ 0
  unfolding parity
  parity_zero message h j s =
      parity_syndrome (parity_length c) (generator c.m c.t) suits.degree c.m (primitive_of c is_code) (2 * j + 1)
      (suits.roots j s) message h

-- ---- its codewords and their messages, where the parity fits the word

module _ (c : Code) (is_code : Lawful c) (fits : parity_length c ≤ c.n) where
  -- two codewords with the same message are equal
  pub carries_same : (message xs ys : List ℕ) → Carries c message xs → Carries c message ys → xs ≡ ys
  carries_same message xs ys p q =
      let lx : parity_length c ≤ length xs = omega (arith, p.codeword.long) in
      let ly : parity_length c ≤ length ys = omega (arith, q.codeword.long) in
      let r : ℕ = parity_length c in
      let tails : drop r xs ≡ drop r ys = p.carried ∙ sym q.carried in
      let heads : take r xs ≡ take r ys =
      same_syndromes c is_code (take r xs) (take r ys) (below_take 2 r xs p.codeword.bits) (below_take 2 r ys q.codeword.bits)
      (length-take-le r xs lx ∙ sym (length-take-le r ys ly)) (omega (arith, length-take-le r xs lx))
      (λ j s. parts c.m (2 * j + 1) r xs (primitive_of c is_code) p.codeword.bits lx (passes→ c xs is_code.t_most p.codeword.passes j s)
      ∙ ap (λ (l : List ℕ). times c.m ((2 * j + 1) * r) (syndrome c.m (2 * j + 1) l)) tails
      ∙ sym (parts c.m (2 * j + 1) r ys (primitive_of c is_code) q.codeword.bits ly
      (passes→ c ys is_code.t_most q.codeword.passes j s))) in
      sym (take-append-drop r xs) ∙ ap₂ (λ (a b : List ℕ). a ++ b) heads tails ∙ take-append-drop r ys

  -- the parity and the message together are a codeword that carries the message, ..
  pub parity_carries : (message : List ℕ) → Bits message → length message ≡ message_length c → Carries c message (parity c message ++ message)
  parity_carries message h l =
      record {
        codeword =
            record {
              long =
                  length-append (parity c message) message ∙ omega (arith, l, length_parity c is_code message);
              bits = below_append 2 (parity c message) message (Bits-parity c is_code message) h;
              passes = →passes c (parity c message ++ message) is_code.t_least (parity_zero c is_code message h);
            };
        carried = drop_at (parity c message) message (parity_length c) (length_parity c is_code message);
      }

  -- .. and so is what the encoder finds: it is that word
  pub encoded_is : (message : List ℕ) → Bits message → length message ≡ message_length c → encoded c message ≡ parity c message ++ message
  unfolding encoded
  encoded_is message h l = go (first (is_codeword c) tried) refl
    where
      join : List ℕ → List ℕ
      join ps = ps ++ message

      tried : List (List ℕ)
      tried = map join (words (parity_length c))

      go : (o : Option (List ℕ)) → first (is_codeword c) tried ≡ o → get_or (first (is_codeword c) tried) [] ≡ parity c message ++ message
      go none e =
          absurd (first_none (is_codeword c) (parity c message ++ message) tried e
          (mapping join (words_of (parity_length c) (parity c message) (Bits-parity c is_code message) (length_parity c is_code message)))
          (parity_carries message h l).codeword.passes)
      go (some w) e =
          let (m, p) = first_some (is_codeword c) w tried e in
          let (ps, k, q) = mapped join (words (parity_length c)) m in
          let (b, s) = of_words (parity_length c) ps k in
          ap (λ (o : Option (List ℕ)). get_or o []) e ∙ q
          ∙ carries_same message (ps ++ message) (parity c message ++ message)
          (record {
            codeword =
                record {
                  long = length-append ps message ∙ omega (arith, s, l);
                  bits = below_append 2 ps message b h;
                  passes = subst (λ (v : List ℕ). T (is_codeword c v)) q p;
                };
            carried = drop_at ps message (parity_length c) s;
          }) (parity_carries message h l)

  -- so it stands where the register of the division and then the message are written
  pub encoded_written : (message rest : List ℕ) (g reg : ℕ) → Bits message → length message ≡ message_length c
      → g ≡ generator c.m c.t → reg ≡ remainder (parity_length c) g message
      → take (parity_length c) (word (parity_length c) reg ++ rest) ++ message ≡ encoded c message
  unfolding parity
  encoded_written message rest g reg h l eg e =
      ap (λ (ps : List ℕ). ps ++ message) (take_at (word (parity_length c) reg) rest (parity_length c) (length_word (parity_length c) reg))
      ∙ ap (λ (x : ℕ). word (parity_length c) x ++ message) (e ∙ ap (λ (x : ℕ). remainder (parity_length c) x message) eg)
      ∙ sym (encoded_is message h l)

  -- the encoded message is a codeword that carries it, ..
  pub encoded_carries : (message : List ℕ) → Bits message → length message ≡ message_length c → Carries c message (encoded c message)
  encoded_carries message h l = subst (Carries c message) (sym (encoded_is message h l)) (parity_carries message h l)

  -- .. and the only one
  pub carries_encoded : (message bs : List ℕ) → Carries c message bs → bs ≡ encoded c message
  carries_encoded message bs p =
      let l : length message ≡ message_length c =
      ap length (sym p.carried) ∙ length-drop (parity_length c) bs ∙ ap (λ (x : ℕ). x - parity_length c) p.codeword.long in
      let h : Bits message = subst Bits p.carried (below_drop 2 (parity_length c) bs p.codeword.bits) in
      carries_same message bs (encoded c message) p (encoded_carries message h l)

  -- so a word carries a message of k bits exactly where it is the encoded message
  pub carries_iff : (message bs : List ℕ) → Bits message → length message ≡ message_length c → Carries c message bs ↔ (bs ≡ encoded c message)
  carries_iff message bs h l = (carries_encoded message bs, λ e. subst (Carries c message) (sym e) (encoded_carries message h l))

  -- and a codeword is the encoded message that it carries
  pub codeword_encoded : (bs : List ℕ) → Codeword c bs → bs ≡ encoded c (drop (parity_length c) bs)
  codeword_encoded bs w = carries_encoded (drop (parity_length c) bs) bs (record { codeword = w; carried = refl })
