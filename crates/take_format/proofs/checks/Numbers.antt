-- The number of every refusal is one of document 01's, 1 to 14. Assumes nothing.
use Prim.Native.Nat.{ℕ, zero, suc, ◌+◌, ◌-◌, ◌*◌, ◌^◌, ◌≤◌}
use native.Mathlib.Omega.{arith}
use mathlib.Core.Path.{◌≡◌, sym}
use mathlib.Core.Bool.{Bool, true, false, ◌&&◌}
use mathlib.Core.List.{List, [], ◌∷◌, ◌++◌}
use mathlib.Core.Option.{Option, some}
use lib.Dec.{leb, eqb}
use lib.Ieee.{Float, is_nan}
use lib.ListN.{length, get_or, drop}
use Rattle.bch.specs.Code.{Code, parity_length, word_length, message_length}
use Rattle.take_format.specs.Refusal.{Refusal, refused, unless, unless_at_most, first_of, settings, depth_check, input_length, output_length}
use Rattle.take_format.specs.Refusal.{bit_bytes, symbol_bytes, bits_check, bits_refusal, symbols_check, soft_refusal}
use Rattle.take_format.specs.Samples.{is_ladder, ladder_check, samples_check, samples_refusal}
use Rattle.take_format.specs.Take.{header, header_refusal, take_symbols_check, open_refusal, take_refusal}
use Rattle.take_format.proofs.checks.RefusalLaws.{some_not_none, IfRefused, AllSo, first_so, both_so, unless_refused_lem, bytes_refused}

abbrev pub Numbered : Refusal → Type 0
Numbered r = (1 ≤ r.number) × (r.number ≤ 14)

-- ---- one check

numbered_unless : (k : ℕ) (b : Bool) → 1 ≤ k → k ≤ 14 → IfRefused Numbered (unless k b)
numbered_unless k b l h r e = let n = (unless_refused_lem k b r e).0 in (omega (arith, n), omega (arith, n))

numbered_bytes : (k most at : ℕ) (xs : List ℕ) → 1 ≤ k → k ≤ 14 → IfRefused Numbered (unless_at_most k most at xs)
numbered_bytes k most at xs l h r e = let n = (bytes_refused k most at xs r e).0 in (omega (arith, n), omega (arith, n))

-- ---- the checks of the calls

numbered_settings : (c : Code) → AllSo Numbered (settings c)
unfolding settings AllSo
numbered_settings c =
    let m = numbered_unless 1 (leb 5 c.m && leb c.m 8) (omega arith) (omega arith) in
    let t = numbered_unless 2 (leb 1 c.t && leb c.t 3) (omega arith) (omega arith) in
    let n = numbered_unless 3 (leb (parity_length c + 1) c.n && leb c.n (2 ^ c.m - 1)) (omega arith) (omega arith) in
    (m, (t, (n, tt)))

numbered_depth : (p : ℕ) → IfRefused Numbered (depth_check p)
unfolding depth_check
numbered_depth p = numbered_unless 4 (leb p 6) (omega arith) (omega arith)

numbered_input : (n long : ℕ) → IfRefused Numbered (input_length n long)
unfolding input_length
numbered_input n long = numbered_unless 6 (eqb long n) (omega arith) (omega arith)

numbered_output : (n room : ℕ) → IfRefused Numbered (output_length n room)
unfolding output_length
numbered_output n room = numbered_unless 7 (eqb room n) (omega arith) (omega arith)

numbered_symbols : (at : ℕ) (xs : List ℕ) → IfRefused Numbered (symbol_bytes at xs)
unfolding symbol_bytes
numbered_symbols at xs = numbered_bytes 9 31 at xs (omega arith) (omega arith)

-- of a code, and then of what is handed in
numbered_call : (c : Code) (later : Option Refusal) → IfRefused Numbered later → IfRefused Numbered (first_of (settings c ++ later ∷ []))
unfolding AllSo
numbered_call c later f = first_so Numbered (settings c ++ later ∷ []) (both_so Numbered (settings c) (later ∷ []) (numbered_settings c) (f, tt))

pub numbered_bits : (c : Code) (k : ℕ) (bits codeword : List ℕ) → IfRefused Numbered (bits_refusal c k bits codeword)
unfolding bits_refusal bits_check bit_bytes AllSo
numbered_bits c k bits codeword =
    let checks = input_length k (length bits) ∷ output_length (word_length c) (length codeword) ∷ bit_bytes bits ∷ [] in
    numbered_call c (first_of checks)
    (first_so Numbered checks (
      numbered_input k (length bits),
      (numbered_output (word_length c) (length codeword), (numbered_bytes 8 1 0 bits (omega arith) (omega arith), tt)),
    ))

pub numbered_soft : (c : Code) (p : ℕ) (symbols codeword : List ℕ) → IfRefused Numbered (soft_refusal c p symbols codeword)
unfolding soft_refusal symbols_check AllSo
numbered_soft c p symbols codeword =
    let n = word_length c in
    let checks = depth_check p ∷ input_length n (length symbols) ∷ output_length n (length codeword) ∷ symbol_bytes 0 symbols ∷ [] in
    numbered_call c (first_of checks)
    (first_so Numbered checks (numbered_depth p, (numbered_input n (length symbols), (numbered_output n (length codeword), (numbered_symbols 0 symbols, tt)))))

pub numbered_ladder : (es : List Float) → IfRefused Numbered (ladder_check es)
unfolding ladder_check
numbered_ladder es = numbered_unless 5 (is_ladder es) (omega arith) (omega arith)

numbered_sample : (at : ℕ) (kinds : List ℕ) (levels : List Float) → IfRefused Numbered (samples_check at kinds levels)
unfolding samples_check
numbered_sample at [] xs r e = some_not_none r (sym e)
numbered_sample at (k ∷ ks) [] r e = some_not_none r (sym e)
numbered_sample at (zero ∷ ks) (x ∷ xs) r e = numbered_sample (suc at) ks xs r e
numbered_sample at (suc zero ∷ ks) (x ∷ xs) r e = go (is_nan x) e (numbered_sample (suc at) ks xs)
  where
    go : (b : Bool) → elim b [ true ↦ refused 11 at | false ↦ samples_check (suc at) ks xs ] ≡ some r
        → IfRefused Numbered (samples_check (suc at) ks xs) → Numbered r
    go true e f = let z : r.number ≡ 11 = cc in (omega arith, omega arith)
    go false e f = f r e
numbered_sample at (suc (suc k) ∷ ks) (x ∷ xs) r e = let z : r.number ≡ 10 = cc in (omega arith, omega arith)

pub numbered_samples : (kinds : List ℕ) (levels : List Float) (symbols : List ℕ) → IfRefused Numbered (samples_refusal kinds levels symbols)
unfolding samples_refusal AllSo
numbered_samples kinds levels symbols =
    let like = eqb (length levels) (length kinds) in
    let room = eqb (length symbols) (length kinds) in
    first_so Numbered (unless 6 like ∷ unless 7 room ∷ samples_check 0 kinds levels ∷ [])
    (numbered_unless 6 like (omega arith) (omega arith), (numbered_unless 7 room (omega arith) (omega arith), (numbered_sample 0 kinds levels, tt)))

-- ---- those of a take

module _ (bs : List ℕ) where
  numbered_header : IfRefused Numbered (header_refusal bs)
  unfolding header_refusal AllSo
  numbered_header =
      let h = header bs in
      let long = leb 12 (length bs) in
      let zero7 = eqb (get_or bs 7 0) 0 in
      let whole = eqb h.offset (12 + h.label) && eqb (length bs) (h.offset + h.words * word_length h.code) in
      first_so Numbered (unless 12 long ∷ unless 13 zero7 ∷ first_of (settings h.code) ∷ depth_check h.depth ∷ unless 14 whole ∷ []) (
        numbered_unless 12 long (omega arith) (omega arith),
        (
          numbered_unless 13 zero7 (omega arith) (omega arith),
          (
            first_so Numbered (settings h.code) (numbered_settings h.code),
            (numbered_depth h.depth, (numbered_unless 14 whole (omega arith) (omega arith), tt)),
          ),
        ),
      )

  numbered_words : IfRefused Numbered (take_symbols_check bs)
  unfolding take_symbols_check
  numbered_words = numbered_symbols (header bs).offset (drop (header bs).offset bs)

  pub numbered_open : IfRefused Numbered (open_refusal bs)
  unfolding open_refusal AllSo
  numbered_open = first_so Numbered (header_refusal bs ∷ take_symbols_check bs ∷ []) (numbered_header, (numbered_words, tt))

  pub numbered_take : (messages marks : List ℕ) → IfRefused Numbered (take_refusal bs messages marks)
  unfolding take_refusal AllSo
  numbered_take messages marks =
      let h = header bs in
      let k = h.words * message_length h.code in
      first_so Numbered (header_refusal bs ∷ output_length k (length messages) ∷ output_length h.words (length marks) ∷ take_symbols_check bs ∷ [])
      (numbered_header, (numbered_output k (length messages), (numbered_output h.words (length marks), (numbered_words, tt))))
