-- The words so far are answered. Assumes nothing.
use Prim.Native.Nat.{ℕ, suc, ◌+◌, ◌-◌, ◌*◌, ◌≤◌, ◌<◌}
use native.Mathlib.Nat.{suc-mul, mul-le-mul_right}
use native.Mathlib.Omega.{arith}
use mathlib.Core.Path.{◌≡◌, ap, ap₂, sym, subst, ◌∙◌}
use mathlib.Core.List.{List}
use lib.ListN.{length, take, drop, length-take, length-drop}
use lib.Pow.{pow_mono}
use Rattle.bch.specs.Code.{Code, message_length}
use Rattle.bch.proofs.codes.Entries.{below_take, below_drop}
use Rattle.chase.specs.Soft.{soft_stage}
use Rattle.chase.specs.Word.{Symbols}
use Rattle.take_format.specs.Batch.{message, mark_byte, counted_of}
use Rattle.take_format.proofs.checks.RefusalLaws.{WordsChecked}
use Rattle.take_format.proofs.takes.Batches.{Few, few_more, few_capped, done_start, done_more}
use Rattle.take_format.proofs.takes.PromiseLaws.{message_long, tries_most}
use Rattle.refusal.specs.Named.{code_of}
use Rattle.receiver.specs.Answer.{totals_told, byte_of}
use Rattle.receiver.specs.Held.{code_in}
use Rattle.receiver.specs.Search.{stage_of}
use Rattle.receiver.proofs.Marks.{number_told}
use Rattle.receiver.proofs.all_words.decode_all.Goals as goal

-- word w of W is inside
room : (w W n : ℕ) → w < W → w * n + n ≤ W * n
room w W n h =
    let k : suc w * n ≤ W * n = mul-le-mul_right n h in
    omega (arith, suc-mul w n)

-- the part for it
same-part : (w n size : ℕ) (xs : List ℕ) → size ≡ n → take (w * size + size - w * size) (drop (w * size) xs) ≡ take n (drop (w * n) xs)
same-part w n size xs e =
    let k : w * size + size - w * size ≡ n = omega arith in
    ap₂ (λ (k x : ℕ). take k (drop x xs)) k (ap (λ (x : ℕ). w * x) e)

-- ---- of numbers

words-few : (w W : ℕ) → w < W → W ≤ 65535 → w + 1 ≤ 65536
words-few w W h most = omega arith

checked : (n r k : ℕ) → n ≡ r + k → r ≤ n
checked n r k e = omega arith

at_most : (t x k : ℕ) → t ≡ x → x ≤ k → k ≤ 64 → t ≤ 64
at_most t x k e h most = omega arith

begins : (w W k : ℕ) {to M : ℕ} → w < W → to ≡ w * k → M ≡ W * k → to ≤ M
begins w W k h e f = omega (arith, room w W k h)

-- as many numbers from there on as are read for word w
inside : (w W n size : ℕ) (xs : List ℕ) → w < W → size ≡ n → length xs ≡ W * n
    → length (take (w * size + size - w * size) (drop (w * size) xs)) ≡ n
inside w W n size xs h e l =
    ap length (same-part w n size xs e) ∙ omega (arith, l, room w W n h, length-take n (drop (w * n) xs), length-drop (w * n) xs)

-- the part that is read for word w is n symbols
word : {c : Code} {p w W : ℕ} {xs ms ks : List ℕ} → WordsChecked c p W xs ms ks → w < W → (n : ℕ) → n ≡ c.n
    → (length (take (w * n + n - w * n) (drop (w * n) xs)) ≡ c.n) × Symbols (take (w * n + n - w * n) (drop (w * n) xs))
word {c} {p} {w} {W} {xs} ok here n e =
    (inside w W c.n n xs here e ok.long, below_take 32 (w * n + n - w * n) (drop (w * n) xs) (below_drop 32 (w * n) xs ok.are_symbols))

pub loop-w-init : goal.loop-w-init
loop-w-init c =
    let a = c.args in (
      done_start (code_of (code_in a.tables.now)) a.p a.symbols.now a.messages.now a.marks.now,
      record { words = omega arith; sures = omega arith; fairs = omega arith; losts = omega arith; tries = omega arith },
    )

pub new-word-requires : goal.new-word-requires
new-word-requires c =
    let ok = c.requires.words_checked in
    let made = c.args.tables.now.filled.fielded.made in
    let part = word ok c.loop-w-test.true c.length-n.result c.length-n.ensures in
    (part.1, omega (arith, part.0, made.lawful), omega (arith, made), omega (arith, part.0, made), ok.depth, omega (arith, part.0, made.long, ok.depth))

pub decode_word-o-requires : goal.decode_word-o-requires
decode_word-o-requires c =
    let l = c.loop-w in
    let ok = c.requires.words_checked in
    let code = code_in c.args.tables.now in
    let k : code.k ≡ message_length (code_of code) = omega (arith, c.args.tables.now.filled.fielded.made.is_n) in
    let there =
    inside l.w _ _ c.message_length-k.result l.messages c.loop-w-test.true (c.message_length-k.ensures ∙ k) (omega (arith, ok.messages_room)) in
    there ∙ sym k

pub loop-w-preserved : goal.loop-w-preserved
loop-w-preserved c =
    let a = c.args in
    let code : Code = code_of (code_in a.tables.now) in
    let long : ℕ = message_length code in
    let xs : List ℕ = a.symbols.now in
    let l = c.loop-w in
    let n = c.length-n in
    let k = c.message_length-k in
    let w = c.decode_word-o in
    let m = c.mark-mark in
    let made = a.tables.now.filled.fielded.made in
    let ok = c.requires.words_checked in
    let h = c.loop-w-test.true in
    let fits = checked _ _ _ made.is_n in
    let e = same-part l.w code.n n.result xs n.ensures in
    let ss = take (l.w * n.result + n.result - l.w * n.result) (drop (l.w * n.result) xs) in
    let part = word ok h n.result n.ensures in
    let is : stage_of a.tables.now c.new-word.result ≡ soft_stage code a.p ss = ap₂ (soft_stage code) c.new-word.ensures.p c.new-word.ensures.symbols in
    let answered = rw is at w.ensures.answer in
    let filled = rw is at w.ensures.message in
    let tried = tries_most code made.lawful fits a.p ss part.0 part.1 in
    let counted = counted_of (totals_told l.totals) (byte_of m.result) w.result.tries in
    let few =
    few_more l.w (totals_told l.totals) l.invariant.1 (byte_of m.result) w.result.tries
    (at_most _ _ _ answered.1 tried (pow_mono ok.depth)) in
    let told : totals_told c.add-totals.result ≡ counted =
    c.add-totals.ensures ∙ few_capped (l.w + 1) counted few (words-few _ _ h c.requires.few) in
    let written = ap length filled ∙ message_long code made.lawful fits a.p ss part.0 part.1 in
    let to : l.w * k.result ≡ l.w * long = ap (λ (x : ℕ). l.w * x) (omega (arith, k.ensures, made.is_n)) in
    let done =
    done_more code a.p xs l.w l.messages l.marks (totals_told l.totals) l.invariant.0 (l.w * k.result) (byte_of m.result) w.result.tries _ _ to
    (begins l.w _ long h to (omega (arith, ok.messages_room))) (omega arith)
    (filled ∙ ap (λ (ss : List ℕ). message code (soft_stage code a.p ss)) e) written
    (ap byte_of m.ensures ∙ answered.0 ∙ ap (λ (ss : List ℕ). mark_byte (soft_stage code a.p ss).mark) e)
    (answered.1 ∙ ap (λ (ss : List ℕ). (soft_stage code a.p ss).tries) e) in
    rw (number_told m.result) (rw told done, subst (Few (l.w + 1)) (sym told) few)
