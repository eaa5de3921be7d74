-- The fields one behind the other, and the message by the mark. Assumes nothing.
use Rattle.std.proofs.Common.{rules, ap, ap₂, ◌≡◌, List, ℕ, ◌∷◌, []}
use lib.IntN.{ℤ}
use mir.Syntax.{w32}
use mir.Val.{SFits}
use mir.Facts.{to_z-of_z}
use Rattle.listing.specs.Text.{decimal, word_line, signed, bits_text, message_text}
use Rattle.listing.specs.Shown.{mark_of}
use Rattle.listing.specs.Written.{Written}
use Rattle.listing.specs.declared.text.Text.{Text}
use Rattle.listing.proofs.Texts.{then, said}
use Rattle.listing.proofs.Rows.{field, word_text, lost_piece, bits_piece}
use Rattle.listing.proofs.lines.LineRow.put.Goals.{in-Lost, in-Fair}
use Rattle.listing.proofs.lines.LineRow.put.Goals as goal

-- a character, and a number with a space behind it, by what they are
single : {b c : ℕ} {old now : Text} → Written old (b ∷ []) now → b ≡ c → Written old (c ∷ []) now
single p e = said p (ap (λ (k : ℕ). k ∷ []) e)

spaced : {x y b : ℕ} {old now : Text} → Written old (field (decimal x) b) now → x ≡ y → b ≡ 32 → Written old (field (decimal y) 32) now
spaced p e f = said p (ap₂ (λ (k c : ℕ). field (decimal k) c) e f)

pub returns : goal.returns
returns c = λ a s b.
    let i = c.args.index in
    let m = c.args.message.now in
    let fits : SFits w32 c.args.shown.margin = search rules in
    let margin = said c.signed.ensures (ap (λ (z : ℤ). field (signed z) 32) (to_z-of_z fits)) in
    let distance = spaced {y = c.args.shown.distance} c.number-2.ensures (search rules) (search rules) in
    let tries = spaced {y = c.args.shown.tries} c.number-3.ensures (search rules) (search rules) in
    let numbers = then (then (then (then (then c.number.ensures (said c.characters.ensures c.name_of.ensures)) c.character.ensures) distance) margin) tries in
    let end : (piece : List ℕ) → Written c.number-3.new.self piece c.match-shown.text → piece ≡ message_text (mark_of c.args.shown.mark) m
    → Written c.args.text.now (word_line i a m) c.character-2.new.self =
    λ piece p e. said (then (then numbers p) (single {c = 10} c.character-2.ensures (search rules))) (word_text i c.args.shown a m piece s e) in
    elim c.match-shown.branch [
      | in-Lost w ↦ end (45 ∷ []) (rw w.text-is w.character-in-Lost.ensures) (lost_piece _ m w.in-Lost.is)
      | in-Fair w ↦ end (bits_text m) (rw w.text-is (said w.characters-in-Fair.ensures (w.bits.ensures b))) (bits_piece _ m w.in-Fair.is)
    ]
