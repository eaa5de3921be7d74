-- The digits, with the character behind them and the spaces before. Assumes nothing.
use Rattle.std.proofs.Common.{ℕ, ◌^◌, ◌≤◌, ◌<◌, ◌∷◌, ◌++◌, List, drop, length, ap, ◌∙◌, arith}
use Rattle.std.specs.Fmt.{decimal as std-decimal}
use Rattle.std.proofs.lemmas.Fmt.{length-decimal-le}
use Rattle.listing.proofs.Decimals.{decimal_lem}
use Rattle.printing.specs.Layout.{padded}
use Rattle.printing.proofs.Lines.{Field, settled}
use Rattle.printing.proofs.line.Line.number.Goals as goal

-- a number of 64 bits has 20 digits at most
short : (x : ℕ) → x < 2 ^ 64 → length (std-decimal x) ≤ 20
short x h = length-decimal-le 20 x (omega arith) (omega (arith, h)) h

put : (c : goal.After-min-self) → (let line = c.args.self.now in
    Field line.bytes line.at c.args.width (std-decimal c.args.x) c.args.behind c.write_digits-start.new.buf c.min-self.result)
put c =
    let line = c.args.self.now in
    let w = c.write_digits-start in
    settled line.bytes (std-decimal c.args.x) w.new.buf line.at w.result c.args.width c.min-self.result c.args.behind c.requires.0 (omega arith)
    line.spaces c.requires.1 (short c.args.x (omega arith)) (record { ends = w.ensures.start; text = w.ensures.written; before = w.ensures.before })
    c.min-self.ensures

pub write_digits-start-requires : goal.write_digits-start-requires
write_digits-start-requires c = (omega (arith, short c.args.x (omega arith), c.requires.0), omega arith)

pub invariant_of-self : goal.invariant_of-self
invariant_of-self c = record { spaces = (put c).spaces; inside = omega (arith, (put c).inside, c.args.self.now.inside) }

pub returns-clause-text : goal.returns-clause-text
returns-clause-text c =
    let line = c.args.self.now in
    (put c.before).text ∙ ap (λ (t : List ℕ). padded c.args.width t ++ (c.args.behind ∷ drop line.at line.bytes)) (decimal_lem c.args.x (omega arith))

pub returns-clause-room : goal.returns-clause-room
returns-clause-room c = (put c.before).room
