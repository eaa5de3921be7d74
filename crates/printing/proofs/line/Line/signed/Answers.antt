-- By the sign: the digits, or a hyphen and the digits. Assumes nothing.
use Rattle.std.proofs.Common.{ℕ, ◌-◌, ◌≤◌, ◌≡◌, ◌∷◌, List, length, set, ap, ◌∙◌, arith}
use mir.Facts.{to_z-of_z}
use Rattle.std.specs.Fmt.{decimal as std-decimal}
use Rattle.std.proofs.lemmas.Fmt.{length-decimal-le}
use Rattle.listing.specs.Text.{decimal, signed}
use Rattle.listing.proofs.Decimals.{decimal_lem, below_zero, not_below}
use Rattle.listing.proofs.Rows.{margin_small}
use Rattle.printing.proofs.Lines.{Ending, Field, hyphen, ending_said, settled}
use Rattle.printing.proofs.Widths.{signed_most}
use Rattle.printing.proofs.line.Line.signed.Goals.{then-x-lt0, else-x-lt0}
use Rattle.printing.proofs.line.Line.signed.Goals as goal

-- a number of 32 bits has 10 digits at most
short : (x : ℕ) → x ≤ 2147483648 → length (std-decimal x) ≤ 10
short x h = length-decimal-le 10 x (omega arith) (omega (arith, h)) (omega (arith, h))

pub write_digits-start-requires : goal.write_digits-start-requires
write_digits-start-requires c =
    (omega (arith, short c.from.result (omega (arith, c.unsigned_abs.ensures.bound, c.from.ensures)), c.requires.0), omega arith)

pub overflow_sub-start : goal.overflow_sub-start
overflow_sub-start c =
    omega (arith, short c.from.result (omega (arith, c.unsigned_abs.ensures.bound, c.from.ensures)), c.write_digits-start.ensures.start, c.requires.0)

-- the number ends where it should
ends : (c : goal.After-min-self) → Ending (set c.args.self.now.bytes (c.args.self.now.at - 1) c.args.behind) (c.args.self.now.at - 1) (signed c.args.x)
    c.if-x-lt0.self.1.0 c.if-x-lt0.start
ends c =
    let line = c.args.self.now in
    let w = c.write_digits-start in
    let e = w.ensures in
    let old = set line.bytes (line.at - 1) c.args.behind in
    let n = c.from.result in
    let digits : std-decimal n ≡ decimal n = decimal_lem n (omega arith) in
    let value = ap decimal (c.from.ensures ∙ c.unsigned_abs.ensures.value) in
    let same = ap signed (to_z-of_z c.ranges.x) in
    let few = short n (omega (arith, c.unsigned_abs.ensures.bound, c.from.ensures)) in
    let p : Ending old (line.at - 1) (std-decimal n) w.new.buf w.result = record { ends = e.start; text = e.written; before = e.before } in
    elim c.if-x-lt0.branch [
      | then-x-lt0 b ↦ rw (b.self-is, b.start-is)
          (ending_said (hyphen old (std-decimal n) w.new.buf (line.at - 1) w.result 45 (omega (arith, few, e.start, c.requires.0)) (omega arith) p)
          (ap (λ (t : List ℕ). 45 ∷ t) (digits ∙ value) ∙ below_zero _ b.if-x-lt0.true ∙ same))
      | else-x-lt0 b ↦ rw (b.self-is, b.start-is) (ending_said p (digits ∙ value ∙ not_below _ b.if-x-lt0.false ∙ same))
    ]

put : (c : goal.After-min-self) → (let line = c.args.self.now in
    Field line.bytes line.at c.args.width (signed c.args.x) c.args.behind c.if-x-lt0.self.1.0 c.min-self.result)
put c =
    let line = c.args.self.now in
    let small = margin_small _ c.ranges.x in
    settled line.bytes (signed c.args.x) c.if-x-lt0.self.1.0 line.at c.if-x-lt0.start c.args.width c.min-self.result c.args.behind c.requires.0
    (omega arith) line.spaces c.requires.1 (signed_most 19 c.args.x (omega (arith, small)) small) (ends c) c.min-self.ensures

pub invariant_of-self : goal.invariant_of-self
invariant_of-self c = record { spaces = (put c).spaces; inside = omega (arith, (put c).inside, c.args.self.now.inside) }

pub returns-clause-text : goal.returns-clause-text
returns-clause-text c = (put c.before).text

pub returns-clause-room : goal.returns-clause-room
returns-clause-room c = (put c.before).room
