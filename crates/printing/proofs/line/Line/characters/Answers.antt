-- The characters, with the one behind them and the spaces before. Assumes nothing.
use Rattle.std.proofs.Common.{arith}
use Rattle.printing.proofs.Lines.{copied_field}
use Rattle.printing.proofs.line.Line.characters.Goals as goal

pub invariant_of-self : goal.invariant_of-self
invariant_of-self c =
    let a = c.args in
    let line = a.self.now in
    let q = c.requires in
    let f =
    copied_field line.bytes a.new.now c.copy_from_slice.new.self line.at a.width c.min-self.result a.behind q.0 (omega arith) line.spaces (q.1, q.2)
    c.copy_from_slice.ensures.after c.min-self.ensures in
    record { spaces = f.spaces; inside = omega arith }

pub returns-clause-text : goal.returns-clause-text
returns-clause-text c =
    let a = c.args in
    let line = a.self.now in
    let q = c.requires in (
    copied_field line.bytes a.new.now c.copy_from_slice.new.self line.at a.width c.min-self.result a.behind q.0 (omega arith) line.spaces (q.1, q.2)
    c.copy_from_slice.ensures.after c.min-self.ensures).text
