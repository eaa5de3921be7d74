-- The codeword is written where the search found one, from there on. Assumes nothing.
use mathlib.Core.Path.{sym, ◌∙◌}
use Rattle.receiver.proofs.Tellings.{written_none, written_some}
use Rattle.receiver.proofs.soft_stage.decode_word.Goals as goal

pub returns-in-Some-clause-out : goal.returns-in-Some-clause-out
returns-in-Some-clause-out c =
    let w = c.args.search.now.word.now in
    c.write_word.ensures
    ∙ written_some w.p w.symbols.now _ c.args.from c.args.out.now _ _ c.in-Some.pick c.run-o.ensures.0 (sym c.in-Some.ensures)

pub returns-in_default-clause-out : goal.returns-in_default-clause-out
returns-in_default-clause-out c =
    let w = c.args.search.now.word.now in
    written_none w.p w.symbols.now _ c.args.from c.args.out.now _ _ c.run-o.ensures.0 (sym c.in_default.ensures)
