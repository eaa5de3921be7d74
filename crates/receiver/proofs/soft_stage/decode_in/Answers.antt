-- The whole codeword is written, and the outcome is told; the tables are those of the code. Assumes nothing.
use mathlib.Core.Path.{ap, ◌∙◌}
use mathlib.Core.Logic.{inr}
use Rattle.chase.specs.Soft.{soft_stage, soft_written}
use Rattle.refusal.specs.Named.{code_of}
use Rattle.refusal.specs.declared.Code as refusal
use Rattle.receiver.proofs.Tellings.{written_whole, answer_told}
use Rattle.receiver.proofs.soft_stage.decode_in.Goals as goal

pub returns : goal.returns
returns c =
    let a = c.args in
    let w = a.word.now in
    let d = c.decode_word in
    let written = d.ensures.out ∙ written_whole _ a.codeword.now in
    let same = c.filled-tables.ensures in
    record {
      answer =
          answer_told w.p w.symbols.now _ a.codeword.now d.result.best _ _ c.tell.result written d.ensures.answer.0 c.tell.ensures
          ∙ ap (λ (k : refusal.Code). inr (soft_stage (code_of k) w.p w.symbols.now)) same;
      codeword = written ∙ ap (λ (k : refusal.Code). soft_written (soft_stage (code_of k) w.p w.symbols.now) a.codeword.now) same;
    }
