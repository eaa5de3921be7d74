-- The words so far are answered. Assumes nothing.
use Rattle.take_format.proofs.takes.Batches.{Few, Done}
use Rattle.refusal.specs.Named.{code_of}
use Rattle.receiver.specs.Answer.{totals_told}
use Rattle.receiver.specs.Held.{code_in}
use Rattle.receiver.proofs.all_words.decode_all.Given as goal

abbrev pub invariant-loop-w : goal.invariant-loop-w
invariant-loop-w l = Done (code_of (code_in l.tables)) l.p l.w l.symbols l.messages l.marks (totals_told l.totals) × Few l.w (totals_told l.totals)
