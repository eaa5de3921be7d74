-- The fields one behind the other. Assumes nothing.
use Rattle.receiver.specs.Answer.{totals_told}
use Rattle.listing.proofs.Texts.{then, said}
use Rattle.listing.proofs.Rows.{totals_text}
use Rattle.listing.proofs.lines.totals.Goals as goal

pub returns : goal.returns
returns c =
    said (then (then (then (then c.number.ensures c.number-2.ensures) c.number-3.ensures) c.number-4.ensures) c.number-5.ensures)
    (totals_text (totals_told c.args.k))
