-- The fields one behind the other. Assumes nothing.
use Rattle.std.proofs.Common.{ℕ, ap, ◌∙◌, ◌++◌}
use Rattle.refusal.specs.Checked.{refusal_of}
use Rattle.listing.specs.Text.{ascii, decimal}
use Rattle.listing.proofs.Texts.{then, said}
use Rattle.listing.proofs.Rows.{field, refusal_text}
use Rattle.listing.proofs.lines.refused.Goals as goal

pub returns : goal.returns
unfolding ascii
returns c =
    said (then (then c.characters.ensures c.number-2.ensures) c.number-3.ensures)
    (ap (λ (n : ℕ). (ascii "refused " ++ field (decimal n) 32) ++ field (decimal c.args.r.place) 10) c.number.ensures.value
    ∙ refusal_text (refusal_of c.args.r))
