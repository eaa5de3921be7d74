-- The output stands at the front of its buffer. Assumes nothing.
use Rattle.std.proofs.Common.{ap, ◌∙◌, arith, rules, length, ◌≤◌}
use Rattle.listing.specs.Takelist.{takelist, over}
use Rattle.listing.proofs.Texts.{whole}
use Rattle.listing.proofs.list.Goals as goal

pub returns-clause-text : goal.returns-clause-text
returns-clause-text c =
    let t = c.new-out in
    let room : 900000 ≤ length c.args.text.now = search rules in
    (whole t.result c.output.new.text (takelist c.args.input.now) t.ensures.at c.output.ensures.text
    (omega (arith, room, c.output.ensures.upper_bound, ap length t.ensures.bytes)) (search rules)).1
    ∙ ap (over (takelist c.args.input.now)) t.ensures.bytes
