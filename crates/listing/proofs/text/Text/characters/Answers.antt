-- What has room is copied behind the rest. Assumes nothing.
use Rattle.std.proofs.Common.{rules, refl, arith}
use Rattle.listing.proofs.Texts.{copied}
use Rattle.listing.proofs.text.Text.characters.Goals as goal

pub returns : goal.returns
returns c =
    let t = c.args.self.now in
    let p = copied t.bytes.now c.args.new.now c.copy.new.out t.at c.min-count.result (omega arith) (search rules) (search rules) in
    record { same = refl; text = p.0; rest = p.1 }
