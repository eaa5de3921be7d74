-- Where there is room, the character is stored there. Assumes nothing.
use Rattle.std.proofs.Common.{refl}
use Rattle.listing.proofs.Texts.{stored}
use Rattle.listing.proofs.text.Text.character.Goals as goal

pub returns-then-self : goal.returns-then-self
returns-then-self c = let s = stored c.args.self.now.bytes.now c.args.self.now.at c.args.c c.if-self.true in record { same = refl; text = s.0; rest = s.1 }
