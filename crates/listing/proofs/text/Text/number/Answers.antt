-- The digits, and the character behind them. Assumes nothing.
use Rattle.std.proofs.Common.{refl}
use Rattle.listing.proofs.Texts.{then, put_written}
use Rattle.listing.proofs.text.Text.number.Goals as goal

pub returns : goal.returns
returns c = then (put_written refl c.digits-self.ensures) c.character.ensures
