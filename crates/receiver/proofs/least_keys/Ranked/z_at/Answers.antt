-- A reliability is read off its symbol. Assumes nothing.
use native.Mathlib.Omega.{arith}
use mathlib.Core.Path.{sym, ◌∙◌}
use Rattle.chase.proofs.ranking.Keys.{reliability_at}
use Rattle.receiver.proofs.least_keys.Ranked.z_at.Goals as goal

pub returns : goal.returns
returns c = (c.from.ensures ∙ sym (reliability_at c.args.self.now.symbols.now c.args.x), omega arith)
