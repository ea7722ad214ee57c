use Rattle.std.proofs.Common.{true, ◌∙◌, arith}
use Rattle.channels.proofs.Views.{set_is, holds-bits}
use Rattle.channels.proofs.ChannelSet.full.Goals as goal

pub returns : goal.returns
returns c = set_is _ (λ _. true) (λ k l. holds-bits _ k ∙ c.all.ensures k (omega arith))
