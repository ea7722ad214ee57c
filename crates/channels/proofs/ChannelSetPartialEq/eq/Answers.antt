use Rattle.channels.proofs.Views.{words_decide}
use Rattle.channels.proofs.ChannelSetPartialEq.eq.Goals as goal

pub returns-clause-decides : goal.returns-clause-decides
returns-clause-decides c = words_decide _ _ _ c.eq.ensures
