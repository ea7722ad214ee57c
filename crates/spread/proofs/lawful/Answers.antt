use Rattle.tree.proofs.Laws.{writing}
use Rattle.spread.proofs.lawful.Goals as goal

pub returns : goal.returns
returns c = writing
