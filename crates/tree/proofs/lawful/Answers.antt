use Rattle.tree.proofs.Laws.{reading}
use Rattle.tree.proofs.lawful.Goals as goal

pub returns : goal.returns
returns c = reading
