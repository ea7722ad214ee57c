use Rattle.bits.proofs.Lists.{in_none}
use Rattle.bits.proofs.Words.none.Goals as goal

pub returns : goal.returns
returns g c k = in_none g.row.N k
