use Rattle.bits.proofs.Sets.{in_all}
use Rattle.bits.proofs.Words.all.Goals as goal

pub returns : goal.returns
returns g c k l = in_all g.row.N k l
