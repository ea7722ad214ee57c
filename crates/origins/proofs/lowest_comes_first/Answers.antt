use Rattle.origins.proofs.Reach.{begins}
use Rattle.origins.proofs.Walks.{from_lowest_lem}
use Rattle.origins.proofs.lowest_comes_first.Goals as goal

pub returns : goal.returns
returns c = record { means = begins c.args.set.now c.args.reach; order = from_lowest_lem c.args.set.now c.args.reach }
