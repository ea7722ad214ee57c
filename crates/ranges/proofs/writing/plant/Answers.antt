use Rattle.std.proofs.Common.{rules}
use Rattle.ranges.proofs.Scatters.{planted}
use Rattle.ranges.proofs.writing.plant.Goals as goal

pub returns : goal.returns
returns c =
    record {
      count = c.members-n.ensures.count;
      tree = planted c.args.k c.args.distances.now c.requires.circle c.requires.narrow c.requires.few c.write.result _ _ c.args.table.now c.write.new.table (search rules) c.told-table c.write.ensures.outcome;
    }
