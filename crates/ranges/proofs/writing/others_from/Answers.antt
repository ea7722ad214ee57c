use Rattle.std.proofs.Common.{arith}
use Rattle.channels.proofs.Views.{changed}
use Rattle.ranges.proofs.Scatters.{others_are}
use Rattle.ranges.proofs.writing.others_from.Goals as goal

pub returns : goal.returns
returns c = others_are c.args.set.now c.turned_down-turned.result c.remove.new.self c.args.base c.turned_down-turned.ensures.value (changed 0 c.remove.result _ _ _ (omega arith) c.remove.ensures)
