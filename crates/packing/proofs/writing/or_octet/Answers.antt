use Rattle.std.proofs.Common.{arith}
use Rattle.packing.proofs.Stands.{or_at, or_past}
use Rattle.packing.proofs.writing.or_octet.Goals as goal

pub returns-then-k-out-clause-bits : goal.returns-then-k-out-clause-bits
returns-then-k-out-clause-bits c = λ x h. or_at c.args.out.now c.args.k c.args.bits x (omega arith)

pub returns-else-k-out-clause-bits : goal.returns-else-k-out-clause-bits
returns-else-k-out-clause-bits c = λ x h. or_past c.args.out.now c.args.k c.args.bits x (omega arith)
