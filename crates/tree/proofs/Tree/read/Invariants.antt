use Rattle.tree.specs.Number.{entries}
use Rattle.tree.proofs.Lifts.{Risen}
use Rattle.tree.proofs.Tree.read.Given as goal

abbrev pub invariant-loop-l : goal.invariant-loop-l
invariant-loop-l l = Risen l.self.width (entries l.self.table.now) l.l l.out
