use Rattle.std.proofs.Common.{get_or, ap, arith}
use Rattle.std.proofs.lemmas.Int.{ints}
use Rattle.tree.specs.Number.{entries}
use Rattle.tree.proofs.Spots.{size_is, step_left, step_right}
use Rattle.tree.proofs.Tree.up.Goals as goal

pub on_circle-requires-clause-narrow : goal.on_circle-requires-clause-narrow
on_circle-requires-clause-narrow c = omega (arith, size_is c.args.self.now.width c.args.l (omega arith) (omega arith))

pub on_circle-requires-else-i-l-eq0-clause-narrow : goal.on_circle-requires-else-i-l-eq0-clause-narrow
on_circle-requires-else-i-l-eq0-clause-narrow c = omega (arith, size_is c.args.self.now.width c.args.l (omega arith) (omega arith))

pub returns-then-i-l-eq0 : goal.returns-then-i-l-eq0
returns-then-i-l-eq0 c =
    let k = c.args.self.now.width in
    let s = size_is k c.args.l (omega arith) (omega arith) in
    step_left k (entries c.args.self.now.table.now) c.args.l c.args.i c.args.n _ _ _ (omega arith) s.0 c.on_circle.ensures c.if-i-l-eq0.true
    (omega (arith, ints, s.0, s.1, ap (λ x. get_or c.args.self.now.table.now x 0) c.spot.ensures))

pub returns-else-i-l-eq0 : goal.returns-else-i-l-eq0
returns-else-i-l-eq0 c =
    let k = c.args.self.now.width in
    let s = size_is k c.args.l (omega arith) (omega arith) in
    step_right k (entries c.args.self.now.table.now) c.args.l c.args.i c.args.n _ _ _ (omega arith) s.0 c.on_circle-else-i-l-eq0.ensures c.if-i-l-eq0.false
    (omega (arith, ints, ap (λ x. get_or c.args.self.now.table.now x 0) c.spot.ensures))
