use Rattle.std.proofs.Common.{◌∙◌}
use Rattle.std.proofs.lemmas.List.{length-take-le}
use Rattle.tree.specs.Number.{entries}
use Rattle.ranges.proofs.Gathers.{gathers_tree, read_when}
use Rattle.ranges.proofs.reading.Base.stand_for.Goals as goal

pub returns : goal.returns
returns c =
    let t = c.args.tree.now in
    let n = c.args.n in
    let us = c.numbers.new.out in
    c.gather.ensures
    ∙ gathers_tree c.args.self.channel c.args.self.held t.width n (entries t.table.now) us (c.numbers.auto.out ∙ length-take-le n _ c.requires.room)
    (read_when t.table.now t.width n _ us c.numbers.result _ c.requires.there (length-take-le n _ c.requires.room) c.numbers.ensures.answer c.numbers.ensures.after)
