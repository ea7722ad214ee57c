use Rattle.std.proofs.Common.{◌≡◌, ◌%◌, ap, ◌∙◌, arith}
use Rattle.channels.specs.Sets.{turned, size_of}
use Rattle.channels.proofs.Views.{changed}
use Rattle.origins.proofs.Seen.{size_turned}
use Rattle.origins.proofs.turned_up.Goals as goal

pub returns : goal.returns
returns c =
    let s = c.args.set.now in
    let d = c.args.o % 1024 in
    let e : c.shift.new.self ≡ turned s d = changed d c.shift.result _ (turned s d) _ (omega arith) c.shift.ensures in
    record { value = e; size = ap size_of e ∙ size_turned s d (omega arith) }
