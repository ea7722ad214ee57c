use Rattle.std.proofs.Common.{◌≡◌, Ok, sym, ap, ◌∙◌, ap₂}
use Rattle.channels.specs.Sets.{set_of}
use Rattle.packing.specs.Reading.{unpacked}
use Rattle.tree.specs.Number.{entries}
use Rattle.ranges.specs.Ranges.{base_in, base_held, member, range_read}
use Rattle.ranges.proofs.Gathers.{there, table-circle, table-set}
use Rattle.ranges.proofs.reading.decode.Goals as goal

pub stand_for-requires-clause-there : goal.stand_for-requires-clause-there
stand_for-requires-clause-there c =
    let r = c.args.range in
    let os = c.args.contents.now in
    let n = c.in_ok-n.n in
    let t = c.in-Ok.tree in
    let e = c.in_ok-n.ensures in
    let is = c.in-Ok.ensures in
    let ok : unpacked r os ≡ Ok n = sym e.value in
    rw is.0 (there r os c.unpack.new.numbers n ok e.meaning.stands t.width (is.1 ∙ c.top_width.ensures) c.unpack.array_long)

pub stand_for-requires-clause-circle : goal.stand_for-requires-clause-circle
stand_for-requires-clause-circle c i a b =
    let r = c.args.range in
    let os = c.args.contents.now in
    let n = c.in_ok-n.n in
    let t = c.in-Ok.tree in
    let e = c.in_ok-n.ensures in
    let is = c.in-Ok.ensures in
    let ok : unpacked r os ≡ Ok n = sym e.value in
    rw is.0 (table-circle r os c.unpack.new.numbers n ok e.meaning.stands t.width (is.1 ∙ c.top_width.ensures) i a b)

pub returns : goal.returns
returns c =
    let r = c.args.range in
    let os = c.args.contents.now in
    let n = c.in_ok-n.n in
    let t = c.in-Ok.tree in
    let e = c.in_ok-n.ensures in
    let is = c.in-Ok.ensures in
    let b = c.of.ensures in
    let ok : unpacked r os ≡ Ok n = sym e.value in
    ap Ok (c.stand_for.ensures
    ∙ ap₂ (λ o h. set_of (member o h t.width (entries t.table.now) n)) b.channel b.held
    ∙ rw is.0 (table-set r os c.unpack.new.numbers n ok e.meaning.stands t.width (is.1 ∙ c.top_width.ensures) (base_in r os) (base_held r os)))
    ∙ ap (range_read r os) (sym ok)
