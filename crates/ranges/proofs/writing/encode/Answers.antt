use Rattle.std.proofs.Common.{◌≤◌, sym, subst, arith}
use Rattle.packing.proofs.Counts.{slots_small, width_narrow}
use Rattle.packing.specs.Ranges.{width_of}
use Rattle.tree.specs.Written.{full}
use Rattle.ranges.specs.Writing.{Planted}
use Rattle.ranges.specs.RangeLaws.{has-length}
use Rattle.ranges.proofs.Encodes.{base-low, count, circle, front, packable, encoded, refused}
use Rattle.ranges.proofs.writing.encode.Goals as goal

pub others_from-distances-requires : goal.others_from-distances-requires
others_from-distances-requires c = base-low c.args.range c.args.set.now c.args.base c.requires.base

pub returns-then-size-slots : goal.returns-then-size-slots
returns-then-size-slots c =
    let n = count c.args.range c.args.set.now c.args.base c.requires.base c.others_from-distances.result c.others_from-distances.ensures in
    refused c.args.range c.args.set.now c.args.base c.requires.base c.args.len c.args.out.now (omega (arith, c.size.ensures, c.slots.ensures.value, c.if-size-slots.true))

pub plant-n-requires : goal.plant-n-requires
plant-n-requires c =
    let w = c.top_width.ensures in
    record {
      narrow = omega (arith, width_narrow c.args.range);
      few = omega (arith, c.size.ensures, c.slots.ensures.value, c.if-size-slots.false, slots_small c.args.range c.args.len);
      circle = λ d t. subst (λ k. (1 ≤ d) × (d ≤ full k)) (sym w) (circle c.args.range c.args.set.now c.args.base c.requires.base c.others_from-distances.result c.others_from-distances.ensures d t);
    }

-- the table has the tree of the set
pub pack-requires : goal.pack-requires
pack-requires c =
    let r = c.args.range in
    let s = c.args.set.now in
    let o = c.args.base in
    let ds = c.others_from-distances.result in
    let table = c.plant-n.new.table in
    let tree : Planted (width_of r) ds table = subst (λ k. Planted k ds table) c.top_width.ensures c.plant-n.ensures.tree in
    let f = front r s o c.requires.base c.tail.result c.head.result c.tail.ensures c.head.ensures.value in
    packable r s o c.requires.base ds c.others_from-distances.ensures table c.plant-n.result c.args.len tree c.plant-n.ensures.count
    (omega (arith, c.plant-n.ensures.count, c.size.ensures, c.slots.ensures.value, c.if-size-slots.false)) c.head.result (has-length r c.args.len c.requires.length) f.1

pub returns : goal.returns
returns c =
    let r = c.args.range in
    let s = c.args.set.now in
    let o = c.args.base in
    let ds = c.others_from-distances.result in
    let table = c.plant-n.new.table in
    let tree : Planted (width_of r) ds table = subst (λ k. Planted k ds table) c.top_width.ensures c.plant-n.ensures.tree in
    encoded r s o c.requires.base ds c.others_from-distances.ensures table c.plant-n.result c.args.len tree c.plant-n.ensures.count
    (omega (arith, c.plant-n.ensures.count, c.size.ensures, c.slots.ensures.value, c.if-size-slots.false)) c.tail.result c.head.result c.args.out.now c.pack.new.out c.tail.ensures c.head.ensures.value c.pack.ensures
