use Rattle.std.proofs.Common.{take, slice_set, ap, ◌∙◌, arith}
use Rattle.formats.specs.BitMap0.{map_octet}
use Rattle.formats.proofs.Prefix.{front_more}
use Rattle.formats.proofs.bitmap0.put_map.Goals as goal

pub loop-j-preserved : goal.loop-j-preserved
loop-j-preserved c =
    ap (slice_set c.loop-j.octet-items c.loop-j.j) c.eight_from.ensures ∙ front_more (map_octet c.args.set.now) c.loop-j.octet-items (take 16 c.args.out.now) c.loop-j.j (omega arith) c.loop-j.invariant
