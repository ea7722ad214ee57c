use Rattle.std.proofs.Common.{ap, arith}
use Rattle.packing.specs.Ranges.{width_of}
use Rattle.packing.specs.Reading.{slots_in}
use Rattle.packing.proofs.Widths.{before-none}
use Rattle.packing.proofs.reading.Numbers.of.Goals as goal

pub invariant_of-result : goal.invariant_of-result
invariant_of-result c =
    record {
      first = omega arith;
      room = omega (arith, c.slots.ensures.value, ap (slots_in c.args.range) c.over.ensures.same);
      place = omega (arith, c.start.ensures, before-none (width_of c.args.range));
      shown = omega arith;
    }
