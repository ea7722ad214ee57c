use Rattle.std.proofs.Common.{◌<◌, ap, arith}
use Rattle.packing.specs.declared.Range.TheVariants.{R512}
use Rattle.ranges.specs.RangeLaws.{base-below}
use Rattle.ranges.proofs.reading.Base.of.Goals as goal
use Rattle.ranges.proofs.reading.Base.of.Goals.{in-R1024, in-R512}

pub invariant_of-result : goal.invariant_of-result
invariant_of-result c =
    let low : c.match-range.result.0 < 1024 =
    elim c.match-range.branch [
      | in-R1024 w ↦ omega (arith, ap (λ x. x.0) w.result-is)
      | in-R512 w ↦ omega (arith, ap (λ x. x.0) w.result-is, w.origin_of.ensures, base-below R512 c.args.contents.now)
    ] in
    record { low = low }
