use Rattle.std.proofs.Common.{◌≡◌, ◌-◌, ap, ◌∙◌, arith}
use Rattle.packing.specs.Ranges.{width_of}
use Rattle.packing.specs.Fields.{width, level}
use Rattle.packing.proofs.Widths.{width_one, width_bounds, level_is, level-one}
use Rattle.packing.proofs.Counts.{width_narrow}
use Rattle.packing.proofs.Range.width_at.Goals as goal

pub overflow_sub-result : goal.overflow_sub-result
overflow_sub-result c =
    let K = width_of c.args.self in
    let e : level K c.args.i ≡ c.ilog2.result = level-one K c.args.i c.ilog2.result c.requires.first c.requires.inside c.ilog2.ensures.power_le c.ilog2.ensures.next_power_gt in
    omega (arith, (level_is K c.args.i c.requires.first c.requires.inside).below)

pub returns : goal.returns
returns c =
    let K = width_of c.args.self in
    ap (λ k. k - c.ilog2.result) c.top_width.ensures ∙ width_one K c.args.i c.ilog2.result c.requires.first c.requires.inside c.ilog2.ensures.power_le c.ilog2.ensures.next_power_gt

pub invariant_of-result : goal.invariant_of-result
invariant_of-result c =
    let K = width_of c.args.self in
    let e : c.top_width.result - c.ilog2.result ≡ width K c.args.i =
    ap (λ k. k - c.ilog2.result) c.top_width.ensures ∙ width_one K c.args.i c.ilog2.result c.requires.first c.requires.inside c.ilog2.ensures.power_le c.ilog2.ensures.next_power_gt in
    let b = width_bounds K c.args.i c.requires.first c.requires.inside in
    record { some = omega (arith, b.0); narrow = omega (arith, b.1, width_narrow c.args.self) }
