use Rattle.std.proofs.Common.{◌^◌, ◌≤◌, arith, pow_mono}
use Rattle.spread.proofs.Part.whole.Goals as goal

pub invariant_of-result : goal.invariant_of-result
invariant_of-result c =
    let m : 2 ^ c.args.width ≤ 2 ^ 10 = pow_mono c.requires in
    record { narrow = c.requires; apart = omega arith; span = omega arith }
