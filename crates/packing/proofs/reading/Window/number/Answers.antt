use Rattle.std.proofs.Common.{◌≡◌, ◌+◌, ◌-◌, ◌*◌, ◌%◌, ◌^◌, ◌<◌, ◌≤◌, sym, subst, arith, pow_mono}
use Rattle.std.proofs.lemmas.Nat.{shr_below, mod_below}
use Rattle.packing.proofs.Fields.{field_in}
use Rattle.packing.proofs.reading.Window.number.Goals as goal

pub overflow_cast-result-2 : goal.overflow_cast-result-2
overflow_cast-result-2 c =
    let w = c.args.wide.bits in
    let v = c.args.self.bits * 2 ^ (c.args.at - c.args.self.base) in
    let e : w + (64 - w) ≡ 64 = omega arith in
    let m : 2 ^ w ≤ 2 ^ 10 = pow_mono c.args.wide.narrow in
    let b : v % 2 ^ 64 < 2 ^ (w + (64 - w)) = subst (λ n. v % 2 ^ 64 < 2 ^ n) (sym e) (mod_below v (2 ^ 64) (omega arith)) in
    record { fits = omega (arith, shr_below (v % 2 ^ 64) w (64 - w) b) }

pub returns : goal.returns
returns c = field_in c.args.self.contents.now c.args.self.base c.args.at c.args.wide.bits c.args.self.bits c.args.self.shows c.requires.from c.requires.within
