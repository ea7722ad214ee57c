use Rattle.std.proofs.Common.{◌*◌, ◌/◌, ◌%◌, ◌^◌, ◌<◌, true, get_or, ◌∙◌, arith}
use lib.Bits.{bit_or}
use Rattle.std.proofs.lemmas.Nat.{or_lt, mod_below}
use Rattle.std.proofs.lemmas.List.{length-set}
use Rattle.bits.proofs.Digits.{bit_added}
use Rattle.bits.proofs.Lists.{fit-set, in_put}
use Rattle.bits.proofs.Words.insert.Goals as goal

pub invariant_of-self : goal.invariant_of-self
invariant_of-self g c =
    let s = c.args.self.now in
    let i = c.args.c / 64 in
    let m = (1 * 2 ^ (c.args.c % 64)) % 2 ^ 64 in
    let v = bit_or (get_or s.words i 0) m in
    let fits : v < 2 ^ 64 = or_lt 64 (get_or s.words i 0) m (s.fits i) (mod_below (1 * 2 ^ (c.args.c % 64)) (2 ^ 64) (omega arith)) in
    record { whole = length-set s.words i v ∙ s.whole; fits = fit-set s.words i v fits s.fits }

pub returns : goal.returns
returns g c k =
    let s = c.args.self.now in
    let w = s.whole in
    in_put s.words c.args.c _ true (omega (arith, c.requires)) (λ b l. bit_added (get_or s.words (c.args.c / 64) 0) (c.args.c % 64) b (omega arith)) k
