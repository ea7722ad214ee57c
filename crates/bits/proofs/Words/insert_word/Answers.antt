use Rattle.std.proofs.Common.{◌^◌, ◌<◌, get_or, ◌∙◌, arith}
use lib.Bits.{bit_or}
use Rattle.std.proofs.lemmas.Nat.{or_lt}
use Rattle.std.proofs.lemmas.List.{length-set}
use Rattle.bits.proofs.Lists.{fit-set}
use Rattle.bits.proofs.Sets.{in_added}
use Rattle.bits.proofs.Words.insert_word.Goals as goal

pub invariant_of-self : goal.invariant_of-self
invariant_of-self g c =
    let s = c.args.self.now in
    let i = c.args.i in
    let v = bit_or (get_or s.words i 0) c.args.w in
    let fits : v < 2 ^ 64 = or_lt 64 (get_or s.words i 0) c.args.w (s.fits i) (omega arith) in
    record { whole = length-set s.words i v ∙ s.whole; fits = fit-set s.words i v fits s.fits }

pub returns : goal.returns
returns g c k = let w = c.args.self.now.whole in in_added c.args.self.now.words c.args.i c.args.w (omega (arith, c.requires)) k
