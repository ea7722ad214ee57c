use Rattle.std.proofs.Common.{◌≡◌, get_or, arith}
use lib.Bits.{bit_or}
use Rattle.bits.proofs.Sets.{made_at, in_united}
use Rattle.bits.proofs.Words.union.Goals as goal

pub returns : goal.returns
returns g c =
    let s = c.args.self.now in
    let t = c.args.other.now in
    in_united s.words t.words _ g.row.N s.whole t.whole c.from_fn.ensures.items.long
    (λ i l. made_at _ g.row.N 0 c.from_fn.ensures.items.each (λ i w. w ≡ bit_or (get_or s.words i 0) (get_or t.words i 0)) (λ i w q k. k.met) i (omega arith) (omega arith))
