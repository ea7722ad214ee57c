use Rattle.std.proofs.Common.{◌/◌, ◌%◌, false, get_or, arith}
use Rattle.bits.proofs.Digits.{bit_taken}
use Rattle.bits.proofs.Lists.{in_put}
use Rattle.bits.proofs.Words.remove.Goals as goal

pub returns : goal.returns
returns g c k =
    let s = c.args.self.now in
    let w = s.whole in
    in_put s.words c.args.c _ false (omega (arith, c.requires)) (λ b l. bit_taken (get_or s.words (c.args.c / 64) 0) (c.args.c % 64) b (omega arith) l) k
