use Rattle.std.proofs.Common.{arith}
use Rattle.bits.proofs.Digits.{bit-joined}
use Rattle.bits.proofs.joined.Goals as goal

pub returns : goal.returns
returns c k l = bit-joined c.args.high c.args.low c.args.r k (omega arith) (omega arith) l
