use Rattle.std.proofs.Common.{arith}
use Rattle.piles.proofs.Marks.{put-bits}
use Rattle.piles.proofs.flags.with_bits.Goals as goal

pub returns : goal.returns
returns c = put-bits c.args.number c.args.octet c.requires (omega arith)
