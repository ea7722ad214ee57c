use Rattle.std.proofs.Common.{arith}
use Rattle.formats.proofs.VariableOctets.{nearest_marks, other_marks}
use Rattle.formats.proofs.variable.bits_turn.Goals as goal

pub returns : goal.returns
returns c = record { nearest = nearest_marks c.args.octet (omega arith); others = other_marks c.args.j c.args.octet }
