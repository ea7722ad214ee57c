use Rattle.std.proofs.Common.{◌<◌, rules}
use Rattle.std.proofs.Output.{has_written_of_eq}
use Rattle.std.specs.Fmt.{HasWritten}
use Rattle.notation.proofs.Written.{hole, hex_octet}
use Rattle.notation.proofs.hex.OctetDisplay.fmt.Goals as goal

pub returns-clause-writes : goal.returns-clause-writes
returns-clause-writes g c = λ plain ok.
    let o = c.args.self.now.0 in
    let small : o < 256 = search rules in
    let all : HasWritten g.W.Write.write_str_gives c.args.f.now (hole 2 o) c.write.new.self = search rules in
    has_written_of_eq _ _ _ _ _ (hex_octet o small) all
