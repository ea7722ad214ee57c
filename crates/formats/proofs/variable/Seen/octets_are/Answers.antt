use Rattle.formats.proofs.VariableOctets.{first_octet_is, second_octet_is, third_octet_is, other_octet_is}
use Rattle.formats.proofs.variable.Seen.octets_are.Goals as goal

pub returns : goal.returns
returns c =
    let t = c.args.self.now.set in
    let o = c.args.self.now.orig in
    let j = c.args.j in
    record { first = first_octet_is t o j c.args.self.now.low; second = second_octet_is t o j c.args.self.now.low; third = third_octet_is t o j c.args.self.now.low; others = other_octet_is t o j }
