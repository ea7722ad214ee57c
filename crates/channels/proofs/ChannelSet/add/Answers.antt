use Rattle.std.proofs.Common.{true, arith}
use Rattle.channels.proofs.Ops.{put_is}
use Rattle.channels.proofs.ChannelSet.add.Goals as goal

pub returns : goal.returns
returns c =
    let channel = c.in_ok-channel.channel in
    let same = c.in_ok-channel.ensures in
    let within = channel.within in
    (omega arith, put_is c.args.self.now _ c.args.c channel.number true same c.insert.ensures)
