use Rattle.std.proofs.Common.{false, arith}
use Rattle.channels.proofs.Ops.{put_is}
use Rattle.channels.proofs.ChannelSet.remove.Goals as goal

pub returns : goal.returns
returns c =
    let channel = c.in_ok-channel.channel in
    let same = c.in_ok-channel.ensures in
    let within = channel.within in
    (omega arith, put_is c.args.self.now _ c.args.c channel.number false same c.remove.ensures)
