use Rattle.std.proofs.Common.{◌+◌, ◌-◌, ◌*◌, ap, ◌∙◌, arith}
use Rattle.channels.specs.declared.ChannelSet.{ChannelSet}
use Rattle.channels.specs.Sets.{holds, put_eight}
use Rattle.channels.proofs.Views.{changed}
use Rattle.formats.proofs.MapCalls.{octet_more}
use Rattle.formats.proofs.bitmap0.set_in.Goals as goal

pub loop-i-preserved : goal.loop-i-preserved
loop-i-preserved c k l =
    let i = c.loop-i.i in
    let from = 8 * (15 - i) + 1 in
    ap (λ (s : ChannelSet). holds s k) (changed (from + 7) c.add_eight.result _ (put_eight c.loop-i.set from c.channel_bits.result) _ (omega arith) c.add_eight.ensures)
    ∙ octet_more c.args.contents.now i c.channel_bits.result c.loop-i.set (omega arith) (omega (arith, c.type_inv.contents i)) c.channel_bits.ensures c.loop-i.invariant k l
