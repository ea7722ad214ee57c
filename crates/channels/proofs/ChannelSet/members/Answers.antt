use Rattle.std.proofs.Common.{refl}
use Rattle.channels.proofs.Ops.{listed-none, rest_more}
use Rattle.channels.proofs.ChannelSet.members.Goals as goal

pub loop-word-init : goal.loop-word-init
loop-word-init c = (listed-none c.args.self.now c.args.out.now, refl)

pub loop-word-preserved : goal.loop-word-preserved
loop-word-preserved c =
    (c.list_word-n.ensures.listed, rest_more c.args.self.now c.loop-word.word c.loop-word.n c.list_word-n.result c.args.out.now c.loop-word.out c.list_word-n.new.out c.loop-word.invariant.0 c.list_word-n.ensures.listed c.loop-word.invariant.1 c.list_word-n.ensures.rest)
