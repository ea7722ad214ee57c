use Rattle.std.proofs.Common.{◌+◌, ◌-◌, ◌%◌, cond, ltb, ap₂, ◌∙◌}
use Rattle.bits.specs.Bits.{bit}
use Rattle.channels.proofs.Ops.{turned-word}
use Rattle.channels.proofs.ChannelSet.turned_word.Goals as goal

pub returns : goal.returns
returns c b l =
    let d = c.args.d.number in
    let r = d % 64 in
    c.joined.ensures b l
    ∙ ap₂ (λ low high. cond (ltb b r) (bit low (b + 64 - r)) (bit high (b - r))) c.word-low.ensures c.word-high.ensures
    ∙ turned-word c.args.self.now d c.args.i b c.args.d.within c.requires l
