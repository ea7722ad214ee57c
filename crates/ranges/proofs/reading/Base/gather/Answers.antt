use Rattle.std.proofs.Common.{true, get_or, ap, ◌∙◌}
use Rattle.channels.specs.declared.ChannelSet.{ChannelSet}
use Rattle.channels.specs.Sets.{holds, put}
use Rattle.channels.proofs.Views.{changed}
use Rattle.ranges.proofs.Gathers.{gather_none, gather_more}
use Rattle.ranges.proofs.reading.Base.gather.Goals as goal

pub loop-d-init : goal.loop-d-init
loop-d-init c k l = c.zero_if-set.ensures k ∙ gather_none c.args.distances.now c.args.self.held k

pub loop-d-preserved : goal.loop-d-preserved
loop-d-preserved c k l =
    let ds = c.args.distances.now in
    let j = c.loop-d.d-index in
    let v = c.requires j c.loop-d-test.true in
    ap (λ (s : ChannelSet). holds s k) (changed (get_or ds j 0) c.add.result _ (put c.loop-d.set (get_or ds j 0) true) _ v.1 c.add.ensures)
    ∙ gather_more ds c.args.self.held j c.loop-d.set v c.loop-d.invariant k l
