use Rattle.std.proofs.Common.{leb, sym, ap, ◌∙◌}
use Rattle.origins.proofs.Reach.{member_below}
use Rattle.origins.proofs.Walks.{follows-below, by_follows}
use Rattle.origins.proofs.serves.Goals as goal

pub distance-requires : goal.distance-requires
distance-requires c = record { from = follows-below c.args.set.now c.args.before c.args.c c.requires; to = member_below c.args.set.now c.args.before c.requires.held }

pub returns : goal.returns
returns c = ap (λ d. leb d c.args.reach) c.distance.ensures ∙ sym (by_follows c.args.set.now c.args.reach c.args.before c.args.c c.requires)
