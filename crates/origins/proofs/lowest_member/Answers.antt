use Rattle.std.proofs.Common.{sym, ◌∙◌}
use Rattle.origins.proofs.Walks.{zero-lowest}
use Rattle.origins.proofs.lowest_member.Goals as goal

pub returns-then-holds : goal.returns-then-holds
returns-then-holds c = sym (zero-lowest c.args.set.now (sym c.holds.ensures ∙ c.if-holds.true))
