use Rattle.std.proofs.Common.{◌∙◌}
use Rattle.piles.proofs.Shares.{shared-told}
use Rattle.piles.proofs.beside.Beside.clash.Goals as goal

pub returns : goal.returns
returns g c =
    c.common.ensures ∙ shared-told (g.A.Pile.meaning c.args.self.now.first).claimed (g.B.Pile.meaning c.args.self.now.second).claimed c.claims-x.result c.claims-y.result c.claims-x.ensures c.claims-y.ensures
