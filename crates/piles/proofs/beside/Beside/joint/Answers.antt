use Rattle.std.proofs.Common.{◌||◌, sym, ◌∙◌, ap₂}
use Rattle.piles.specs.Combine.{claim_shared, claim_apart}
use Rattle.piles.proofs.Shares.{shared-told}
use Rattle.piles.proofs.beside.Beside.joint.Goals as goal

pub returns-in-Some : goal.returns-in-Some
returns-in-Some g c = λ o l.
    let f = (g.A.Pile.meaning c.args.self.now.first).claimed in
    let h = (g.B.Pile.meaning c.args.self.now.second).claimed in
    c.none.ensures o l
    ∙ sym (claim_shared f h o c.in-Some.field-0 (sym (shared-told f h c.claims-x.result c.claims-y.result c.claims-x.ensures c.claims-y.ensures) ∙ sym c.in-Some.ensures))

pub returns-in-None : goal.returns-in-None
returns-in-None g c = λ o l.
    let f = (g.A.Pile.meaning c.args.self.now.first).claimed in
    let h = (g.B.Pile.meaning c.args.self.now.second).claimed in
    c.union.ensures o ∙ ap₂ (λ p q. p || q) (c.claims-x.ensures o l) (c.claims-y.ensures o l)
    ∙ sym (claim_apart f h o (sym (shared-told f h c.claims-x.result c.claims-y.result c.claims-x.ensures c.claims-y.ensures) ∙ sym c.in-None.ensures))
