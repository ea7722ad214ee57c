use Rattle.conformance.proofs.plain.PlainPile.claims.Goals as goal

pub returns-in-Range128 : goal.returns-in-Range128
returns-in-Range128 c = rw c.in-Range128.is c.claims-in-Range128.ensures
