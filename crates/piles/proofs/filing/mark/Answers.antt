use Rattle.std.proofs.Common.{◌<◌, arith}
use Rattle.std.proofs.ByRecursion.{All-from_get_or, All-take}
use Rattle.piles.proofs.Files.{marked}
use Rattle.piles.proofs.filing.mark.Goals as goal

pub returns : goal.returns
returns g c =
    let pile = c.args.pile.now in
    let out = c.args.out.now in
    marked (g.P.Pile.meaning pile) c.args.set.now (g.met.P.Pile.lawful pile) 0 0 c.args.flags c.args.len out (omega (arith, c.told-out))
    (All-take (λ o. o < 256) c.args.len out (All-from_get_or (λ o. o < 256) out 0 (λ i h. c.fits-out i))) c.requires c.put_into.result c.put_into.ensures
