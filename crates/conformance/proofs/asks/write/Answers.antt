use Rattle.std.proofs.Common.{◌≤◌, length, refl, rules}
use Rattle.notation.proofs.Runs.{front-within}
use Rattle.conformance.proofs.asks.write.Goals as goal

-- what is written at a length has that length, so it is not above that of the array
pub slice_bounds-octets-end : goal.slice_bounds-octets-end
slice_bounds-octets-end g c =
    let told = c.in-Ok.ensures in
    let law = (g.met.P.Pile.lawful c.args.pile.now).written c.args.set.now c.args.len _ told.0 in
    let few : c.args.len ≤ length c.write.new.out = front-within _ _ _ refl law.long in
    search rules
