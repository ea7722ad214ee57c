use Rattle.std.proofs.Common.{◌≡◌}
use Rattle.tree.specs.Number.{climb, entries, number}
use Rattle.tree.specs.Steps.{spot}
use Rattle.tree.proofs.Tree.climb.Given as goal

-- the way up that is left leads to F(place)
abbrev pub invariant-loop-l : goal.invariant-loop-l
invariant-loop-l l =
    climb l.self.width (entries l.self.table.now) l.l (spot l.l l.place) l.n ≡ number l.self.width (entries l.self.table.now) l.place
