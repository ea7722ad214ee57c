use Rattle.std.proofs.Common.{◌≡◌, ℕ, ◌+◌, ◌<◌, ◌≤◌, get_or}
use Rattle.tree.specs.Number.{entries}
use Rattle.tree.specs.Steps.{up}
use Rattle.tree.proofs.Tree.lift.Given as goal

-- what is lifted, and what is left
abbrev pub invariant-loop-j : goal.invariant-loop-j
invariant-loop-j l =
    record {
      lifted : (i : ℕ) → i < l.j → get_or l.n-items i 0 ≡ up l.self.width (entries l.self.table.now) l.l (l.first + i) (get_or l.initial.n-items i 0);
      left : (i : ℕ) → l.j ≤ i → get_or l.n-items i 0 ≡ get_or l.initial.n-items i 0;
    }
