use Rattle.std.proofs.Common.{◌≡◌, ℕ, ◌<◌, ◌≤◌, Err}
use Rattle.faults.specs.declared.PileFault.{PileFault}
use Rattle.piles.proofs.filing.shortest.Given as goal

abbrev pub invariant-loop-len : goal.invariant-loop-len
invariant-loop-len g l =
    (l.out ≡ l.initial.out)
    × ((M : ℕ) → l.initial.len ≤ M → M < l.len → (f : PileFault) × ((g.P.Pile.meaning l.pile).writes l.set M ≡ Err f))
