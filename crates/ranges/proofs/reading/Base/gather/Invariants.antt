use Rattle.std.proofs.Common.{◌≡◌, ℕ, ◌<◌, cond, eqb, get_or, is_some}
use Rattle.bits.specs.Lowest.{lowest}
use Rattle.channels.specs.Sets.{holds}
use Rattle.ranges.proofs.reading.Base.gather.Given as goal

-- the distances before the index are in the set
abbrev pub invariant-loop-d : goal.invariant-loop-d
invariant-loop-d l = (c : ℕ) → c < 1024 → holds l.set c ≡ cond (eqb c 0) l.self.held (is_some (lowest (λ j. eqb (get_or l.distances j 0) c) l.d-index))
