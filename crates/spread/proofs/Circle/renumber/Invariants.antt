use Rattle.std.proofs.Common.{◌≡◌, ℕ, ◌-◌, ◌<◌, ◌≤◌, get_or}
use Rattle.spread.specs.Steps.{ahead, around}
use Rattle.spread.proofs.Circle.renumber.Given as goal

abbrev pub invariant-loop-x : goal.invariant-loop-x
invariant-loop-x l =
    record {
      done : (i : ℕ) → i < l.x-index → get_or l.part i 0 ≡ ahead (around l.self.half) l.p (get_or l.initial.part i 0) - l.between;
      left : (i : ℕ) → l.x-index ≤ i → get_or l.part i 0 ≡ get_or l.initial.part i 0;
    }
