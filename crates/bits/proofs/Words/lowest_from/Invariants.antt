use Rattle.std.proofs.Common.{◌≡◌, ℕ, ◌+◌, ◌*◌, ◌<◌, false}
use Rattle.bits.specs.Numbers.{from_on}
use Rattle.bits.proofs.Words.lowest_from.Given as goal

abbrev pub invariant-loop-i : goal.invariant-loop-i
invariant-loop-i g l = (k : ℕ) → k < 64 * (l.at + 1 + l.i) → from_on l.self l.from k ≡ false
