use Rattle.std.proofs.Common.{◌≡◌, ℕ, ◌+◌, ◌-◌, ◌≤◌}
use Rattle.packing.specs.Reading.{filled, number_in, numbers_from, slots_in}
use Rattle.packing.proofs.reading.unpack.Given as goal

-- the numbers so far, that none was null, and those that are left
abbrev pub invariant-loop-number : goal.invariant-loop-number
invariant-loop-number l = record {
  few : l.n ≤ slots_in l.fn.range l.contents;
  left : l.rest ≡ numbers_from l.fn.range l.contents (l.n + 1) (slots_in l.fn.range l.contents - l.n);
  table : l.numbers ≡ filled (number_in l.fn.range l.contents) l.n l.initial.numbers;
  some : (m : ℕ) → 1 ≤ m → m ≤ l.n → number_in l.fn.range l.contents m ≡ 0 → ⊥;
}

abbrev pub decreases-loop-number : goal.decreases-loop-number
decreases-loop-number l = slots_in l.fn.range l.contents - l.n
