use Rattle.std.proofs.Common.{◌≡◌, ℕ, ◌+◌, ◌-◌, ◌*◌, ◌<◌, length, get_or}
use Rattle.packing.specs.Ranges.{width_of, start_of}
use Rattle.packing.specs.Fields.{Octets, before, bit_at}
use Rattle.packing.specs.Writing.{laid}
use Rattle.packing.proofs.writing.lay.Given as goal

-- the place, and the numbers so far over what the loop began with
abbrev pub invariant-loop-k : goal.invariant-loop-k
invariant-loop-k l = record {
  octets : Octets l.out;
  place : l.at ≡ start_of l.range + before (width_of l.range) l.k;
  bits : (x : ℕ) → x < 8 * length l.out → bit_at l.out x ≡ laid (width_of l.range) (start_of l.range) (bit_at l.initial.out) (λ i. get_or l.numbers (i - 1) 0) l.k x;
}
