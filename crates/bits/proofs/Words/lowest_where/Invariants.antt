use Rattle.std.proofs.Common.{◌≡◌, ℕ, ◌<◌, drop, slice_index}
use Rattle.bits.proofs.Words.lowest_where.Given as goal

-- no word so far has a bit
abbrev pub invariant-loop-i : goal.invariant-loop-i
invariant-loop-i g l =
    record {
      first : l.i-iterator.iter.a.rest.now ≡ drop l.i-iterator.count l.self.words;
      second : l.i-iterator.iter.b.rest.now ≡ drop l.i-iterator.count l.other.words;
      empty : (i : ℕ) → i < l.i-iterator.count → goal.F-post g l.pair (slice_index l.self.words i) (slice_index l.other.words i) 0;
    }
