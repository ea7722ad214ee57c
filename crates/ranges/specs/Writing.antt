-- What the writer of a range leaves on its way.
use Rattle.std.specs.Prelude.{◌≡◌, ℕ, ◌≤◌, List, take, drop, Some, None, Ok, Err, Result, slice_index}
use Rattle.faults.specs.declared.PileFault.{PileFault}
use Rattle.faults.specs.declared.PileFault.TheVariants.{Unwritten}
use Rattle.channels.specs.declared.ChannelSet.{ChannelSet}
use Rattle.channels.specs.Sets.{holds, size_of}
use Rattle.packing.specs.declared.Range.{Range}
use Rattle.tree.specs.Written.{written}
use Rattle.ranges.specs.Ranges.{written_from}

-- the table has the tree of a set of distances: W(i) at its place, for as many as the set has members
pub record Planted (K : ℕ) (ds : ChannelSet) (table : List ℕ) : Type 0 where
  pub stands : (i : ℕ) → 1 ≤ i → i ≤ size_of ds → slice_index table i ≡ written K (holds ds) i

-- what a set is written as from a base stands in front, and the other octets as before; if it is not written, all do
abbrev pub Encoded : Result (Unit {0}) PileFault → Range → ChannelSet → ℕ → ℕ → List ℕ → List ℕ → Type 0
Encoded (Ok _) r s o L before after = (written_from r s L (Some o) ≡ Some (take L after)) × (drop L after ≡ drop L before)
Encoded (Err f) r s o L before after = (f ≡ Unwritten) × (written_from r s L (Some o) ≡ None) × (after ≡ before)
