use Rattle.std.proofs.Common.{refl}
use Rattle.bits.specs.Lowest.{lowest}
use Rattle.standard.proofs.Cases.{worked}
use Rattle.standard.proofs.facts.Goals as goal

-- by computed tests over the octets
pub returns : goal.returns
unfolding lowest
returns c = record { apart = record { at512 = refl; at256 = refl; at128 = refl; at_variable = refl; at_map = refl }; worked = worked }
