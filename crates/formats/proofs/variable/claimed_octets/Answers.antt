use Rattle.std.proofs.Common.{eqb, [], ◌∷◌, refl}
use lib.Bits.{bit_and}
use Rattle.bits.specs.Bits.{bit, bit_within}
use Rattle.bits.specs.Lowest.{lowest}
use Rattle.bits.proofs.Agree.{agree}
use Rattle.formats.specs.Variable.{variable_claim}
use Rattle.formats.proofs.variable.claimed_octets.Goals as goal

-- by one computed test for each
pub returns : goal.returns
unfolding lowest bit
returns c = record {
  words = agree (bit_within (0 ∷ 0 ∷ 13835269164735971328 ∷ 0 ∷ [])) variable_claim 256 refl;
  bits = agree (λ o. eqb (bit_and o 206) 142) variable_claim 256 refl;
}
