use Rattle.std.proofs.Common.{[], ◌∷◌, refl}
use Rattle.bits.specs.Bits.{bit, bit_within}
use Rattle.bits.specs.Lowest.{lowest}
use Rattle.bits.proofs.Agree.{agree}
use Rattle.formats.specs.BitMap0.{map_claim}
use Rattle.formats.proofs.bitmap0.claimed_words.Goals as goal

-- by one computed test
pub returns : goal.returns
unfolding lowest bit
returns c = agree (bit_within (18446744073709551615 ∷ 0 ∷ 0 ∷ 0 ∷ [])) map_claim 256 refl
