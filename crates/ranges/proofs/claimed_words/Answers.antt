use Rattle.std.proofs.Common.{[], ◌∷◌, refl}
use Rattle.bits.specs.Bits.{bit, bit_within}
use Rattle.bits.specs.Lowest.{lowest}
use Rattle.bits.proofs.Agree.{agree}
use Rattle.packing.specs.declared.Range.TheVariants.{R1024, R512, R256, R128}
use Rattle.ranges.specs.Ranges.{claim_of}
use Rattle.ranges.proofs.claimed_words.Goals as goal

-- by one computed test for each
pub returns : goal.returns
unfolding lowest bit
returns c =
    record {
      r1024 = agree (bit_within (0 ∷ 0 ∷ 71777214294589695 ∷ 0 ∷ [])) (claim_of R1024) 256 refl;
      r512 = agree (bit_within (0 ∷ 0 ∷ 216176080698999552 ∷ 0 ∷ [])) (claim_of R512) 256 refl;
      r256 = agree (bit_within (0 ∷ 0 ∷ 864704322795998208 ∷ 0 ∷ [])) (claim_of R256) 256 refl;
      r128 = agree (bit_within (0 ∷ 0 ∷ 3458817291183992832 ∷ 0 ∷ [])) (claim_of R128) 256 refl;
    }
