-- Two bits put into an octet.
use Rattle.std.proofs.Common.{◌≡◌, ℕ, zero, suc, ◌+◌, ◌*◌, ◌%◌, ◌<◌, refl, arith}
use lib.Bits.{bit_and, bit_or}
use Rattle.bits.specs.Lowest.{lowest}
use Rattle.bits.proofs.Agree.{agree-numbers}
use Rattle.piles.specs.Flagged.{plain}

abbrev masked : ℕ → ℕ → ℕ
masked n o = bit_or (bit_and o 207) ((n * 16) % 256)

abbrev added : ℕ → ℕ → ℕ
added n o = plain o + 16 * n

-- by one computed test for each of the four numbers
pub put-bits : (n o : ℕ) → n < 4 → o < 256 → masked n o ≡ added n o
unfolding lowest
put-bits zero o h = agree-numbers (masked 0) (added 0) 256 refl o
put-bits (suc zero) o h = agree-numbers (masked 1) (added 1) 256 refl o
put-bits (suc (suc zero)) o h = agree-numbers (masked 2) (added 2) 256 refl o
put-bits (suc (suc (suc zero))) o h = agree-numbers (masked 3) (added 3) 256 refl o
put-bits (suc (suc (suc (suc n)))) o h = absurd (omega arith)
