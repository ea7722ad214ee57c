-- Claims by their octets.
use Rattle.std.specs.Prelude.{ℕ, Bool, ◌&&◌, Option}
use Rattle.bits.specs.Bits.{bit_within}
use Rattle.bits.specs.Lowest.{lowest}
use Rattle.claims.specs.declared.Claims.{Claims}

-- whether an octet is claimed: none from 256 on
abbrev pub claims : Claims → ℕ → Bool
claims x o = bit_within x.octets.words o

-- the lowest first octet that two tests pass
abbrev pub both : (ℕ → Bool) → (ℕ → Bool) → ℕ → Bool
both f g o = f o && g o

abbrev pub shared : (ℕ → Bool) → (ℕ → Bool) → Option ℕ
shared f g = lowest (both f g) 256
