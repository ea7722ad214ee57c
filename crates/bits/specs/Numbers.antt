-- What a set of numbers holds, as bits of n words.
use Rattle.std.specs.Prelude.{ℕ, Bool, not, ◌&&◌, nat_le}
use Rattle.bits.specs.Bits.{bit_in}
use Rattle.bits.specs.declared.Words.{Words}

-- whether it holds a number: none from 64 * n on
abbrev pub has : {n : ℕ} → Words n → ℕ → Bool
has s c = bit_in s.words c

-- the numbers in both, in one alone, and from one on
abbrev pub in_both : {n : ℕ} → Words n → Words n → ℕ → Bool
in_both s t c = has s c && has t c

abbrev pub in_first : {n : ℕ} → Words n → Words n → ℕ → Bool
in_first s t c = has s c && not (has t c)

abbrev pub from_on : {n : ℕ} → Words n → ℕ → ℕ → Bool
from_on s from c = nat_le from c && has s c
