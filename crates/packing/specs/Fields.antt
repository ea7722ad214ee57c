-- Numbers that follow one another in octets, highest bit first.
use Rattle.std.specs.Prelude.{ℕ, zero, suc, ◌+◌, ◌-◌, ◌*◌, ◌/◌, ◌%◌, ◌^◌, ◌<◌, ◌≤◌, Bool, cond, List, nat_le, slice_index}
use Rattle.bits.specs.Bits.{bit}

-- each is below 256
abbrev pub Octets : List ℕ → Type 0
Octets os = (k : ℕ) → slice_index os k < 256

-- the bit at a position: position 0 is the highest bit of the first octet, and octets past the end count 0
unfoldable pub bit_at : List ℕ → ℕ → Bool
bit_at os p = bit (slice_index os (p / 8)) (7 - p % 8)

-- the number whose w bits stand from position p on
unfoldable pub field : List ℕ → ℕ → ℕ → ℕ
field os p zero = 0
field os p (suc w) = 2 * field os p w + cond (bit_at os (p + w)) 1 0

-- of the levels below k the greatest l with 2 ^ l ≤ i
unfoldable pub level : ℕ → ℕ → ℕ
level zero i = 0
level (suc k) i = cond (nat_le (2 ^ k) i) k (level k i)

-- 2 ^ l is the greatest power of two not above i
pub record Level (K i l : ℕ) : Type 0 where
  pub low : 2 ^ l ≤ i
  pub high : i < 2 ^ suc l
  pub below : l < K

-- the width of W(i), where W(1) is K wide
unfoldable pub width : ℕ → ℕ → ℕ
width K i = K - level K i

-- the bits that W(1) .. W(n) take
unfoldable pub before : ℕ → ℕ → ℕ
before K zero = 0
before K (suc n) = before K n + width K (suc n)

-- W(i) of octets whose numbers begin at a position
unfoldable pub number_at : ℕ → ℕ → List ℕ → ℕ → ℕ
number_at K start os i = field os (start + before K (i - 1)) (width K i)
