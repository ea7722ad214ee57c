-- How many numbers are present in contents of a length.
use Rattle.std.specs.Prelude.{ℕ, zero, suc, ◌+◌, ◌-◌, ◌*◌, ◌^◌, ◌≤◌, Bool, true, cond, ◌&&◌, ◌||◌, List, [], ◌∷◌, length, ◌==◌, nat_le, nat_lt}
use Rattle.packing.specs.declared.Range.{Range}
use Rattle.packing.specs.Ranges.{width_of, start_of, longest}
use Rattle.packing.specs.Fields.{before}

-- n numbers fit whole in len octets, and the tree of width K has so many
pub record Fits (K start len n : ℕ) : Type 0 where
  pub few : n ≤ 2 ^ K - 1
  pub whole : start + before K n ≤ 8 * len

-- n is the greatest that fits
pub record Slots (K start len n : ℕ) : Type 0 where
  pub fits : Fits K start len n
  pub most : (m : ℕ) → Fits K start len m → m ≤ n

-- the greatest of the numbers up to n that fits, or 0
unfoldable pub greatest : ℕ → ℕ → ℕ → ℕ → ℕ
greatest K start len zero = 0
greatest K start len (suc n) = cond (nat_le (start + before K (suc n)) (8 * len)) (suc n) (greatest K start len n)

-- the slot count of a range; there are none in contents that are too long
unfoldable pub slots_of : Range → ℕ → ℕ
slots_of r len = cond (nat_le len longest) (greatest (width_of r) (start_of r) len (2 ^ width_of r - 1)) 0

-- the test of a count, and of counts of which the first is of the length a
abbrev pub is_count : ℕ → ℕ → ℕ → ℕ → Bool
is_count K start len n =
    nat_le n (2 ^ K - 1) && ((n == 0 || nat_le (start + before K n) (8 * len)) && (n == 2 ^ K - 1 || nat_lt (8 * len) (start + before K (suc n))))

abbrev pub are_counts : ℕ → ℕ → ℕ → List ℕ → Bool
are_counts K start a [] = true
are_counts K start a (n ∷ ns) = is_count K start a n && are_counts K start (suc a) ns

-- the test of the counts of a range, from the length 1 to the longest
abbrev pub row_counts : Range → List ℕ → Bool
row_counts r ns = length ns == longest && are_counts (width_of r) (start_of r) 1 ns
