-- The four ranges: how wide their first number is, and where it begins.
use Rattle.std.specs.Prelude.{ℕ, ◌≤◌}
use Rattle.packing.specs.declared.Range.{Range}
use Rattle.packing.specs.declared.Range.TheVariants.{R1024, R512, R256, R128}

-- the width of W(1)
abbrev pub width_of : Range → ℕ
width_of R1024 = 10
width_of R512 = 9
width_of R256 = 8
width_of R128 = 7

-- the bit position of W(1)
abbrev pub start_of : Range → ℕ
start_of R1024 = 6
start_of R512 = 17
start_of R256 = 17
start_of R128 = 17

-- the shortest contents
abbrev pub least_of : Range → ℕ
least_of R1024 = 1
least_of R512 = 3
least_of R256 = 3
least_of R128 = 3

-- the longest contents of any range
abbrev pub longest : ℕ
longest = 130

-- the range has contents of so many octets
pub record HasLength (r : Range) (len : ℕ) : Type 0 where
  pub least : least_of r ≤ len
  pub most : len ≤ longest
