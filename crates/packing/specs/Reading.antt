-- What the octets of a range are read as.
use Rattle.std.specs.Prelude.{◌≡◌, ℕ, zero, suc, ◌+◌, ◌-◌, ◌<◌, ◌≤◌, Bool, not, ◌&&◌, List, [], ◌∷◌, length, Some, None, Ok, Err, Option, Result, ◌==◌, ◌≢◌, nat_lt, slice_index, slice_set}
use Rattle.bits.specs.Lowest.{lowest}
use Rattle.faults.specs.declared.FormatFault.{FormatFault}
use Rattle.faults.specs.declared.FormatFault.TheVariants.{Length, NumberAfterNull}
use Rattle.packing.specs.declared.Range.{Range}
use Rattle.packing.specs.Ranges.{width_of, start_of}
use Rattle.packing.specs.Fields.{before, number_at}
use Rattle.packing.specs.Slots.{slots_of}

-- W(i) of the octets of a range
abbrev pub number_in : Range → List ℕ → ℕ → ℕ
number_in r os i = number_at (width_of r) (start_of r) os i

-- W(i), W(i + 1), .. of the octets of a range, so many
unfoldable pub numbers_from : Range → List ℕ → ℕ → ℕ → List ℕ
numbers_from r os i zero = []
numbers_from r os i (suc m) = number_in r os i ∷ numbers_from r os (i + 1) m

-- how many numbers the octets of a range have room for
abbrev pub slots_in : Range → List ℕ → ℕ
slots_in r os = slots_of r (length os)

-- W(i) is the next number of some octets, of which m are left: its place, and that of a window, which is not behind it
pub record Next (r : Range) (os : List ℕ) (i m at base : ℕ) : Type 0 where
  pub first : 1 ≤ i
  pub room : i + m ≡ suc (slots_in r os)
  pub place : at ≡ start_of r + before (width_of r) (i - 1)
  pub shown : base ≤ at

-- W(k + 1) is null: a test over 0, 1, .. for `lowest`
unfoldable pub is_null : Range → List ℕ → ℕ → Bool
is_null r os k = number_in r os (suc k) == 0

-- the first null, as the count of the numbers before it
abbrev pub first_null : Range → List ℕ → Option ℕ
first_null r os = lowest (is_null r os) (slots_in r os)

-- the first behind W(k + 1) that is not null
abbrev pub later_one : Range → List ℕ → ℕ → Option ℕ
later_one r os k = lowest (λ j. nat_lt k j && not (is_null r os j)) (slots_in r os)

-- W(k + 1) is the first null: the numbers before it are read, unless one behind it is not null
abbrev pub after_null : ℕ → Option ℕ → Result ℕ FormatFault
after_null k None = Ok k
after_null k (Some j) = Err (NumberAfterNull (suc k))

abbrev pub read_to : Range → List ℕ → Option ℕ → Result ℕ FormatFault
read_to r os None = Ok (slots_in r os)
read_to r os (Some k) = after_null k (later_one r os k)

-- how many numbers are read, or why none are
unfoldable pub unpacked : Range → List ℕ → Result ℕ FormatFault
unpacked r os = read_to r os (first_null r os)

abbrev pub count_to : ℕ → Option ℕ → ℕ
count_to n None = n
count_to n (Some k) = k

-- how many numbers stand before the first null
unfoldable pub leading : Range → List ℕ → ℕ
leading r os = count_to (slots_in r os) (first_null r os)

-- W(1) .. W(n) put at the places 1 .. n
unfoldable pub filled : (ℕ → ℕ) → ℕ → List ℕ → List ℕ
filled W zero xs = xs
filled W (suc n) xs = slice_set (filled W n xs) (suc n) (W (suc n))

-- n numbers are read: they are not null and stand at their places, and all later ones are null
pub record Read (r : Range) (os table : List ℕ) (n : ℕ) : Type 0 where
  pub few : n ≤ slots_in r os
  pub stands : (i : ℕ) → 1 ≤ i → i ≤ n → slice_index table i ≡ number_in r os i
  pub some : (i : ℕ) → 1 ≤ i → i ≤ n → number_in r os i ≢ 0
  pub ends : (i : ℕ) → n < i → i ≤ slots_in r os → number_in r os i ≡ 0

-- W(z) is the first null, and a later one is not
pub record Broken (r : Range) (os : List ℕ) (z : ℕ) : Type 0 where
  pub first : 1 ≤ z
  pub null : number_in r os z ≡ 0
  pub before : (i : ℕ) → 1 ≤ i → i < z → number_in r os i ≢ 0
  pub later : (i : ℕ) × (z < i) × (i ≤ slots_in r os) × (number_in r os i ≢ 0)

-- what an answer says of the octets
abbrev pub Unpacked : Range → List ℕ → List ℕ → Result ℕ FormatFault → Type 0
Unpacked r os table (Ok n) = Read r os table n
Unpacked r os table (Err (NumberAfterNull z)) = Broken r os z
Unpacked r os table (Err Length) = ⊥
