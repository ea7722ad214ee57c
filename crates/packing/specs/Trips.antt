-- What is written is read again.
use Rattle.std.specs.Prelude.{◌≡◌, ℕ, ◌+◌, ◌-◌, ◌^◌, ◌<◌, ◌≤◌, false, List, length, Ok, ◌≢◌}
use Rattle.packing.specs.declared.Range.{Range}
use Rattle.packing.specs.Ranges.{width_of, start_of}
use Rattle.packing.specs.Fields.{Level, Octets, bit_at, field, level, before}
use Rattle.packing.specs.Slots.{slots_of}
use Rattle.packing.specs.Reading.{number_in, slots_in, leading, unpacked}
use Rattle.packing.specs.Writing.{Packable, Holds, packed, mark_of, tail_of, head_of}

-- the level that a width is told by is the one meant
abbrev pub Levels : Type 0
Levels = (K i : ℕ) → 1 ≤ i → i < 2 ^ K → Level K i (level K i)

-- the octets written hold the numbers
abbrev pub Trip : Type 0
Trip = (r : Range) (h : ℕ) (W : ℕ → ℕ) (n len : ℕ) → Packable r h W n len → Holds r h W n len (packed r h W n len)

-- and are the only ones that do
abbrev pub Only : Type 0
Only = (r : Range) (h : ℕ) (W : ℕ → ℕ) (n len : ℕ) (os : List ℕ) → Holds r h W n len os → os ≡ packed r h W n len

-- n numbers are read from octets that hold them, if none is null
pub record ReadBack (r : Range) (n : ℕ) (os : List ℕ) : Type 0 where
  pub answer : unpacked r os ≡ Ok n
  pub count : leading r os ≡ n
  pub nulls : (i : ℕ) → n < i → number_in r os i ≡ 0

abbrev pub Reads : Type 0
Reads =
    (r : Range) (h : ℕ) (W : ℕ → ℕ) (n len : ℕ) (os : List ℕ) → Holds r h W n len os → n ≤ slots_of r len
    → ((i : ℕ) → 1 ≤ i → i ≤ n → W i ≢ 0) → ReadBack r n os

-- octets that are read, and have no bits behind their slots, are those that what was read is written as
abbrev pub Again : Type 0
Again =
    (r : Range) (n : ℕ) (os : List ℕ) → Octets os → unpacked r os ≡ Ok n
    → ((x : ℕ) → start_of r + before (width_of r) (slots_in r os) ≤ x → bit_at os x ≡ false)
    → os ≡ packed r (field os 0 (start_of r)) (number_in r os) n (length os)

-- only the bits from the first position on matter
pub record SameNumbers (r : Range) (os us : List ℕ) : Type 0 where
  pub numbers : (i : ℕ) → number_in r os i ≡ number_in r us i
  pub answer : unpacked r os ≡ unpacked r us
  pub count : leading r os ≡ leading r us

abbrev pub Behind : Type 0
Behind = (r : Range) (os us : List ℕ) → length os ≡ length us → ((x : ℕ) → start_of r ≤ x → bit_at os x ≡ bit_at us x) → SameNumbers r os us

-- what a head is read as
pub record Headed (r : Range) (t : ℕ) (os : List ℕ) : Type 0 where
  pub mark : field os 0 (start_of r - tail_of r) ≡ mark_of r
  pub tail : field os (start_of r - tail_of r) (tail_of r) ≡ t

abbrev pub Heads : Type 0
Heads = (r : Range) (t : ℕ) (os : List ℕ) → t < 2 ^ tail_of r → field os 0 (start_of r) ≡ head_of r t → Headed r t os
