-- The four range formats. What is read stands for members by their distance from a base: the origin, or channel 0 in range 1024.
use Rattle.std.specs.Prelude.{ℕ, suc, ◌+◌, ◌%◌, Bool, true, cond, if◌then◌else◌, not, ◌&&◌, List, length, is_some, Some, None, Ok, Err, Option, Result, ◌==◌, bit_and, nat_eq, nat_le, slice_index}
use Rattle.bits.specs.Lowest.{lowest}
use Rattle.channels.specs.declared.ChannelSet.{ChannelSet}
use Rattle.channels.specs.Sets.{holds, set_of}
use Rattle.faults.specs.declared.FormatFault.{FormatFault}
use Rattle.piles.specs.Laws.{Claim}
use Rattle.piles.specs.Codecs.{Codec}
use Rattle.packing.specs.declared.Range.{Range}
use Rattle.packing.specs.declared.Range.TheVariants.{R1024, R512, R256, R128}
use Rattle.packing.specs.Ranges.{width_of, least_of, longest}
use Rattle.packing.specs.Fields.{field}
use Rattle.packing.specs.Slots.{slots_of}
use Rattle.packing.specs.Reading.{number_in, unpacked}
use Rattle.packing.specs.Writing.{packed, head_of}
use Rattle.tree.specs.Number.{number}
use Rattle.tree.specs.Written.{full, tally, written}
use Rattle.origins.specs.Origins.{ahead, origin_of}

-- the range whose first number has K bits
abbrev pub range_at : ℕ → Range
range_at K = if K == 7 then R128 else if K == 8 then R256 else if K == 9 then R512 else R1024

-- bits 8, 7, 4, 3, 2 of the first octet: 1 0 0 - -, 1 0 1 0 0, 1 0 1 0 1, 1 0 1 1 0
abbrev pub claim_of : Range → Claim
claim_of R1024 o = bit_and o 200 == 128
claim_of R512 o = bit_and o 206 == 136
claim_of R256 o = bit_and o 206 == 138
claim_of R128 o = bit_and o 206 == 140

abbrev pub fits_of : Range → ℕ → Bool
fits_of r L = nat_le (least_of r) L && nat_le L longest

-- what the distances are counted from: ORIG, which stands at bit positions 7 to 16, or channel 0 in range 1024
abbrev pub base_in : Range → List ℕ → ℕ
base_in R1024 os = 0
base_in R512 os = field os 7 10
base_in R256 os = field os 7 10
base_in R128 os = field os 7 10

-- whether that channel is a member itself: ORIG always, channel 0 by F0 at bit position 5
abbrev pub base_held : Range → List ℕ → Bool
base_held R1024 os = field os 5 1 == 1
base_held R512 os = true
base_held R256 os = true
base_held R128 os = true

-- whether some F(i), for i from 1 to n, is q
abbrev pub stands_for : ℕ → (ℕ → ℕ) → ℕ → ℕ → Bool
stands_for K W n q = is_some (lowest (λ i. nat_eq (number K W (suc i)) q) n)

-- the same of a list of distances
abbrev pub gathered : ℕ → Bool → List ℕ → ℕ → Bool
gathered o held ds c = cond (ahead o c == 0) held (is_some (lowest (λ j. nat_eq (slice_index ds j) (ahead o c)) (length ds)))

-- a channel is a member if it is the base and that is held, or if some F(i) is its distance
abbrev pub member : ℕ → Bool → ℕ → (ℕ → ℕ) → ℕ → ℕ → Bool
member o held K W n c = cond (ahead o c == 0) held (stands_for K W n (ahead o c))

abbrev pub in_range : Range → List ℕ → ℕ → ℕ → Bool
in_range r os n = member (base_in r os) (base_held r os) (width_of r) (number_in r os) n

abbrev pub range_read : Range → List ℕ → Result ℕ FormatFault → Result ChannelSet FormatFault
range_read r os (Ok n) = Ok (set_of (in_range r os n))
range_read r os (Err f) = Err f

-- whether the channel d ahead of o is in a set
abbrev pub seen : ChannelSet → ℕ → ℕ → Bool
seen s o d = holds s ((o + d) % 1024)

-- the base that a set is written from, if it has one
abbrev pub base_of : Range → ChannelSet → Option ℕ
base_of R1024 s = Some 0
base_of R512 s = origin_of s 511
base_of R256 s = origin_of s 255
base_of R128 s = origin_of s 127

-- what stands in front of the numbers behind the range's mark: F0, or ORIG
abbrev pub tail_in : Range → ChannelSet → ℕ → ℕ
tail_in R1024 s o = cond (holds s 0) 1 0
tail_in R512 s o = o
tail_in R256 s o = o
tail_in R128 s o = o

-- the distances of the members besides the base
abbrev pub others_from : ChannelSet → ℕ → ChannelSet
others_from s o = set_of (λ d. not (d == 0) && seen s o d)

-- how many members there are besides the base
abbrev pub others : Range → ChannelSet → ℕ → ℕ
others r s o = tally (seen s o) 1 (full (width_of r))

abbrev pub range_octets : Range → ChannelSet → ℕ → ℕ → List ℕ
range_octets r s L o = packed r (head_of r (tail_in r s o)) (written (width_of r) (seen s o)) (others r s o) L

-- a set is written if it has a base, and no more other members than there are slots
abbrev pub written_from : Range → ChannelSet → ℕ → Option ℕ → Option (List ℕ)
written_from r s L (Some o) = cond (nat_le (others r s o) (slots_of r L)) (Some (range_octets r s L o)) None
written_from r s L None = None

abbrev pub range_codec : Range → Codec
range_codec r = record {
  claimed = claim_of r;
  fits = fits_of r;
  decoded = λ os. range_read r os (unpacked r os);
  encoded = λ s L. written_from r s L (base_of r s);
}
