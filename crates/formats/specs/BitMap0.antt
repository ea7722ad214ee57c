-- Bit map 0: sixteen octets; bit 1 of the last is channel 1, and so upward to bit 4 of the first, channel 124.
use Rattle.std.specs.Prelude.{ℕ, ◌+◌, ◌-◌, ◌*◌, ◌/◌, ◌%◌, Bool, not, ◌&&◌, List, map, Some, None, Ok, Option, ◌==◌, nat_lt, slice_index}
use Rattle.std.specs.List.{range_with_len}
use Rattle.bits.specs.Bits.{bit}
use Rattle.bits.specs.Lowest.{lowest}
use Rattle.channels.specs.declared.ChannelSet.{ChannelSet}
use Rattle.channels.specs.Sets.{holds, set_of, eight_from}
use Rattle.piles.specs.Laws.{Claim}
use Rattle.piles.specs.Codecs.{Codec}

-- bits 8 and 7 are 0
abbrev pub map_claim : Claim
map_claim o = nat_lt o 64

abbrev pub map_fits : ℕ → Bool
map_fits L = L == 16

-- the channels that the map has a bit for
abbrev pub in_map : ℕ → Bool
in_map c = nat_lt 0 c && nat_lt c 125

abbrev pub map_bit : List ℕ → ℕ → Bool
map_bit os c = in_map c && bit (slice_index os (15 - (c - 1) / 8)) ((c - 1) % 8)

abbrev pub map_set : List ℕ → ChannelSet
map_set os = set_of (map_bit os)

-- the octet with index j has eight channels
abbrev pub map_octet : ChannelSet → ℕ → ℕ
map_octet s j = eight_from s (8 * (15 - j) + 1)

abbrev pub map_octets : ChannelSet → List ℕ
map_octets s = map (map_octet s) (range_with_len 0 16)

-- a set is written unless it has a channel that the map has no bit for
abbrev pub beyond : ChannelSet → ℕ → Bool
beyond s c = holds s c && not (in_map c)

abbrev pub unless : Option ℕ → List ℕ → Option (List ℕ)
unless (Some c) os = None
unless None os = Some os

abbrev pub bit_map0 : Codec
bit_map0 = record {
  claimed = map_claim;
  fits = map_fits;
  decoded = λ os. Ok (map_set os);
  encoded = λ s L. unless (lowest (beyond s) 1024) (map_octets s);
}
