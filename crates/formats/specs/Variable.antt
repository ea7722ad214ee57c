-- The variable bit map: ORIG, which is always a member, and behind it a bit for each channel ahead of it, as far as the octets go.
use Rattle.std.specs.Prelude.{ℕ, ◌+◌, ◌-◌, ◌*◌, ◌/◌, ◌%◌, Bool, cond, ◌&&◌, ◌||◌, List, Some, None, Ok, Option, ◌==◌, nat_le, nat_lt}
use Rattle.bits.specs.Bits.{bit, number_of}
use Rattle.channels.specs.declared.ChannelSet.{ChannelSet}
use Rattle.channels.specs.Sets.{holds, set_of}
use Rattle.origins.specs.Origins.{ahead, origin_of, seen_from}
use Rattle.packing.specs.Fields.{bit_at, field}
use Rattle.packing.specs.Writing.{octets_of}
use Rattle.piles.specs.Laws.{Claim}
use Rattle.piles.specs.Codecs.{Codec}

-- bits 8 and 7 are 1 0, and bits 4, 3 and 2 are 1 1 1
abbrev pub variable_claim : Claim
variable_claim o = o / 64 == 2 && o / 2 % 8 == 7

abbrev pub variable_fits : ℕ → Bool
variable_fits L = nat_le 3 L && nat_le L 130

-- how far ahead of ORIG the bits of L octets go
abbrev pub variable_reach : ℕ → ℕ
variable_reach L = 8 * L - 17

-- ORIG: the ten bits at the positions 7 to 16
abbrev pub orig_in : List ℕ → ℕ
orig_in os = field os 7 10

-- whether the channel n ahead of ORIG is a member: ORIG itself always, any other by its bit
abbrev pub is_marked : List ℕ → ℕ → Bool
is_marked os n = n == 0 || bit_at os (16 + n)

abbrev pub variable_set : List ℕ → ChannelSet
variable_set os = set_of (λ c. is_marked os (ahead (orig_in os) c))

-- the bit at each position, for a set that is seen from ORIG: first 1000111 and ORIG, seventeen bits
abbrev pub variable_bit : ChannelSet → ℕ → ℕ → Bool
variable_bit seen o p = cond (nat_lt p 17) (bit (71 * 1024 + o) (16 - p)) (holds seen (p - 16))

abbrev pub variable_octets : ChannelSet → ℕ → ℕ → List ℕ
variable_octets s L o = octets_of (variable_bit (seen_from s o) o) L

-- a set is written from the lowest channel that can be origin, and not at all if none can
abbrev pub written_from : Option ℕ → (ℕ → List ℕ) → Option (List ℕ)
written_from (Some o) octets = Some (octets o)
written_from None octets = None

abbrev pub variable : Codec
variable = record {
  claimed = variable_claim;
  fits = variable_fits;
  decoded = λ os. Ok (variable_set os);
  encoded = λ s L. written_from (origin_of s (variable_reach L)) (variable_octets s L);
}

-- the octet with index j
abbrev pub variable_octet : ChannelSet → ℕ → ℕ → ℕ
variable_octet seen o j = number_of (λ b. variable_bit seen o (8 * j + (7 - b))) 8

-- the eight channels ahead of ORIG that the octet with index j has, the nearest in the lowest bit
abbrev pub marks_in : ℕ → ℕ → ℕ
marks_in j o = number_of (λ k. (8 * (j - 2) + k == 0) || bit o (7 - k)) 8
