-- The channels lie on a circle of 1024. A set is written from one of its channels on, going up, as far as a format reaches.
use Rattle.std.specs.Prelude.{◌≡◌, ℕ, ◌+◌, ◌-◌, ◌%◌, ◌<◌, ◌≤◌, Bool, true, cond, not, ◌&&◌, is_some, Some, None, Option, nat_lt}
use Rattle.bits.specs.Lowest.{lowest}
use Rattle.channels.specs.declared.ChannelSet.{ChannelSet}
use Rattle.channels.specs.Sets.{holds, next_above, set_of}

-- how far a channel m lies ahead of c: (m - c) mod 1024
abbrev pub ahead : ℕ → ℕ → ℕ
ahead c m = (m + 1024 - c) % 1024

-- m is a member that lies too far ahead of c
abbrev pub too_far : ChannelSet → ℕ → ℕ → ℕ → Bool
too_far s R c m = holds s m && nat_lt R (ahead c m)

-- every member lies within reach of c
unfoldable pub reaches : ChannelSet → ℕ → ℕ → Bool
reaches s R c = not (is_some (lowest (too_far s R c) 1024))

-- c is a member that has every member within reach
unfoldable pub can_origin : ChannelSet → ℕ → ℕ → Bool
can_origin s R c = holds s c && reaches s R c

-- the lowest such
abbrev pub origin_of : ChannelSet → ℕ → Option ℕ
origin_of s R = lowest (can_origin s R) 1024

-- the same as facts: what an origin is, and what the lowest is or that there is none
pub record Origin (s : ChannelSet) (R c : ℕ) : Type 0 where
  pub held : holds s c ≡ true
  pub within : (m : ℕ) → holds s m ≡ true → ahead c m ≤ R

pub record First (s : ChannelSet) (R c : ℕ) : Type 0 where
  pub below : c < 1024
  pub origin : Origin s R c
  pub lower : (b : ℕ) → b < c → Origin s R b → ⊥

abbrev pub Begins : ChannelSet → ℕ → Option ℕ → Type 0
Begins s R (Some c) = First s R c
Begins s R None = (c : ℕ) → Origin s R c → ⊥

-- a set seen from a channel o: d is in it if the channel d ahead of o is in the set
abbrev pub seen_from : ChannelSet → ℕ → ChannelSet
seen_from s o = set_of (λ d. holds s ((o + d) % 1024))

-- its lowest member
abbrev pub lowest_of : ChannelSet → Option ℕ
lowest_of s = lowest (holds s) 1024

-- the lowest above n that can be origin, of those below m
abbrev pub later_origin : ChannelSet → ℕ → ℕ → ℕ → Option ℕ
later_origin s R n m = lowest (λ c. nat_lt n c && can_origin s R c) m

-- the lowest member is the origin if it can be, else it is a later one
abbrev pub from_lowest : ChannelSet → ℕ → Option ℕ → Option ℕ
from_lowest s R None = None
from_lowest s R (Some c) = cond (can_origin s R c) (Some c) (later_origin s R c 1024)

-- what follows a member round the circle: the next above it, or the lowest where none is above it
abbrev pub or_lowest : ChannelSet → Option ℕ → Option ℕ
or_lowest s (Some c) = Some c
or_lowest s None = lowest_of s

-- p is the member before c, round the circle
pub record Follows (s : ChannelSet) (p c : ℕ) : Type 0 where
  pub held : holds s p ≡ true
  pub next : or_lowest s (next_above s p) ≡ Some c
