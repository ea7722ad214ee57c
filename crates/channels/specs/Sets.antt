-- Sets by their members.
use Rattle.std.specs.Prelude.{◌≡◌, ℕ, ◌+◌, ◌-◌, ◌%◌, ◌<◌, ◌≤◌, Bool, true, false, if◌then◌else◌, IsTrue, ◌↔◌, not, ◌&&◌, ◌||◌, List, length, take, is_some, Ok, Err, Option, Result, ◌==◌, nat_le, nat_lt, slice_index}
use Rattle.bits.specs.Bits.{bit, number_of, words_of, tally, rising}
use Rattle.bits.specs.Lowest.{lowest}
use Rattle.bits.specs.Numbers.{has}
use Rattle.bits.proofs.Lists.{length-words, fit_words}
use Rattle.channels.specs.declared.ChannelSet.{ChannelSet}
use Rattle.faults.specs.declared.SetFault.{SetFault}
use Rattle.faults.specs.declared.SetFault.TheVariants.{OverRange}

-- whether a set holds a channel: never from 1024 on
unfoldable pub holds : ChannelSet → ℕ → Bool
holds s c = has s.numbers c

-- the set of the channels that pass a test
unfoldable pub set_of : (ℕ → Bool) → ChannelSet
set_of f = record { numbers = record { words = words_of f 16; whole = length-words f 16; fits = fit_words f 16 } }

abbrev pub no_channels : ChannelSet
no_channels = set_of (λ _. false)

abbrev pub all_channels : ChannelSet
all_channels = set_of (λ _. true)

-- one channel put in or taken out
abbrev pub put : ChannelSet → ℕ → Bool → ChannelSet
put s c b = set_of (λ k. if k == c then b else holds s k)

-- the channels from + k put in, for which bit k of an octet is set
abbrev pub put_eight : ChannelSet → ℕ → ℕ → ChannelSet
put_eight s from o = set_of (λ k. holds s k || (nat_le from k && bit o (k - from)))

-- the eight channels from a number on as the bits of an octet, the lowest in the lowest bit
abbrev pub eight_from : ChannelSet → ℕ → ℕ
eight_from s from = number_of (λ k. holds s (from + k)) 8

-- each channel moved up by d, round the 1024
abbrev pub turned : ChannelSet → ℕ → ChannelSet
turned s d = set_of (λ k. holds s ((k + 1024 - d) % 1024))

-- how many it holds
abbrev pub size_of : ChannelSet → ℕ
size_of s = tally (holds s) 1024

-- the lowest one above n
abbrev pub above : ChannelSet → ℕ → ℕ → Bool
above s n c = nat_lt n c && holds s c

abbrev pub next_above : ChannelSet → ℕ → Option ℕ
next_above s n = lowest (above s n) 1024

-- the lowest one that another set has not
abbrev pub strays : ChannelSet → ChannelSet → ℕ → Bool
strays s allowed c = holds s c && not (holds allowed c)

abbrev pub first_outside : ChannelSet → ChannelSet → Option ℕ
first_outside s allowed = lowest (strays s allowed) 1024

-- whether each of its channels is in another set
abbrev pub within : ChannelSet → ChannelSet → Bool
within s allowed = not (is_some (first_outside s allowed))

-- its channels, rising
abbrev pub members_of : ChannelSet → List ℕ
members_of s = rising (holds s) 1024

-- the first n of a list are the channels below m that a set holds
pub record Listed (s : ChannelSet) (m n : ℕ) (xs : List ℕ) : Type 0 where
  pub count : n ≡ tally (holds s) m
  pub front : take n xs ≡ rising (holds s) m

-- what a call that changes a set answers and leaves: it is refused exactly over 1023, and the set then stands
abbrev pub Changed : ℕ → Result (Unit {0}) SetFault → ChannelSet → ChannelSet → ChannelSet → Type 0
Changed c (Ok _) before wanted after = (c ≤ 1023) × (after ≡ wanted)
Changed c (Err f) before wanted after = (1023 < c) × (f ≡ OverRange) × (after ≡ before)

-- what the list of a set's channels is: each is held, they rise, and each that is held is there
pub record MemberLaws : Type 0 where
  pub count : (s : ChannelSet) → length (members_of s) ≡ size_of s
  pub held : (s : ChannelSet) (j : ℕ) → j < size_of s → (slice_index (members_of s) j < 1024) × (holds s (slice_index (members_of s) j) ≡ true)
  pub rise : (s : ChannelSet) (i j : ℕ) → i < j → j < size_of s → slice_index (members_of s) i < slice_index (members_of s) j
  pub there : (s : ChannelSet) (c : ℕ) → holds s c ≡ true → (j : ℕ) × (j < size_of s) × (slice_index (members_of s) j ≡ c)

-- a test of two sets that tells whether they are one value
abbrev pub IsEquality : (ChannelSet → ChannelSet → Bool) → Type 0
IsEquality eq = (a b : ChannelSet) → IsTrue (eq a b) ↔ (a ≡ b)

-- the laws of the view
pub record ViewLaws : Type 0 where
  pub of_test : (f : ℕ → Bool) (c : ℕ) → c < 1024 → holds (set_of f) c ≡ f c
  pub past : (s : ChannelSet) (c : ℕ) → 1024 ≤ c → holds s c ≡ false
  pub same : (a b : ChannelSet) → ((c : ℕ) → c < 1024 → holds a c ≡ holds b c) → a ≡ b
  pub none : (c : ℕ) → holds no_channels c ≡ false
  pub one-put : (s : ChannelSet) (c : ℕ) (x : Bool) → c < 1024 → (k : ℕ) → holds (put s c x) k ≡ (if k == c then x else holds s k)
