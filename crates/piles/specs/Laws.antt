-- What a pile means, and the laws that it keeps.
use Rattle.std.specs.Prelude.{◌≡◌, ℕ, ◌<◌, ◌≤◌, Bool, true, ◌&&◌, List, ◌∷◌, length, take, drop, Ok, Err, Result, ◌≢◌, nat_lt, slice_index}
use Rattle.std.specs.Result.{result_ok}
use Rattle.std.specs.List.{AllByRecursion}
use Rattle.channels.specs.declared.ChannelSet.{ChannelSet}
use Rattle.faults.specs.declared.PileFault.{PileFault}
use Rattle.faults.specs.Refusals.{of_pile}
use Rattle.piles.specs.Flagged.{plain}

-- the number that a refusal tells
abbrev pub number : PileFault → ℕ
number f = (of_pile f).number

-- contents have 1 to 130 octets
abbrev pub sized : ℕ → Bool
sized n = nat_lt 0 n && nat_lt n 131

abbrev pub Octets : List ℕ → Type 0
Octets os = AllByRecursion (λ o. o < 256) os

-- a meaning: the first octets claimed, what contents are read as, what is written for a set at a length
abbrev pub Claim : Type 0
Claim = ℕ → Bool

abbrev pub Reading : Type 0
Reading = List ℕ → Result ChannelSet PileFault

abbrev pub Writing : Type 0
Writing = ChannelSet → ℕ → Result (List ℕ) PileFault

pub record Meaning : Type 0 where
  pub claimed : Claim
  pub reads : Reading
  pub writes : Writing

pub record Sound (claimed : Claim) (os : List ℕ) (s : ChannelSet) : Type 0 where
  pub some : 1 ≤ length os
  pub most : length os ≤ 130
  pub claims : claimed (slice_index os 0) ≡ true

pub record Written (reads : Reading) (s : ChannelSet) (L : ℕ) (os : List ℕ) : Type 0 where
  pub long : length os ≡ L
  pub octets : Octets os
  pub back : reads os ≡ Ok s

pub record Laws (claimed : Claim) (reads : Reading) (writes : Writing) : Type 0 where
  -- 1: what is read has 1 to 130 octets and a claimed first octet
  pub sound : (os : List ℕ) (s : ChannelSet) → reads os ≡ Ok s → Sound claimed os s
  -- 2: bits 6 and 5 of the first octet change neither claim nor set
  pub plain_claim : (o : ℕ) → o < 256 → claimed (plain o) ≡ claimed o
  pub plain-set : (o : ℕ) (os : List ℕ) → o < 256 → result_ok (reads (plain o ∷ os)) ≡ result_ok (reads (o ∷ os))
  -- 3: what is written for a set at length L has L octets and is read as that set
  pub written : (s : ChannelSet) (L : ℕ) (os : List ℕ) → writes s L ≡ Ok os → Written reads s L os
  -- 4: what is refused is written by no octets
  pub refused : (s : ChannelSet) (L : ℕ) (f : PileFault) → writes s L ≡ Err f → (os : List ℕ) → length os ≡ L → Octets os → reads os ≢ Ok s
  -- the refusals' numbers
  pub read_number : (os : List ℕ) (f : PileFault) → reads os ≡ Err f → (2 ≤ number f) × (number f ≤ 6)
  pub write_number : (s : ChannelSet) (L : ℕ) (f : PileFault) → writes s L ≡ Err f → (5 ≤ number f) × (number f ≤ 7)

abbrev pub Lawful : Meaning → Type 0
Lawful m = Laws m.claimed m.reads m.writes

-- what a call of read answers and leaves: it is matched on the answer, so that a caller who knows the answer has the meaning at once
abbrev pub Filled : Result ChannelSet PileFault → Result (Unit {0}) PileFault → ChannelSet → ChannelSet → Type 0
Filled meant (Ok _) before after = meant ≡ Ok after
Filled meant (Err f) before after = (meant ≡ Err f) × (after ≡ before)

-- what a call of write answers and leaves: the first L octets are written, the others stand
abbrev pub Put : Result (List ℕ) PileFault → ℕ → Result (Unit {0}) PileFault → List ℕ → List ℕ → Type 0
Put meant L (Ok _) before after = (meant ≡ Ok (take L after)) × (drop L after ≡ drop L before)
Put meant L (Err f) before after = (meant ≡ Err f) × (after ≡ before)
