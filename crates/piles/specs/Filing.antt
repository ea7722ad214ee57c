-- The rule by which one list is filed.
use Rattle.std.specs.Prelude.{◌≡◌, ℕ, ◌<◌, ◌≤◌, List, [], length, take, drop, Ok, Err, Result, ◌≢◌}
use Rattle.channels.specs.declared.ChannelSet.{ChannelSet}
use Rattle.faults.specs.declared.PileFault.{PileFault}
use Rattle.piles.specs.declared.flags.Flags.{Flags}
use Rattle.piles.specs.Flagged.{flagged_first}
use Rattle.piles.specs.Laws.{Meaning, Reading, Octets, number}

-- no octets of length L are read as the set
abbrev pub Never : Reading → ChannelSet → ℕ → Type 0
Never reads s L = (os : List ℕ) → length os ≡ L → Octets os → reads os ≢ Ok s

-- what a writing puts, and nothing where it refuses
abbrev pub octets_of : Result (List ℕ) PileFault → List ℕ
octets_of (Ok os) = os
octets_of (Err f) = []

-- what stands after a list is composed of L octets
pub record Composed (m : Meaning) (s : ChannelSet) (least most : ℕ) (flags : Flags) (L : ℕ) (before after : List ℕ) : Type 0 where
  -- L is an allowed length, and no octets of an allowed length that are read as the set are fewer
  pub low : least ≤ L
  pub high : L ≤ most
  pub fewest : (M : ℕ) → least ≤ M → M < L → Never m.reads s M
  -- the contents are what the pile writes, with the flags, and are read as the set
  pub contents : take L after ≡ flagged_first flags (octets_of (m.writes s L))
  pub back : m.reads (take L after) ≡ Ok s
  -- the other octets stand
  pub rest : drop L after ≡ drop L before

-- what stands after a list is refused
pub record NotComposed (m : Meaning) (s : ChannelSet) (least most : ℕ) (f : PileFault) (before after : List ℕ) : Type 0 where
  pub same : after ≡ before
  -- no octets of an allowed length are read as the set
  pub never : (M : ℕ) → least ≤ M → M ≤ most → Never m.reads s M
  -- it is refused as the pile refuses the greatest length
  pub last : m.writes s most ≡ Err f
  pub numbered : (5 ≤ number f) × (number f ≤ 7)

-- the same before the flags are put in
pub record Served (m : Meaning) (s : ChannelSet) (least most L : ℕ) (before after : List ℕ) : Type 0 where
  pub low : least ≤ L
  pub high : L ≤ most
  pub fewest : (M : ℕ) → least ≤ M → M < L → Never m.reads s M
  pub contents : take L after ≡ octets_of (m.writes s L)
  pub back : m.reads (take L after) ≡ Ok s
  pub rest : drop L after ≡ drop L before

pub record Marked (m : Meaning) (s : ChannelSet) (L : ℕ) (flags : Flags) (before after : List ℕ) : Type 0 where
  pub contents : take L after ≡ flagged_first flags (take L before)
  pub back : m.reads (take L after) ≡ Ok s
  pub rest : drop L after ≡ drop L before

abbrev pub Shortest : Meaning → ChannelSet → ℕ → ℕ → Result ℕ PileFault → List ℕ → List ℕ → Type 0
Shortest m s least most (Ok L) before after = Served m s least most L before after
Shortest m s least most (Err f) before after = NotComposed m s least most f before after

abbrev pub Composes : Meaning → ChannelSet → ℕ → ℕ → Flags → Result ℕ PileFault → List ℕ → List ℕ → Type 0
Composes m s least most flags (Ok L) before after = Composed m s least most flags L before after
Composes m s least most flags (Err f) before after = NotComposed m s least most f before after
