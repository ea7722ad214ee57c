-- A list composed in sixteen octets and read back.
use Rattle.std.specs.Prelude.{◌≡◌, ℕ, false, List, Ok, Err, Result}
use Rattle.channels.specs.declared.ChannelSet.{ChannelSet}
use Rattle.faults.specs.declared.PileFault.{PileFault}
use Rattle.piles.specs.declared.flags.Flags.{Flags}
use Rattle.piles.specs.Filing.{Never}
use Rattle.piles.specs.Flagged.{flagged_first}
use Rattle.piles.specs.Laws.{Meaning}
use Rattle.plans.specs.declared.Trial.{Trial}

abbrev pub no_flags : Flags
no_flags = record { extension = false; allocation = false }

-- the octets are those that the pile writes, without flags, and they are read as the set
pub record Composed (m : Meaning) (s : ChannelSet) (t : Trial) : Type 0 where
  pub contents : (os : List ℕ) × (m.writes s 16 ≡ Ok os) × (t.octets ≡ flagged_first no_flags os)
  pub reads : m.reads t.octets ≡ Ok s
  pub same : t.back ≡ s

-- it is refused as the pile refuses it, and no sixteen octets are read as the set
pub record NotComposed (m : Meaning) (s : ChannelSet) (f : PileFault) : Type 0 where
  pub told : m.writes s 16 ≡ Err f
  pub never : Never m.reads s 16

abbrev pub Tried : Meaning → ChannelSet → Result Trial PileFault → Type 0
Tried m s (Ok t) = Composed m s t
Tried m s (Err f) = NotComposed m s f
