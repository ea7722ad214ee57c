-- Worked octets, as one fact about the rules of reading and writing: what the standard pile files for some sets, from 2 octets on.
use Rattle.std.specs.Prelude.{◌≡◌, ℕ, ◌<◌, ◌≤◌, Bool, false, ◌||◌, List, [], ◌∷◌, length, Ok, Err, ◌==◌}
use Rattle.channels.specs.declared.ChannelSet.{ChannelSet}
use Rattle.channels.specs.Sets.{set_of}
use Rattle.faults.specs.declared.PileFault.TheVariants.{Unwritten}
use Rattle.packing.specs.declared.Range.TheVariants.{R1024}
use Rattle.piles.specs.Filing.{Never}
use Rattle.standard.specs.Standard.{standard, range}

-- the set of some channels
abbrev pub listed : List ℕ → ℕ → Bool
listed [] c = false
listed (x ∷ xs) c = c == x || listed xs c

abbrev pub channels : List ℕ → ChannelSet
channels xs = set_of (listed xs)

-- the standard pile writes a set as these octets, which are read as the set, and writes nothing shorter from 2 octets on
pub record Filed (xs os : List ℕ) : Type 0 where
  pub octets : standard.writes (channels xs) (length os) ≡ Ok os
  pub back : standard.reads os ≡ Ok (channels xs)
  pub shorter : (L : ℕ) → 2 ≤ L → L < length os → standard.writes (channels xs) L ≡ Err Unwritten

pub record Worked : Type 0 where
  -- {} is 80 00
  pub nothing : Filed [] (128 ∷ 0 ∷ [])
  -- {0} is 84 00, {1023} is 83 FF, {0, 512} is 86 00
  pub first : Filed (0 ∷ []) (132 ∷ 0 ∷ [])
  pub last : Filed (1023 ∷ []) (131 ∷ 255 ∷ [])
  pub half : Filed (0 ∷ 512 ∷ []) (134 ∷ 0 ∷ [])
  -- {10, 12} is 8E 05 20, {10, 20} is 8C 05 0A, {1020, 3} is 8F FE 01
  pub near : Filed (10 ∷ 12 ∷ []) (142 ∷ 5 ∷ 32 ∷ [])
  pub apart : Filed (10 ∷ 20 ∷ []) (140 ∷ 5 ∷ 10 ∷ [])
  pub round : Filed (1020 ∷ 3 ∷ []) (143 ∷ 254 ∷ 1 ∷ [])
  -- {1, 513} is 80 01 00 80, and no 2 or 3 octets are read as it
  pub opposite : Filed (1 ∷ 513 ∷ []) (128 ∷ 1 ∷ 0 ∷ 128 ∷ [])
  pub unread : (L : ℕ) → 2 ≤ L → L ≤ 3 → Never standard.reads (channels (1 ∷ 513 ∷ [])) L
  -- range 1024 alone writes {1, 2, 3} in five octets as 80 02 FF 80 40
  pub alone : (range R1024).writes (channels (1 ∷ 2 ∷ 3 ∷ [])) 5 ≡ Ok (128 ∷ 2 ∷ 255 ∷ 128 ∷ 64 ∷ [])
