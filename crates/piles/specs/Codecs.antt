-- What a format is, and the pile that it makes.
use Rattle.std.specs.Prelude.{ℕ, Bool, cond, List, length, Some, None, Ok, Err, Option, Result, slice_index}
use Rattle.channels.specs.declared.ChannelSet.{ChannelSet}
use Rattle.faults.specs.declared.FormatFault.{FormatFault}
use Rattle.faults.specs.declared.FormatFault.TheVariants.{Length}
use Rattle.faults.specs.declared.PileFault.{PileFault}
use Rattle.faults.specs.declared.PileFault.TheVariants.{Format, Unclaimed, Unwritten}
use Rattle.piles.specs.Laws.{sized, Claim, Reading, Writing, Meaning}

-- the first octets that it claims, the lengths that it has, the set that contents of such a length are read as, and the
-- contents of such a length that a set is written as, if there are any
pub record Codec : Type 0 where
  pub claimed : Claim
  pub fits : ℕ → Bool
  pub decoded : List ℕ → Result ChannelSet FormatFault
  pub encoded : ChannelSet → ℕ → Option (List ℕ)

abbrev pub carried : Result ChannelSet FormatFault → Result ChannelSet PileFault
carried (Ok s) = Ok s
carried (Err f) = Err (Format f)

-- the order in which contents are looked at: 0 or over 130 octets, the first octet, the format's own lengths, the rest
abbrev pub reads_by : Codec → Reading
reads_by k os = cond (sized (length os)) (cond (k.claimed (slice_index os 0)) (cond (k.fits (length os)) (carried (k.decoded os)) (Err (Format Length))) (Err Unclaimed)) (Err (Format Length))

abbrev pub or_unwritten : Option (List ℕ) → Result (List ℕ) PileFault
or_unwritten (Some os) = Ok os
or_unwritten None = Err Unwritten

abbrev pub writes_by : Codec → Writing
writes_by k s L = cond (k.fits L) (or_unwritten (k.encoded s L)) (Err Unwritten)

abbrev pub format_of : Codec → Meaning
format_of k = record { claimed = k.claimed; reads = reads_by k; writes = writes_by k }
