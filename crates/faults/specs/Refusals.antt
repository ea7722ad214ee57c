-- The number, layer and place that each fault tells.
use Rattle.std.specs.Prelude.{ℕ, None, Option}
use Rattle.faults.specs.declared.Refusal.{Refusal}
use Rattle.faults.specs.declared.Layer.{Layer}
use Rattle.faults.specs.declared.Layer.TheVariants as layers
use Rattle.faults.specs.declared.SetFault.{SetFault}
use Rattle.faults.specs.declared.SetFault.TheVariants.{OverRange}
use Rattle.faults.specs.declared.FormatFault.{FormatFault}
use Rattle.faults.specs.declared.FormatFault.TheVariants as formats
use Rattle.faults.specs.declared.Cause.{Cause}
use Rattle.faults.specs.declared.Cause.TheVariants as causes
use Rattle.faults.specs.declared.PileFault.{PileFault}
use Rattle.faults.specs.declared.PileFault.TheVariants as piles
use Rattle.faults.specs.declared.RecordFault.{RecordFault}
use Rattle.faults.specs.declared.RecordFault.TheVariants as records
use Rattle.faults.specs.declared.VolumeFault.{VolumeFault}
use Rattle.faults.specs.declared.VolumeFault.TheVariants as volumes

abbrev pub refusal : ℕ → Layer → ℕ → Refusal
refusal n l p = record { number = n; layer = l; place = p }

abbrev pub of_set : SetFault → Refusal
of_set OverRange = refusal 1 layers.Set 0

abbrev pub of_format : FormatFault → Refusal
of_format formats.Length = refusal 2 layers.Format 0
of_format (formats.NumberAfterNull i) = refusal 4 layers.Format i

abbrev pub of_cause : Cause → ℕ
of_cause causes.Length = 2
of_cause causes.Unclaimed = 3
of_cause causes.NumberAfterNull = 4
of_cause causes.SharedClaim = 5
of_cause causes.OutsideLicence = 6
of_cause causes.Unwritten = 7

abbrev pub of_pile : PileFault → Refusal
of_pile (piles.Format f) = of_format f
of_pile piles.Unclaimed = refusal 3 layers.Pile 0
of_pile (piles.SharedClaim o) = refusal 5 layers.Pile o
of_pile (piles.OutsideLicence c) = refusal 6 layers.Pile c
of_pile piles.Unwritten = refusal 7 layers.Pile 0
of_pile (piles.Maker cause layer place) = refusal (of_cause cause) layer place

abbrev pub of_record : RecordFault → Refusal
of_record (records.Pile f) = of_pile f
of_record records.Argument = refusal 8 layers.Record 0
of_record records.DeletedArea = refusal 9 layers.Record 0
of_record records.Allocation = refusal 11 layers.Record 0

abbrev pub of_volume : VolumeFault → Refusal
of_volume (volumes.Record start f) = of_record f
of_volume (volumes.NoneInForce start) = refusal 10 layers.Volume 0
of_volume volumes.Area = refusal 12 layers.Volume 0
of_volume (volumes.Full start) = refusal 13 layers.Volume start
of_volume (volumes.Frame start) = refusal 14 layers.Volume start

-- the record's start that the volume adds; the place of 13 and 14 is itself a start
abbrev pub start_of : VolumeFault → Option ℕ
start_of (volumes.Record start f) = start
start_of (volumes.NoneInForce start) = start
start_of volumes.Area = None
start_of (volumes.Full start) = None
start_of (volumes.Frame start) = None
