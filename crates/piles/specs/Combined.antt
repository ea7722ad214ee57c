-- The meanings of the piles that are made of others.
use Rattle.std.specs.Prelude.{ℕ, false, cond, ◌||◌, length, Some, None, Ok, Err, Option, Result, slice_index}
use Rattle.channels.specs.declared.ChannelSet.{ChannelSet}
use Rattle.channels.specs.Sets.{first_outside}
use Rattle.claims.specs.Views.{shared}
use Rattle.faults.specs.declared.FormatFault.TheVariants.{Length}
use Rattle.faults.specs.declared.PileFault.{PileFault}
use Rattle.faults.specs.declared.PileFault.TheVariants.{Format, Unclaimed, SharedClaim, OutsideLicence}
use Rattle.piles.specs.Laws.{sized, Claim, Reading, Writing, Meaning}

abbrev pub claim_by : Option ℕ → Claim → Claim → Claim
claim_by (Some k) f g o = false
claim_by None f g o = f o || g o

abbrev pub side_reads : Claim → Claim → Reading → Reading → Reading
side_reads f g ra rb os = cond (f (slice_index os 0)) (ra os) (cond (g (slice_index os 0)) (rb os) (Err Unclaimed))

abbrev pub read_by : Option ℕ → Claim → Claim → Reading → Reading → Reading
read_by (Some o) f g ra rb os = Err (SharedClaim o)
read_by None f g ra rb os = cond (sized (length os)) (side_reads f g ra rb os) (Err (Format Length))

abbrev pub first_ok : {X : Type 0} → Result X PileFault → Result X PileFault → Result X PileFault
first_ok (Ok x) r = Ok x
first_ok (Err f) r = r

abbrev pub write_by : Option ℕ → Writing → Writing → Writing
write_by (Some o) wa wb s L = Err (SharedClaim o)
write_by None wa wb s L = first_ok (wa s L) (wb s L)

-- a licence
abbrev pub within : {X : Type 0} → Option ℕ → Result X PileFault → Result X PileFault
within (Some c) r = Err (OutsideLicence c)
within None r = r

abbrev pub held : ChannelSet → Result ChannelSet PileFault → Result ChannelSet PileFault
held allowed (Err f) = Err f
held allowed (Ok s) = within (first_outside s allowed) (Ok s)

-- the meanings of the two
abbrev pub beside_of : Meaning → Meaning → Meaning
beside_of a b = record {
  claimed = claim_by (shared a.claimed b.claimed) a.claimed b.claimed;
  reads = read_by (shared a.claimed b.claimed) a.claimed b.claimed a.reads b.reads;
  writes = write_by (shared a.claimed b.claimed) a.writes b.writes;
}

abbrev pub licence_of : ChannelSet → Meaning → Meaning
licence_of allowed m = record {
  claimed = m.claimed;
  reads = λ os. held allowed (m.reads os);
  writes = λ s L. within (first_outside s allowed) (m.writes s L);
}
