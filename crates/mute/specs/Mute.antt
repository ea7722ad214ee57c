-- A pile that claims every first octet, and reads and writes nothing.
use Rattle.std.specs.Prelude.{true, Err}
use Rattle.faults.specs.declared.Cause.TheVariants.{NumberAfterNull, OutsideLicence}
use Rattle.faults.specs.declared.Layer.TheVariants.{Pile, Volume}
use Rattle.faults.specs.declared.PileFault.TheVariants.{Maker}
use Rattle.piles.specs.Laws.{Meaning}

abbrev pub mute : Meaning
mute = record {
  claimed = λ _. true;
  reads = λ _. Err (Maker NumberAfterNull Pile 5);
  writes = λ _ L. Err (Maker OutsideLicence Volume L);
}
