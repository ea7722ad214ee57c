-- The standard pile: the formats of GSM 04.08 beside one another.
use Rattle.std.specs.Prelude.{◌≡◌, None}
use Rattle.claims.specs.Views.{shared}
use Rattle.piles.specs.Laws.{Meaning}
use Rattle.piles.specs.Combined.{beside_of}
use Rattle.piles.specs.Codecs.{format_of}
use Rattle.formats.specs.BitMap0.{bit_map0}
use Rattle.formats.specs.Variable.{variable}
use Rattle.packing.specs.declared.Range.{Range}
use Rattle.packing.specs.declared.Range.TheVariants.{R1024, R512, R256, R128}
use Rattle.ranges.specs.Ranges.{range_codec}

abbrev pub range : Range → Meaning
range r = format_of (range_codec r)

-- bit map 0, variable bit map, ranges 128, 256, 512, 1024, in that order
abbrev pub from512 : Meaning
from512 = beside_of (range R512) (range R1024)

abbrev pub from256 : Meaning
from256 = beside_of (range R256) from512

abbrev pub from128 : Meaning
from128 = beside_of (range R128) from256

abbrev pub from_variable : Meaning
from_variable = beside_of (format_of variable) from128

abbrev pub standard : Meaning
standard = beside_of (format_of bit_map0) from_variable

-- no two of them claim an octet in common
pub record Apart : Type 0 where
  pub at512 : shared (range R512).claimed (range R1024).claimed ≡ None
  pub at256 : shared (range R256).claimed from512.claimed ≡ None
  pub at128 : shared (range R128).claimed from256.claimed ≡ None
  pub at_variable : shared (format_of variable).claimed from128.claimed ≡ None
  pub at_map : shared (format_of bit_map0).claimed from_variable.claimed ≡ None
