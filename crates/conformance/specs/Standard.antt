-- The standard pile keeps the laws of piles, since the formats beside one another do.
use Rattle.packing.specs.declared.Range.TheVariants.{R1024, R512, R256, R128}
use Rattle.piles.specs.Laws.{Lawful}
use Rattle.piles.specs.Combine.{beside_keeps}
use Rattle.formats.specs.BitMap0.{bit_map0}
use Rattle.formats.specs.Variable.{variable}
use Rattle.piles.specs.Faithful.{format_lawful}
use Rattle.formats.specs.MapLaws.{map_faithful}
use Rattle.formats.specs.VariableLaws.{variable_faithful}
use Rattle.ranges.specs.RangeLaws.{range_lawful}
use Rattle.standard.specs.Standard.{standard}

pub standard_lawful : Lawful standard
standard_lawful =
    let from512 = beside_keeps _ _ (range_lawful R512) (range_lawful R1024) in
    let from256 = beside_keeps _ _ (range_lawful R256) from512 in
    let from128 = beside_keeps _ _ (range_lawful R128) from256 in
    let from_variable = beside_keeps _ _ (format_lawful variable variable_faithful) from128 in
    beside_keeps _ _ (format_lawful bit_map0 map_faithful) from_variable
