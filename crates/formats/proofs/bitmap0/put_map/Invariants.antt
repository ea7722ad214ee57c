use Rattle.std.proofs.Common.{◌≡◌, ◌++◌, map, drop}
use Rattle.std.specs.List.{range_with_len}
use Rattle.formats.specs.BitMap0.{map_octet}
use Rattle.formats.proofs.bitmap0.put_map.Given as goal

-- the octets before j are written
abbrev pub invariant-loop-j : goal.invariant-loop-j
invariant-loop-j l = l.octet-items ≡ map (map_octet l.set) (range_with_len 0 l.j) ++ drop l.j l.initial.octet-items
