use Rattle.std.proofs.Common.{◌≡◌, ◌++◌, map, drop}
use Rattle.std.specs.List.{range_with_len}
use Rattle.origins.specs.Origins.{seen_from}
use Rattle.formats.specs.Variable.{variable_octet}
use Rattle.formats.proofs.variable.put_from.Given as goal

-- the octets before j are written
abbrev pub invariant-loop-j : goal.invariant-loop-j
invariant-loop-j l = l.o-items ≡ map (variable_octet (seen_from l.set l.orig) l.orig) (range_with_len 0 l.j) ++ drop l.j l.initial.o-items
