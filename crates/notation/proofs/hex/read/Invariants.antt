use Rattle.std.proofs.Common.{◌≡◌, ◌-◌, ◌≤◌, length, drop, vec_items}
use Rattle.notation.specs.Octets.{before, octets_from, octets_of}
use Rattle.notation.proofs.hex.read.Given as goal

-- what is left is the end of the text, and gives the octets behind those that are read
abbrev pub invariant-loop-first : goal.invariant-loop-first
invariant-loop-first l = record {
  short : length l.rest ≤ length l.text;
  end : l.rest ≡ drop (length l.text - length l.rest) l.text;
  octets : before (vec_items l.octets) (octets_from (length l.text - length l.rest) l.rest) ≡ octets_of l.text;
}

abbrev pub decreases-loop-first : goal.decreases-loop-first
decreases-loop-first l = length l.rest
