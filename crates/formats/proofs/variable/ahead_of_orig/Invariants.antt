use Rattle.std.proofs.Common.{◌≡◌, ℕ, ◌*◌, ◌<◌, ◌&&◌, ltb}
use Rattle.channels.specs.Sets.{holds}
use Rattle.formats.specs.Variable.{is_marked}
use Rattle.formats.proofs.variable.ahead_of_orig.Given as goal

-- the octets before the one behind i others of the map are in the set
abbrev pub invariant-loop-i : goal.invariant-loop-i
invariant-loop-i l = (n : ℕ) → n < 1024 → holds l.seen n ≡ (ltb n (8 * l.i) && is_marked l.fn.contents n)
