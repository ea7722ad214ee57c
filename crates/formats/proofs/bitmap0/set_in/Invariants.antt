use Rattle.std.proofs.Common.{◌≡◌, ℕ, ◌-◌, ◌*◌, ◌<◌, ◌&&◌, ltb}
use Rattle.channels.specs.Sets.{holds}
use Rattle.formats.specs.BitMap0.{map_bit}
use Rattle.formats.proofs.bitmap0.set_in.Given as goal

-- the octets before i are in the set
abbrev pub invariant-loop-i : goal.invariant-loop-i
invariant-loop-i l = (c : ℕ) → c < 1024 → holds l.set c ≡ (ltb (8 * (16 - l.i)) c && map_bit l.contents c)
