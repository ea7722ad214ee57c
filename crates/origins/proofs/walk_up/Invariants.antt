use Rattle.std.proofs.Common.{◌≡◌, ◌+◌, ◌-◌, ◌≤◌, true}
use Rattle.channels.specs.Sets.{holds}
use Rattle.origins.specs.Origins.{later_origin}
use Rattle.origins.proofs.walk_up.Given as goal

-- the members up to `highest` are seen
abbrev pub invariant-loop-c : goal.invariant-loop-c
invariant-loop-c l = record {
  held : holds l.set l.highest ≡ true;
  up : l.lowest ≤ l.highest;
  later : l.later ≡ later_origin l.set l.reach l.lowest (l.highest + 1);
}

abbrev pub decreases-loop-c : goal.decreases-loop-c
decreases-loop-c l = 1024 - l.highest
