use Rattle.std.proofs.Common.{◌≡◌, ◌++◌, drop, vec_items}
use Rattle.notation.specs.Lists.{runs_from, spans_of}
use Rattle.notation.proofs.lists.runs.Given as goal

-- what is left gives the runs behind those that are pushed
abbrev pub invariant-loop-c : goal.invariant-loop-c
invariant-loop-c l = vec_items l.spans ++ runs_from l.low l.high (drop l.c-index l.others) ≡ spans_of l.channels
