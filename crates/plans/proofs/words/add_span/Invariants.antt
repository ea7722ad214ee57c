use Rattle.std.proofs.Common.{◌≡◌}
use Rattle.plans.proofs.Spreads.{up_to}
use Rattle.plans.proofs.words.add_span.Given as goal

abbrev pub invariant-loop-c : goal.invariant-loop-c
invariant-loop-c l = l.set ≡ up_to l.initial.set l.low l.c
