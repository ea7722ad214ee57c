use Rattle.std.proofs.Common.{ℕ}
use Rattle.channels.proofs.Ops.{Part}
use Rattle.channels.proofs.ChannelSet.list_word.Given as goal

-- the bits below p are done
abbrev pub invariant-loop-w : goal.invariant-loop-w
invariant-loop-w l = (p : ℕ) × Part l.self l.i l.n p l.w l.out l.initial.out

abbrev pub decreases-loop-w : goal.decreases-loop-w
decreases-loop-w l = l.w
