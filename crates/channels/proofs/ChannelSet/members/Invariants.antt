use Rattle.std.proofs.Common.{◌≡◌, ◌*◌, drop}
use Rattle.channels.specs.Sets.{Listed}
use Rattle.channels.proofs.ChannelSet.members.Given as goal

abbrev pub invariant-loop-word : goal.invariant-loop-word
invariant-loop-word l = Listed l.self (64 * l.word) l.n l.out × (drop l.n l.out ≡ drop l.n l.initial.out)
