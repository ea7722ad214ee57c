use Rattle.std.proofs.Common.{◌+◌, sym, ◌∙◌, arith}
use Rattle.bits.specs.Numbers.{from_on}
use Rattle.bits.proofs.Lows.{lowest_is_none, lowest-same}
use Rattle.channels.specs.Sets.{above}
use Rattle.channels.proofs.Ops.{above-below, above-from}
use Rattle.channels.proofs.ChannelSet.next_above.Goals as goal

pub returns-then-n : goal.returns-then-n
returns-then-n c = sym (lowest_is_none (above c.args.self.now c.args.n) 1024 (λ k h. above-below c.args.self.now c.args.n k (omega arith)))

pub returns : goal.returns
returns c =
    let s = c.args.self.now in
    c.lowest_from.ensures ∙ lowest-same (from_on s.numbers (c.args.n + 1)) (above s c.args.n) 1024 (λ k h. above-from s c.args.n k)
