use Rattle.std.proofs.Common.{◌+◌, ◌-◌, ◌*◌, ◌<◌, length, drop, ap, ◌∙◌, arith}
use Rattle.std.proofs.lemmas.List.{get_or-take, get_or-drop, length-drop, length-take-le}
use Rattle.channels.specs.declared.ChannelSet.{ChannelSet}
use Rattle.channels.specs.Sets.{holds, put_eight}
use Rattle.channels.proofs.Views.{changed}
use Rattle.formats.proofs.VariableOctets.{marked_more, all-marked}
use Rattle.formats.proofs.variable.ahead_of_orig.Goals as goal

pub loop-i-preserved : goal.loop-i-preserved
loop-i-preserved c n l =
    let os = c.args.contents.now in
    let i = c.loop-i.i in
    let from = 8 * i in
    let v = c.channel_bits.result in
    let rest = length-take-le (length os - 2) (drop 2 os) (omega (arith, length-drop 2 os)) in
    let inside : i < length os - 2 = omega (arith, rest, c.loop-i-test.true) in
    ap (λ (s : ChannelSet). holds s n) (changed (from + 7) c.add_eight.result _ (put_eight c.loop-i.seen from v) _ (omega arith) c.add_eight.ensures)
    ∙ marked_more os i _ v c.loop-i.seen (get_or-take (length os - 2) (drop 2 os) i 0 inside ∙ get_or-drop 2 os i 0) c.channel_bits.ensures c.loop-i.invariant n l

pub returns : goal.returns
returns c =
    let os = c.args.contents.now in
    let rest = length-take-le (length os - 2) (drop 2 os) (omega (arith, length-drop 2 os)) in
    all-marked os c.loop-i.seen c.loop-i.i (omega (arith, rest, c.loop-i-test.false)) c.loop-i.invariant (omega (arith, rest, c.loop-i-test.false, c.requires.least))
