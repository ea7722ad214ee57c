use Rattle.std.proofs.Common.{take, drop, slice_set, ap, ◌∙◌, arith}
use Rattle.std.proofs.lemmas.List.{length-take-le, take_at, drop_at}
use Rattle.channels.specs.declared.ChannelSet.{ChannelSet}
use Rattle.origins.specs.Origins.{seen_from}
use Rattle.packing.specs.Writing.{octets_of}
use Rattle.formats.specs.Variable.{variable_octet}
use Rattle.formats.proofs.Prefix.{front_more, front_all}
use Rattle.formats.proofs.variable.put_from.Goals as goal

pub loop-j-preserved : goal.loop-j-preserved
loop-j-preserved c =
    let o = c.args.orig in
    let f = variable_octet (seen_from c.args.set.now o) o in
    ap (slice_set c.loop-j.o-items c.loop-j.j) (c.octet.ensures ∙ ap (λ (t : ChannelSet). variable_octet t o c.loop-j.j) c.turned_down.ensures.value)
    ∙ front_more f c.loop-j.o-items (take c.args.len c.args.out.now) c.loop-j.j (omega arith) c.loop-j.invariant

pub returns : goal.returns
unfolding octets_of
returns c =
    let o = c.args.orig in
    let n = c.args.len in
    let out = c.args.out.now in
    let long = length-take-le n out (omega (arith, c.told-out)) in
    let all = front_all (variable_octet (seen_from c.args.set.now o) o) c.loop-j.o-items (take n out) n c.loop-j.j long (omega (arith, long, c.loop-j-test.false)) c.loop-j.invariant in
    let exact = c.loop-j.auto.o-items ∙ long in
    record { front = take_at c.loop-j.o-items (drop n out) n exact ∙ all; rest = drop_at c.loop-j.o-items (drop n out) n exact }
