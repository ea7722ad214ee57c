use Rattle.std.proofs.Common.{◌≡◌, sym, ap, ◌∙◌, arith}
use Rattle.packing.specs.Slots.{slots_of}
use Rattle.packing.proofs.Counts.{count_at, counts-long, slots-none, slots-past, slots-greatest, slots-within, slots-below}
use Rattle.packing.proofs.tables.slots.Goals as goal

pub returns-then-len-eq0 : goal.returns-then-len-eq0
returns-then-len-eq0 c =
    let r = c.args.range in
    let len = c.args.len in
    let e : 0 ≡ slots_of r len = sym (ap (slots_of r) c.if-len-eq0.true ∙ slots-none r) in
    record { value = e; greatest = slots-greatest r len 0 e; few = slots-within r len 0 e; small = slots-below r len 0 e }

pub returns-in-Some : goal.returns-in-Some
returns-in-Some c =
    let r = c.args.range in
    let len = c.args.len in
    let found = c.in-Some.ensures.lookup.3 in
    let long = counts-long r c.counts.result.now c.counts.ensures in
    let e : c.in-Some.count.now ≡ slots_of r len = found.1 0 ∙ count_at r c.counts.result.now c.counts.ensures len (omega arith) (omega (arith, found.0)) in
    record { value = e; greatest = slots-greatest r len _ e; few = slots-within r len _ e; small = slots-below r len _ e }

pub returns-in-None : goal.returns-in-None
returns-in-None c =
    let r = c.args.range in
    let len = c.args.len in
    let past = c.in-None.ensures.lookup.3 in
    let long = counts-long r c.counts.result.now c.counts.ensures in
    let e : 0 ≡ slots_of r len = sym (slots-past r len (omega arith)) in
    record { value = e; greatest = slots-greatest r len 0 e; few = slots-within r len 0 e; small = slots-below r len 0 e }
