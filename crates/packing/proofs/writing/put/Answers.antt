use Rattle.std.proofs.Common.{◌-◌, ◌*◌, ◌/◌, ◌%◌, ◌^◌, ◌||◌, ap, ◌∙◌, arith}
use Rattle.packing.specs.Fields.{bit_at}
use Rattle.packing.specs.Writing.{stands}
use Rattle.packing.proofs.Stands.{moved_is, moved-fits, window_stands, three}
use Rattle.packing.proofs.writing.put.Goals as goal

pub overflow_cast-window-2 : goal.overflow_cast-window-2
overflow_cast-window-2 c =
    let p = c.args.at in
    let w = c.args.wide in
    let v = c.args.number in
    record { fits = omega (arith, moved_is p w v c.requires.within c.requires.narrow, moved-fits p w v c.requires.within c.requires.narrow) }

pub returns-clause-bits : goal.returns-clause-bits
returns-clause-bits c = λ x h.
    let p = c.args.at in
    let w = c.args.wide in
    let v = c.args.number in
    let k = p / 8 in
    let V = (v * 2 ^ (24 - w)) % 4294967296 / 2 ^ (p % 8) in
    three k V x (bit_at c.args.out.now x) (bit_at c.or_octet.new.out x) (bit_at c.or_octet-2.new.out x) (bit_at c.or_octet-3.new.out x) (c.or_octet.ensures.bits x h) (c.or_octet-2.ensures.bits x (omega arith)) (c.or_octet-3.ensures.bits x (omega arith))
    ∙ ap (λ u. bit_at c.args.out.now x || stands (8 * k) 24 u x) (moved_is p w v c.requires.within c.requires.narrow)
    ∙ ap (λ z. bit_at c.args.out.now x || z) (window_stands p w v c.requires.within c.requires.narrow x)
