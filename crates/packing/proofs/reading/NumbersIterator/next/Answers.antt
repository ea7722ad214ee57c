use Rattle.std.proofs.Common.{◌-◌, ◌+◌, ◌<◌, ◌∷◌, length, sym, ap, ap₂, ◌∙◌, arith}
use Rattle.packing.specs.Fields.{field}
use Rattle.packing.specs.Reading.{slots_in, numbers_from}
use Rattle.packing.proofs.Counts.{slots-few, slots_small}
use Rattle.packing.proofs.Readings.{next-near, numbers-none, numbers-more, length-numbers, step-read, step-place}
use Rattle.packing.proofs.reading.NumbersIterator.next.Goals as goal

pub returns-then-self-eq0-clause-steps : goal.returns-then-self-eq0-clause-steps
returns-then-self-eq0-clause-steps c =
    let s = c.self.inside in
    let e = sym c.self.view_is ∙ numbers-none s.range s.window.contents.now s.i s.left c.if-self-eq0.true in
    (e, e)

pub width_at-wide-requires-clause-inside : goal.width_at-wide-requires-clause-inside
width_at-wide-requires-clause-inside c = omega (arith, slots-few c.self.inside.range (length c.self.inside.window.contents.now), c.self.invariant.room)

pub covering-window-requires-clause-near : goal.covering-window-requires-clause-near
covering-window-requires-clause-near c = omega (arith, next-near _ _ _ _ _ _ c.self.invariant (omega arith))

pub overflow_add-end : goal.overflow_add-end
overflow_add-end c = record { fits = omega (arith, next-near _ _ _ _ _ _ c.self.invariant (omega arith)) }

pub overflow_add-self : goal.overflow_add-self
overflow_add-self c = record { fits = omega (arith, slots_small c.self.inside.range (length c.self.inside.window.contents.now), c.self.invariant.room) }

pub invariant_of-self : goal.invariant_of-self
invariant_of-self c =
    let s = c.self.inside in
    let v = c.self.invariant in
    record {
      first = omega arith;
      room = omega (arith, v.room, ap (slots_in s.range) c.covering-window.ensures.same);
      place = step-place s.range s.i s.at c.width_at-wide.result.bits v.first v.place c.width_at-wide.ensures;
      shown = omega arith;
    }

pub returns-clause-steps : goal.returns-clause-steps
returns-clause-steps c =
    let s = c.self.inside in
    let os = s.window.contents.now in
    let same = c.covering-window.ensures.same in
    let e = step-read s.range os s.i s.at c.width_at-wide.result.bits c.number-number.result c.self.invariant.place c.width_at-wide.ensures
    (c.number-number.ensures ∙ ap (λ us. field us s.at c.width_at-wide.result.bits) same) in
    sym c.self.view_is ∙ numbers-more s.range os s.i s.left (omega arith)
    ∙ ap₂ (λ x ys. x ∷ ys) (sym e) (ap (λ us. numbers_from s.range us (s.i + 1) (s.left - 1)) (sym same))

pub returns-clause-goes : goal.returns-clause-goes
returns-clause-goes c =
    let s = c.self.inside in
    let os = s.window.contents.now in
    let now = c.covering-window.result.contents.now in
    let less : length (numbers_from s.range now (s.i + 1) (s.left - 1)) < length c.args.self.now =
    omega (arith, length-numbers s.range now (s.i + 1) (s.left - 1), length-numbers s.range os s.i s.left, ap length c.self.view_is) in
    record { on = λ _. (tt, tt, less); keeps = tt; rests = λ _. tt }
