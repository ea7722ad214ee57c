use Rattle.std.proofs.Common.{◌+◌, ◌*◌, ◌≤◌, Some, length, get_or, sym, ap, ◌∙◌, subst, ⊎_elim, arith}
use lib.Count.{count_trailing_zeros}
use Rattle.bits.proofs.Sets.{front_at, past_end, lowest-word, no_word}
use Rattle.bits.proofs.Words.lowest_where.Given as given
use Rattle.bits.proofs.Words.lowest_where.Goals as goal

pub returns-then-w-ne0 : goal.returns-then-w-ne0
returns-then-w-ne0 g c p h =
    let s = c.args.self.now in
    let t = c.args.other.now in
    let i = c.loop-i.i-iterator.count in
    let step = c.in-Some.ensures.steps in
    let a = front_at s.words i _ _ (sym c.loop-i.invariant.first ∙ step.0.0) in
    let b = front_at t.words i _ _ (sym c.loop-i.invariant.second ∙ step.0.1) in
    let whole = s.whole in
    let v = c.pair-w.result in
    let made = subst (λ x. given.F-post g c.args.pair x (get_or t.words i 0) v) (sym a.1) (subst (λ y. given.F-post g c.args.pair c.in-Some.a.now y v) (sym b.1) c.pair-w.ensures) in
    ap (λ j. Some (64 * j + count_trailing_zeros 64 v)) step.1
    ∙ sym (lowest-word p g.row.N _ h i v (omega (arith, a.0)) c.loop-i.invariant.empty made c.pair-w.type_inv c.if-w-ne0.true)

pub returns : goal.returns
returns g c p h =
    let s = c.args.self.now in
    let t = c.args.other.now in
    let i = c.loop-i.i-iterator.count in
    let all : g.row.N ≤ i =
    ⊎_elim
    (λ e. let w = s.whole in let l = past_end s.words i (ap length (sym c.loop-i.invariant.first) ∙ e.1.0) in omega arith)
    (λ e. let w = t.whole in let l = past_end t.words i (ap length (sym c.loop-i.invariant.second) ∙ e.1.0) in omega arith)
    c.in-None.ensures.steps.0 in
    sym (no_word p g.row.N _ h (λ j l. c.loop-i.invariant.empty j (omega arith)))
