use Rattle.std.proofs.Common.{drop, sym, ap, ◌∙◌, ⊎_elim, arith}
use Rattle.std.proofs.lemmas.Result.{err_from_is_err_and}
use Rattle.piles.proofs.Files.{served, not_composed}
use Rattle.std.proofs.lemmas.Bool.{cases_eq}
use Rattle.piles.proofs.filing.shortest.Goals as goal

pub loop-len-preserved : goal.loop-len-preserved
loop-len-preserved g c =
    let w = c.in_default.ensures in
    let writes = (g.P.Pile.meaning c.args.pile.now).writes c.args.set.now in
    (w.1 ∙ c.loop-len.invariant.0, λ M low below. ⊎_elim (λ same. (c.in_default.field-0, ap writes same ∙ w.0)) (λ other. c.loop-len.invariant.1 M low (omega arith)) (cases_eq M c.loop-len.len))

pub returns-in-Ok : goal.returns-in-Ok
returns-in-Ok g c =
    let pile = c.args.pile.now in
    let w = c.in-Ok.ensures in
    served (g.P.Pile.meaning pile) c.args.set.now (g.met.P.Pile.lawful pile) c.args.lengths.least c.args.lengths.most c.loop-len.len c.args.out.now c.write.new.out
    (omega (arith, c.least-len.ensures)) (omega (arith, c.most-most.ensures)) w.0 (w.1 ∙ ap (drop c.loop-len.len) c.loop-len.invariant.0)
    (λ M low. c.loop-len.invariant.1 M (omega (arith, c.least-len.ensures)))

-- the loop has tried every length below the greatest
pub returns-in_err-write : goal.returns-in_err-write
returns-in_err-write g c =
    let pile = c.args.pile.now in
    let p = err_from_is_err_and c.from_residual.result c.from_residual.ensures.1 in
    let w = c.in_err-write.ensures in
    let writes = (g.P.Pile.meaning pile).writes c.args.set.now in
    rw (p.1, p.2)
    (not_composed (g.P.Pile.meaning pile) c.args.set.now (g.met.P.Pile.lawful pile) c.args.lengths.least c.args.lengths.most _ _ _
    (w.1 ∙ c.loop-len.invariant.0) (ap writes (sym c.most-most.ensures) ∙ w.0)
    (λ M low high. c.loop-len.invariant.1 M (omega (arith, c.least-len.ensures)) (omega (arith, c.most-most.ensures))))

pub returns : goal.returns
returns g c =
    let pile = c.args.pile.now in
    let w = c.in_ok-write.ensures in
    let most = c.most-most.result in
    served (g.P.Pile.meaning pile) c.args.set.now (g.met.P.Pile.lawful pile) c.args.lengths.least c.args.lengths.most most c.args.out.now c.write-2.new.out
    (omega (arith, c.most-most.ensures, c.args.lengths.some)) (omega (arith, c.most-most.ensures)) w.0 (w.1 ∙ ap (drop most) c.loop-len.invariant.0)
    (λ M low high. c.loop-len.invariant.1 M (omega (arith, c.least-len.ensures)) (omega arith))
