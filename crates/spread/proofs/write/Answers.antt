use Rattle.std.proofs.Common.{◌≡◌, ◌+◌, ◌*◌, get_or, ap, ◌∙◌, arith}
use Rattle.spread.proofs.Trips.{wrote}
use Rattle.spread.proofs.write.Goals as goal

pub returns-clause-outcome : goal.returns-clause-outcome
returns-clause-outcome c =
    let u = c.write.new.table in
    let e = c.whole.ensures in
    let here = rw (e.width, e.stride, e.rest) at c.write.ensures.here in
    let beside = rw (e.stride, e.rest) at c.write.ensures.beside in
    let fit = c.in_ok-fits.ensures in (
      fit,
      wrote c.args.k c.args.members.now c.args.table.now u fit.listed
          (λ i l h. ap (λ x. get_or u x 0) (let z : i ≡ i * 1 + 0 = omega arith in z) ∙ here i l h)
          (λ i n. beside i (λ j l h e. n (omega arith) (omega arith))),
    )
