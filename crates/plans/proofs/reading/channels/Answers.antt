use Rattle.std.proofs.Common.{◌≤◌, ◌∙◌, arith}
use Rattle.std.proofs.lemmas.Result.{err_from_is_err_and}
use Rattle.plans.specs.Words.{end_of}
use Rattle.plans.proofs.Placing.{one_more, first_and_rest}
use Rattle.plans.proofs.reading.channels.Goals as goal

pub loop-word-preserved : goal.loop-word-preserved
loop-word-preserved c =
    let all = c.loop-word.word-iterator in
    let ws = c.next.new.self in
    let is = c.in-Some.ensures.steps in
    let told = c.loop-word.invariant in (
      tt,
      tt,
      one_more c.loop-word.set c.add_to.new.set all ws c.in-Some.word is c.in_ok-add_to.ensures.value ∙ told.2,
      λ n h. (first_and_rest c.loop-word.set c.add_to.new.set all ws c.in-Some.word is (λ w. end_of w ≤ n) (told.3 n h)).1,
    )

pub returns-in_err-add_to-clause-within : goal.returns-in_err-add_to-clause-within
returns-in_err-add_to-clause-within c = λ n h.
    let p = err_from_is_err_and c.from_residual.result c.from_residual.ensures.1 in
    let at = first_and_rest c.loop-word.set c.loop-word.set c.loop-word.word-iterator c.next.new.self c.in-Some.word c.in-Some.ensures.steps (λ w. end_of w ≤ n) (c.loop-word.invariant.3 n h) in
    let within = c.in_err-add_to.ensures.within in
    rw (p.1, p.2) (within.0, omega (arith, within.1, at.0))
