use Rattle.std.proofs.Common.{◌≤◌, length, sym, ◌∙◌, arith}
use Rattle.channels.specs.Sets.{no_channels}
use Rattle.std.proofs.lemmas.Result.{err_from_is_err_and}
use Rattle.plans.specs.Words.{end_of}
use Rattle.plans.proofs.Steps.{words_within}
use Rattle.plans.proofs.Placing.{first_and_rest}
use Rattle.plans.proofs.reading.parse.Goals as goal

pub returns-in_err-cell-clause-within : goal.returns-in_err-cell-clause-within
returns-in_err-cell-clause-within c =
    let p = err_from_is_err_and c.from_residual.result c.from_residual.ensures.1 in
    let is = sym c.new-words.ensures ∙ c.in-Some.ensures.steps in
    let at = first_and_rest no_channels no_channels _ c.next.new.self c.in-Some.first is (λ w. end_of w ≤ length c.args.line.now) (words_within c.args.line.now) in
    let within = c.in_err-cell.ensures.within in
    rw (p.1, p.2) (within.0, omega (arith, within.1, at.0))

pub returns-in_err-channels-clause-within : goal.returns-in_err-channels-clause-within
returns-in_err-channels-clause-within c =
    let p = err_from_is_err_and c.from_residual-in_err-channels.result c.from_residual-in_err-channels.ensures.1 in
    let is = sym c.new-words.ensures ∙ c.in-Some.ensures.steps in
    let at = first_and_rest no_channels no_channels _ c.next.new.self c.in-Some.first is (λ w. end_of w ≤ length c.args.line.now) (words_within c.args.line.now) in
    rw (p.1, p.2) (c.in_err-channels.ensures.within (length c.args.line.now) at.1)
