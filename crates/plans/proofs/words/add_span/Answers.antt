use Rattle.std.proofs.Common.{◌≡◌, ◌≤◌, true, ap, ◌∙◌, arith}
use Rattle.channels.specs.Sets.{put}
use Rattle.channels.proofs.Views.{changed}
use Rattle.plans.proofs.Spreads.{up_to, starts, goes_on, ends_with}
use Rattle.plans.proofs.words.add_span.Goals as goal

pub loop-c-init : goal.loop-c-init
loop-c-init c = starts c.add.new.self c.args.span.low

pub loop-c-preserved : goal.loop-c-preserved
loop-c-preserved c =
    let low = c.args.span.low in
    let small : c.loop-c.c ≤ 1023 = omega (arith, c.in_ok-add.ensures.0) in
    changed c.loop-c.c _ _ _ _ small c.add-in-loop-c.ensures
    ∙ ap (λ s. put s c.loop-c.c true) c.loop-c.invariant ∙ goes_on c.add.new.self low c.loop-c.c c.loop-c.auto.c

pub returns : goal.returns
returns c =
    let low = c.args.span.low in
    let high = c.args.span.high in
    let told = c.in_ok-add.ensures in
    let last : c.loop-c.c ≡ high = omega arith in
    (told.0, c.loop-c.invariant ∙ (λ j. up_to (told.1 j) low (last j)) ∙ ends_with c.args.set.now low high c.requires (omega (arith, told.0)))
