use Rattle.std.proofs.Common.{ap, ◌∙◌}
use Rattle.std.proofs.lemmas.Result.{IfOk-weaker}
use Rattle.plans.specs.Reports.{noun, channel_text, head_of, head_text}
use Rattle.plans.proofs.reporting.head.Goals as goal

pub returns : goal.returns
unfolding head_text channel_text
returns c =
    let count = c.size-count.ensures in
    IfOk-weaker c.format.result _ _
    (λ s e. e ∙ (λ i. head_of c.args.number c.args.entry.now.cell (count i) ((c.plural-noun.ensures ∙ ap noun count) i) (c.in_ok-list.ensures i)))
    c.format.ensures.ok
