use Rattle.std.proofs.Common.{ap, ◌∙◌}
use Rattle.std.proofs.lemmas.Result.{IfOk-weaker}
use Rattle.plans.specs.Reports.{channel_text, likeness_text, composed_of, composed_text}
use Rattle.plans.proofs.reporting.composed.Goals as goal

pub returns : goal.returns
unfolding composed_text channel_text
returns c =
    IfOk-weaker c.format.result _ _
    (λ s e alike. e
    ∙ (λ i. composed_of (c.in_ok-octets.ensures i) ((c.in_ok-back.ensures ∙ ap channel_text alike) i) ((c.likeness-same.ensures ∙ ap likeness_text (c.eq.ensures.decides.1 alike)) i)))
    c.format.ensures.ok
