use Rattle.std.proofs.Common.{◌≤◌, length, sym, ap, ◌∙◌, rules}
use Rattle.channels.proofs.Views.{member_laws}
use Rattle.std.proofs.lemmas.Result.{IfOk-weaker}
use Rattle.notation.specs.Lists.{spans_of, covers}
use Rattle.notation.proofs.Covers.{spans_exact}
use Rattle.notation.proofs.Runs.{front-within}
use Rattle.notation.proofs.lists.spans.Goals as goal

pub slice_bounds-channels-end : goal.slice_bounds-channels-end
slice_bounds-channels-end c =
    let told = c.members-count.ensures in
    let few : c.members-count.result ≤ length c.members-count.new.out = front-within _ _ _ told.front (member_laws.count c.args.set.now ∙ sym told.count) in
    search rules

pub slice_bounds-runs-end : goal.slice_bounds-runs-end
slice_bounds-runs-end c =
    let told = c.members-count.ensures in
    sym (ap length told.front ∙ member_laws.count c.args.set.now ∙ sym told.count)

pub returns-clause-exact : goal.returns-clause-exact
returns-clause-exact c =
    let is = ap spans_of c.members-count.ensures.front in
    IfOk-weaker c.runs.result _ _ (λ v e k. ap (λ l. covers l k) (e ∙ is) ∙ spans_exact member_laws c.args.set.now k) c.runs.ensures
