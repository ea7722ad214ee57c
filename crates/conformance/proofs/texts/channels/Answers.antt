use Rattle.std.proofs.Common.{◌≤◌, length, sym, ◌∙◌, rules}
use Rattle.channels.proofs.Views.{member_laws}
use Rattle.notation.proofs.Runs.{front-within}
use Rattle.conformance.proofs.texts.channels.Goals as goal

pub slice_bounds-to_string-end : goal.slice_bounds-to_string-end
slice_bounds-to_string-end c =
    let told = c.members-count.ensures in
    let few : c.members-count.result ≤ length c.members-count.new.out = front-within _ _ _ told.front (member_laws.count c.args.set.now ∙ sym told.count) in
    search rules
