use Rattle.std.proofs.Common.{false, refl, ◌∙◌}
use Rattle.channels.proofs.Views.{set_is, holds-bits, words_decide, view_laws, member_laws}
use Rattle.channels.proofs.ChannelSet.new.Goals as goal

pub returns-clause-empty : goal.returns-clause-empty
returns-clause-empty c = set_is _ (λ _. false) (λ k l. holds-bits _ k ∙ c.none.ensures k)

pub returns-clause-view : goal.returns-clause-view
returns-clause-view c = view_laws

pub returns-clause-members : goal.returns-clause-members
returns-clause-members c = member_laws

pub returns-clause-equality : goal.returns-clause-equality
returns-clause-equality c = λ a b. words_decide a b _ refl
