use Rattle.std.proofs.Common.{not, sym, refl, ap, ◌∙◌, arith}
use Rattle.formats.proofs.MapCalls.{some-beyond}
use Rattle.formats.proofs.bitmap0.in_map.Goals as goal

pub returns-else-not-holds : goal.returns-else-not-holds
returns-else-not-holds c = ap not (c.if-not-holds.false ∙ sym (some-beyond c.args.set.now 0 (omega arith) (sym c.holds.ensures ∙ c.if-not-holds.false) refl))
