use Rattle.std.proofs.Common.{◌∙◌}
use Rattle.bits.proofs.Sets.{ones-words}
use Rattle.bits.proofs.Words.size.Goals as goal

pub returns : goal.returns
returns g c = let s = c.args.self.now in c.ones_of.ensures ∙ ones-words s.words g.row.N s.fits s.whole
