use Rattle.spread.proofs.Sizes.{half_is}
use Rattle.spread.proofs.Part.circle.Goals as goal

pub returns : goal.returns
returns c = half_is c.args.self.width c.requires c.args.self.narrow
