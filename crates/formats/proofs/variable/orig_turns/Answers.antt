use Rattle.formats.proofs.VariableOctets.{turned_to_orig}
use Rattle.formats.proofs.variable.orig_turns.Goals as goal

pub returns : goal.returns
returns c = turned_to_orig c.args.contents.now
