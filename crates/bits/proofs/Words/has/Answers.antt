use Rattle.std.proofs.Common.{◌∙◌, ap, sym, ◌%◌}
use Rattle.bits.specs.Bits.{bit}
use Rattle.bits.proofs.Lists.{in_split}
use Rattle.bits.proofs.Words.has.Goals as goal

pub returns : goal.returns
returns g c = c.bit_of.ensures ∙ ap (λ w. bit w (c.args.c % 64)) c.word.ensures ∙ sym (in_split c.args.self.now.words c.args.c)
