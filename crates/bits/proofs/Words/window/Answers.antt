use Rattle.std.proofs.Common.{◌+◌, ◌-◌, ◌%◌, cond, ltb, ap, ◌∙◌, ap₂}
use Rattle.bits.specs.Bits.{bit}
use Rattle.bits.proofs.Sets.{window_low, window_high}
use Rattle.bits.proofs.Words.window.Goals as goal

pub returns-then-r-eq0 : goal.returns-then-r-eq0
returns-then-r-eq0 g c k l = ap (λ w. bit w k) c.word.ensures ∙ window_low c.args.self.now.words c.args.from k c.if-r-eq0.true l

pub returns-else-r-eq0 : goal.returns-else-r-eq0
returns-else-r-eq0 g c k l =
    let r = 64 - c.args.from % 64 in
    c.joined.ensures k l
    ∙ ap₂ (λ low high. cond (ltb k r) (bit low (k + 64 - r)) (bit high (k - r))) c.word-else-r-eq0-2.ensures c.word-else-r-eq0.ensures
    ∙ window_high c.args.self.now.words c.args.from k c.if-r-eq0.false l
