use Rattle.std.proofs.Common.{rules, ◌≡◌, ◌&&◌, get_or, sym, ap, ap₂, ◌∙◌}
use lib.Bits.{bit_and}
use Rattle.bits.specs.Bits.{bit}
use Rattle.bits.specs.Numbers.{in_both}
use Rattle.bits.proofs.Digits.{bit-and}
use Rattle.bits.proofs.Lists.{in_at}
use Rattle.bits.proofs.Words.lowest_in_both.Goals as goal

pub returns : goal.returns
returns g c =
    let s = c.args.self.now in
    let t = c.args.other.now in
    c.lowest_where.ensures (in_both s t) (λ i w b l m made.
    let e : w ≡ bit_and (get_or s.words i 0) (get_or t.words i 0) = search rules in
    ap₂ (λ x y. x && y) (in_at s.words i b m) (in_at t.words i b m) ∙ sym (bit-and (get_or s.words i 0) (get_or t.words i 0) b) ∙ ap (λ v. bit v b) (sym e))
