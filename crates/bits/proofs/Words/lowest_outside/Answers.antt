use Rattle.std.proofs.Common.{rules, ◌≡◌, ◌-◌, ◌^◌, not, ◌&&◌, get_or, sym, ap, ap₂, ◌∙◌}
use lib.Bits.{bit_and}
use Rattle.bits.specs.Bits.{bit}
use Rattle.bits.specs.Numbers.{in_first}
use Rattle.bits.proofs.Digits.{bit-without}
use Rattle.bits.proofs.Lists.{in_at}
use Rattle.bits.proofs.Words.lowest_outside.Goals as goal

pub returns : goal.returns
returns g c =
    let s = c.args.self.now in
    let t = c.args.other.now in
    c.lowest_where.ensures (in_first s t) (λ i w b l m made.
    let e : w ≡ bit_and (get_or s.words i 0) (2 ^ 64 - 1 - get_or t.words i 0) = search rules in
    ap₂ (λ x y. x && not y) (in_at s.words i b m) (in_at t.words i b m) ∙ sym (bit-without (get_or s.words i 0) (get_or t.words i 0) b (t.fits i) m) ∙ ap (λ v. bit v b) (sym e))
