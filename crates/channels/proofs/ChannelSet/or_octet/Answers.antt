use Rattle.std.proofs.Common.{◌≡◌, ◌-◌, ◌<◌, Bool, true, false, ◌&&◌, ◌||◌, leb, sym, refl, ap, ◌∙◌, arith}
use Rattle.bits.specs.Bits.{bit}
use Rattle.channels.specs.Sets.{holds}
use Rattle.channels.proofs.Views.{set_is}
use Rattle.channels.proofs.Ops.{lower, upper, eight_bits, eight_low}
use Rattle.channels.proofs.ChannelSet.or_octet.Goals as goal

or_assoc : (x y z : Bool) → ((x || y) || z) ≡ (x || (y || z))
or_assoc true y z = refl
or_assoc false y z = refl

pub returns-then-r-gt56 : goal.returns-then-r-gt56
unfolding holds
returns-then-r-gt56 c =
    let s = c.args.self.now in
    let from = c.args.from in
    let o = c.args.octet in
    let small : o < 256 = omega arith in
    set_is _ (λ k. holds s k || (leb from k && bit o (k - from))) (λ k l.
    c.insert_word-then-r-gt56.ensures k ∙ ap (λ x. x || upper o from k small) (c.insert_word.ensures k)
    ∙ or_assoc (holds s k) (lower o from k small) (upper o from k small) ∙ ap (λ x. holds s k || x) (sym (eight_bits o from k small)))

pub returns-else-r-gt56 : goal.returns-else-r-gt56
unfolding holds
returns-else-r-gt56 c =
    let s = c.args.self.now in
    let from = c.args.from in
    let o = c.args.octet in
    let small : o < 256 = omega arith in
    set_is _ (λ k. holds s k || (leb from k && bit o (k - from))) (λ k l.
    c.insert_word.ensures k ∙ ap (λ x. holds s k || x) (sym (eight_low o from k small c.if-r-gt56.false)))
