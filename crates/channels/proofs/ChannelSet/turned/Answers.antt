use Rattle.std.proofs.Common.{◌≡◌, ℕ, ◌+◌, ◌-◌, ◌*◌, ◌%◌, ◌<◌, ap, ◌∙◌, arith}
use Rattle.bits.specs.Bits.{bit, bit_in}
use Rattle.bits.proofs.Sets.{made_at}
use Rattle.channels.specs.Sets.{holds}
use Rattle.channels.proofs.Views.{set_is, holds-bits}
use Rattle.channels.proofs.Ops.{turned_is}
use Rattle.channels.proofs.ChannelSet.turned.Goals as goal

pub returns : goal.returns
returns c =
    let s = c.args.self.now in
    let d = c.args.d.number in
    let bits = made_at _ 16 0 c.from_fn.ensures.items.each (λ i w. (b : ℕ) → b < 64 → bit w b ≡ holds s ((64 * i + b + 1024 - d) % 1024)) (λ i w q k. k.met) in
    set_is _ (λ k. holds s ((k + 1024 - d) % 1024))
    (λ k l. holds-bits _ k ∙ ap (λ ws. bit_in ws k) c.from.ensures ∙ turned_is s d _ (λ i l. bits i (omega arith) (omega arith)) k l)
