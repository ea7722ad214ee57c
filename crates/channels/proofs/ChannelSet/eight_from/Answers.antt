use Rattle.std.proofs.Common.{◌+◌, ◌%◌, sym, ◌∙◌, arith}
use Rattle.std.proofs.lemmas.Nat.{mod_below}
use Rattle.bits.proofs.Digits.{bits-same, bit_mod, bit-number, number-below}
use Rattle.channels.specs.Sets.{holds, eight_from}
use Rattle.channels.proofs.Views.{holds-bits}
use Rattle.channels.proofs.ChannelSet.eight_from.Goals as goal

pub returns : goal.returns
returns c =
    let s = c.args.self.now in
    let from = c.args.from in
    bits-same 8 (c.window.result % 256) (eight_from s from) (mod_below c.window.result 256 (omega arith)) (number-below (λ k. holds s (from + k)) 8)
    (λ k l. bit_mod c.window.result 8 k l ∙ c.window.ensures k (omega arith) ∙ sym (bit-number (λ k. holds s (from + k)) 8 k l ∙ holds-bits s (from + k)))
