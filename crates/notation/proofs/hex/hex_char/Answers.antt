use Rattle.std.proofs.Common.{◌≡◌, ◌+◌, ◌-◌, [], ◌∷◌, ap, ◌∙◌, arith, rules}
use Rattle.std.proofs.lemmas.Str.{encode_ascii}
use Rattle.notation.specs.Texts.{hex_char}
use Rattle.notation.proofs.hex.hex_char.Goals as goal

pub returns-then-d-lt-TEN : goal.returns-then-d-lt-TEN
returns-then-d-lt-TEN c =
    let e : 48 + c.args.d ≡ hex_char c.args.d = search rules in
    record { value = e; spelt = encode_ascii _ (omega arith) ∙ ap (λ x. x ∷ []) e }

pub returns-else-d-lt-TEN : goal.returns-else-d-lt-TEN
returns-else-d-lt-TEN c =
    let e : 65 + (c.args.d - 10) ≡ hex_char c.args.d = search rules in
    record { value = e; spelt = encode_ascii _ (omega arith) ∙ ap (λ x. x ∷ []) e }
