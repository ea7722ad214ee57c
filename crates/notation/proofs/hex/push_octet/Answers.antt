use Rattle.std.proofs.Common.{string_bytes, refl, ◌∙◌}
use lib.Utf8.{encode}
use Rattle.std.proofs.lemmas.Slice.{pushed}
use Rattle.notation.proofs.Written.{two_more}
use Rattle.notation.proofs.hex.push_octet.Goals as goal

pub returns : goal.returns
returns c =
    let one = pushed (encode c.hex_char.result) refl c.in_ok-push.was c.push.ensures.bytes in
    let two = pushed (encode c.hex_char-2.result) one c.in_ok-push-2.was c.push-2.ensures.bytes in
    two ∙ two_more (string_bytes c.args.text.now) _ _ _ _ c.hex_char.ensures.spelt c.hex_char-2.ensures.spelt
