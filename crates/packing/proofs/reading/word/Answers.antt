use Rattle.std.proofs.Common.{◌/◌, get_or, ap, ◌∙◌, arith}
use Rattle.std.proofs.lemmas.List.{get_or-take, get_or-drop}
use Rattle.packing.proofs.Fields.{word_is}
use Rattle.packing.proofs.reading.word.Goals as goal

pub returns : goal.returns
returns c =
    let os = c.args.contents.now in
    let k = c.args.at / 8 in
    c.from_be_bytes.ensures
    ∙ word_is os c.copy_from_slice.new.self k
    (λ j l. ap (λ us. get_or us j 0) (c.copy_from_slice.ensures.after ∙ c.in-Some.ensures.lookup.0.2) ∙ get_or-take _ _ j 0 (omega arith) ∙ get_or-drop k os j 0)
    (λ j. (c.type_inv.contents j).fits)
