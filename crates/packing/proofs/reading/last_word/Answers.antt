use Rattle.std.proofs.Common.{◌/◌, ◌∙◌}
use Rattle.packing.proofs.Fields.{field_eight}
use Rattle.packing.proofs.reading.last_word.Goals as goal

pub returns : goal.returns
returns c =
    c.from_be_bytes.ensures
    ∙ field_eight c.args.contents.now (c.args.at / 8)
    c.octet.result c.octet-2.result c.octet-3.result c.octet-4.result c.octet-5.result c.octet-6.result c.octet-7.result c.octet-8.result
    c.octet.ensures c.octet-2.ensures c.octet-3.ensures c.octet-4.ensures c.octet-5.ensures c.octet-6.ensures c.octet-7.ensures c.octet-8.ensures
    c.octet.type_inv c.octet-2.type_inv c.octet-3.type_inv c.octet-4.type_inv c.octet-5.type_inv c.octet-6.type_inv c.octet-7.type_inv c.octet-8.type_inv
