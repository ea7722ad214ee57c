use Rattle.std.proofs.Common.{◌≡◌, get_or, arith, rules}
use Rattle.std.proofs.lemmas.Grind.{common_steps}
use Rattle.notation.proofs.Backs.{cell_back}
use Rattle.notation.proofs.words.CellTryFromRefSliceU8.try_from.Goals as goal

pub returns-then-word-ne-CELL_END : goal.returns-then-word-ne-CELL_END
returns-then-word-ne-CELL_END c =
    let colon : get_or c.args.word.now 4 0 ≡ 58 = grind (arith, common_steps) in
    record { value = search rules; within = search rules; back = cell_back }

pub returns : goal.returns
returns c =
    let colon : get_or c.args.word.now 4 0 ≡ 58 = grind (arith, common_steps) in
    record { value = search rules; within = tt; back = cell_back }
