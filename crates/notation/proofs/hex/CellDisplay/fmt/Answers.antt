use Rattle.std.proofs.Common.{◌≡◌, ◌<◌, ◌∷◌, ◌++◌, rules}
use Rattle.std.proofs.Output.{has_written_of_eq}
use Rattle.std.specs.Fmt.{HasWritten}
use Rattle.notation.specs.Texts.{cell_text}
use Rattle.notation.proofs.Written.{hole, hex_code}
use Rattle.notation.proofs.hex.CellDisplay.fmt.Goals as goal

pub returns-clause-writes : goal.returns-clause-writes
returns-clause-writes g c = λ plain ok.
    let cell = c.args.self.now in
    let lac : cell.lac < 65536 = search rules in
    let ci : cell.ci < 65536 = search rules in
    let text : hole 4 cell.lac ++ (58 ∷ hole 4 cell.ci) ≡ cell_text cell = λ i. hex_code cell.lac lac i ++ (58 ∷ hex_code cell.ci ci i) in
    let all : HasWritten g.W.Write.write_str_gives c.args.f.now (hole 4 cell.lac ++ (58 ∷ hole 4 cell.ci)) c.write.new.self = search rules in
    has_written_of_eq _ _ _ _ _ text all
