-- What is written is read as what it was written for.
use Rattle.std.specs.Prelude.{◌≡◌, ℕ, ◌<◌, ◌≤◌, false, Ok, decimal}
use Rattle.notation.specs.Numbers.{span, number_of, span_of}
use Rattle.notation.specs.Codes.{cell_at, code_of, deleted, cell_of}
use Rattle.notation.specs.Texts.{code_text, cell_text}
use Rattle.notation.specs.Lists.{span_text}

abbrev pub NumberBack : Type 0
NumberBack = (n : ℕ) → n < 65536 → number_of (decimal n) ≡ Ok n

abbrev pub RangeBack : Type 0
RangeBack = (low high : ℕ) → low ≤ high → high < 65536 → span_of (span_text (span low high)) ≡ Ok (span low high)

abbrev pub CodeBack : Type 0
CodeBack = (n : ℕ) → n < 65536 → code_of (code_text n) ≡ Ok n

abbrev pub CellBack : Type 0
CellBack = (lac ci : ℕ) → lac < 65536 → ci < 65536 → deleted lac ≡ false → cell_of (cell_text (cell_at lac ci)) ≡ Ok (cell_at lac ci)
