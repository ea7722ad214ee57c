-- What is printed of a cell can be put into a plan again.
use Rattle.std.specs.Prelude.{◌≡◌, ℕ, ◌<◌, false, if◌then◌else◌, List, [], ◌∷◌, ◌++◌, Some, Ok, ◌==◌}
use Rattle.channels.specs.declared.ChannelSet.{ChannelSet}
use Rattle.channels.specs.Sets.{size_of}
use Rattle.notation.specs.declared.Cell.{Cell}
use Rattle.notation.specs.Codes.{deleted, cell_at}
use Rattle.notation.specs.Texts.{cell_text}
use Rattle.plans.specs.Lines.{entry, line_of}
use Rattle.plans.specs.Reports.{channel_text}

-- a cell, and its channels as they are printed if it has any
abbrev pub as_line : Cell → ChannelSet → List ℕ
as_line c s = cell_text c ++ (if size_of s == 0 then [] else 32 ∷ channel_text s)

pub record PasteLaws : Type 0 where
  pub back : (lac ci : ℕ) (s : ChannelSet) → lac < 65536 → ci < 65536 → deleted lac ≡ false → line_of (as_line (cell_at lac ci) s) ≡ Ok (Some (entry (cell_at lac ci) s))
