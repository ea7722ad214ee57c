-- What a word is read as; the place of a fault is in the word or at its end, and what was written is read back.
use Rattle.std.specs.Prelude.{◌≡◌, ℕ, ◌≤◌, List, length, IfOk, IfErr, Result}
use Rattle.notation.specs.declared.WordFault.{WordFault}
use Rattle.notation.specs.declared.Span.{Span}
use Rattle.notation.specs.declared.Cell.{Cell}
use Rattle.notation.specs.Numbers.{span_of}
use Rattle.notation.specs.Codes.{cell_of}
use Rattle.notation.specs.Back.{RangeBack, CellBack}

-- a channel or a range of them
pub record ReadsSpan (bs : List ℕ) (r : Result Span WordFault) : Type 0 where
  pub value : r ≡ span_of bs
  pub ordered : IfOk r (λ s. s.low ≤ s.high)
  pub within : IfErr r (λ f. f.offset ≤ length bs)
  pub back : RangeBack

-- a cell
pub record ReadsCell (bs : List ℕ) (r : Result Cell WordFault) : Type 0 where
  pub value : r ≡ cell_of bs
  pub within : IfErr r (λ f. f.offset ≤ length bs)
  pub back : CellBack
