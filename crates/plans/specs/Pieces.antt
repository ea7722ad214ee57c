-- A word of a line.
use Rattle.std.specs.Prelude.{ℕ, List}

-- where it begins, and its bytes
pub record Piece : Type 0 where
  pub start : ℕ
  pub text : List ℕ
