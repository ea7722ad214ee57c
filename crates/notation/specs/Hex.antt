-- What a call that reads octets answers: a text at fault, the octets of a good one, or that memory failed.
use Rattle.std.specs.Prelude.{◌≡◌, ℕ, List, Ok, Err, vec_items, Result, Vec}
use Rattle.std.specs.declared.alloc.Global.{Global}
use Rattle.notation.specs.declared.WordFault.{WordFault}
use Rattle.notation.specs.declared.hex.HexFault.{HexFault}
use Rattle.notation.specs.declared.hex.HexFault.TheVariants.{Word, Memory}

abbrev pub Read : Result (List ℕ) WordFault → Result (Vec ℕ Global) HexFault → Type 0
Read meant (Ok v) = meant ≡ Ok (vec_items v)
Read meant (Err (Word f)) = meant ≡ Err f
Read meant (Err Memory) = Unit {0}
