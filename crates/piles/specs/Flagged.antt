-- The flags of a list, in bits 6 and 5 of its first octet.
use Rattle.std.specs.Prelude.{ℕ, ◌+◌, ◌*◌, ◌/◌, ◌%◌, cond, List, [], ◌∷◌}
use Rattle.piles.specs.declared.flags.Flags.{Flags}

-- an octet with its bits 6 and 5 put to 0
abbrev pub plain : ℕ → ℕ
plain o = o / 64 * 64 + o % 16

-- flags as a number from 0 to 3
abbrev pub flag_number : Flags → ℕ
flag_number f = 2 * cond f.extension 1 0 + cond f.allocation 1 0

-- an octet with its bits 6 and 5 put to flags
abbrev pub flagged : Flags → ℕ → ℕ
flagged f o = plain o + 16 * flag_number f

-- contents whose first octet is so
abbrev pub flagged_first : Flags → List ℕ → List ℕ
flagged_first f [] = []
flagged_first f (o ∷ os) = flagged f o ∷ os
