-- Values as text.
use Rattle.std.specs.Prelude.{ℕ, ◌+◌, ◌/◌, ◌%◌, if◌then◌else◌, List, [], ◌∷◌, ◌++◌, drop, nat_lt}
use Rattle.std.specs.List.{flat_map}
use Rattle.notation.specs.declared.Cell.{Cell}

-- the upper-case digit of a number below 16
abbrev pub hex_char : ℕ → ℕ
hex_char d = if nat_lt d 10 then 48 + d else 55 + d

-- a code in four digits
abbrev pub code_text : ℕ → List ℕ
code_text n = hex_char (n / 4096) ∷ hex_char (n / 256 % 16) ∷ hex_char (n / 16 % 16) ∷ hex_char (n % 16) ∷ []

abbrev pub cell_text : Cell → List ℕ
cell_text c = code_text c.lac ++ (58 ∷ code_text c.ci)

-- words with a blank before each
abbrev pub blanked : {X : Type 0} → (X → List ℕ) → List X → List ℕ
blanked f xs = flat_map (λ x. 32 ∷ f x) xs

-- words with a blank between two
abbrev pub spaced : {X : Type 0} → (X → List ℕ) → List X → List ℕ
spaced f xs = drop 1 (blanked f xs)

-- an octet in two digits, and octets
abbrev pub octet_text : ℕ → List ℕ
octet_text o = hex_char (o / 16) ∷ hex_char (o % 16) ∷ []

abbrev pub hex_text : List ℕ → List ℕ
hex_text os = spaced octet_text os
