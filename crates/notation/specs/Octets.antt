-- Octets as text: read, and read back.
use Rattle.std.specs.Prelude.{◌≡◌, ℕ, ◌+◌, ◌-◌, ◌*◌, ◌<◌, Bool, cond, ◌||◌, List, [], ◌∷◌, ◌++◌, length, Ok, Result, ◌==◌}
use Rattle.std.specs.List.{flat_map, AllByRecursion}
use Rattle.notation.specs.declared.WordFault.{WordFault}
use Rattle.notation.specs.Codes.{hex_of, digit_in}
use Rattle.notation.specs.Numbers.{and_then}
use Rattle.notation.specs.Texts.{octet_text, hex_text}

-- a space or a tab
abbrev pub blank : ℕ → Bool
blank c = c == 32 || c == 9

-- the octet of two digits, in a text at this place
abbrev pub pair_at : ℕ → ℕ → ℕ → Result ℕ WordFault
pair_at at c d = and_then (digit_in at (hex_of c)) (λ a. and_then (digit_in (at + 1) (hex_of d)) (λ b. Ok (a * 16 + b)))

abbrev pub before : List ℕ → Result (List ℕ) WordFault → Result (List ℕ) WordFault
before os r = and_then r (λ more. Ok (os ++ more))

-- octets of two digits each; blanks may stand before, between and behind them
abbrev pub octets_from : ℕ → List ℕ → Result (List ℕ) WordFault
octets_from at [] = Ok []
octets_from at (c ∷ []) = cond (blank c) (Ok []) (and_then (pair_at at c 0) (λ o. Ok (o ∷ [])))
octets_from at (c ∷ d ∷ cs) = cond (blank c) (octets_from (at + 1) (d ∷ cs)) (and_then (pair_at at c d) (λ o. before (o ∷ []) (octets_from (at + 2) cs)))

abbrev pub octets_of : List ℕ → Result (List ℕ) WordFault
octets_of bs = octets_from 0 bs

-- what is written is read as the octets that it was written for, with blanks and without
pub record OctetLaws : Type 0 where
  pub long : (os : List ℕ) → length (hex_text os) ≡ 3 * length os - 1
  pub back : (os : List ℕ) → AllByRecursion (λ o. o < 256) os → octets_of (hex_text os) ≡ Ok os
  pub dense : (os : List ℕ) → AllByRecursion (λ o. o < 256) os → octets_of (flat_map octet_text os) ≡ Ok os
