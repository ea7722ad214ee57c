-- Hexadecimal codes and cells as words.
use Rattle.std.specs.Prelude.{ℕ, ◌+◌, ◌-◌, ◌*◌, Bool, cond, ◌||◌, List, length, Some, None, Ok, Err, Option, Result, ◌==◌, slice_index}
use Rattle.std.specs.Int.{is_in_range}
use Rattle.notation.specs.declared.Expected.TheVariants.{HexDigit, Colon, End, LiveArea}
use Rattle.notation.specs.declared.WordFault.{WordFault}
use Rattle.notation.specs.declared.Cell.{Cell}
use Rattle.notation.specs.Numbers.{fault, and_then}

-- what a hexadecimal digit of either case stands for
abbrev pub hex_of : ℕ → Option ℕ
hex_of c = cond (is_in_range 48 57 c) (Some (c - 48)) (cond (is_in_range 65 70 c) (Some (c - 55)) (cond (is_in_range 97 102 c) (Some (c - 87)) None))

-- the digit at a place of a word
abbrev pub digit_in : ℕ → Option ℕ → Result ℕ WordFault
digit_in at (Some d) = Ok d
digit_in at None = Err (fault at HexDigit)

abbrev pub hex_at : List ℕ → ℕ → Result ℕ WordFault
hex_at bs i = digit_in i (hex_of (slice_index bs i))

-- the four digits from a place on
abbrev pub four_at : List ℕ → ℕ → Result ℕ WordFault
four_at bs i =
    and_then (hex_at bs i) (λ a. and_then (hex_at bs (i + 1)) (λ b. and_then (hex_at bs (i + 2)) (λ c. and_then (hex_at bs (i + 3)) (λ d. Ok (((a * 16 + b) * 16 + c) * 16 + d)))))

-- a word that ends here
abbrev pub ended : {X : Type 0} → List ℕ → ℕ → Result X WordFault → Result X WordFault
ended bs n r = cond (length bs == n) r (Err (fault n End))

-- four digits and nothing else
abbrev pub code_of : List ℕ → Result ℕ WordFault
code_of bs = and_then (four_at bs 0) (λ n. ended bs 4 (Ok n))

-- the area codes that mark a deleted area, which no cell has
abbrev pub deleted : ℕ → Bool
deleted lac = lac == 0 || lac == 65534

abbrev pub cell_at : ℕ → ℕ → Cell
cell_at lac ci = record { lac = lac; ci = ci }

abbrev pub live : ℕ → ℕ → Result Cell WordFault
live lac ci = cond (deleted lac) (Err (fault 0 LiveArea)) (Ok (cell_at lac ci))

-- an area code, a colon, a cell identity
abbrev pub cell_of : List ℕ → Result Cell WordFault
cell_of bs =
    and_then (four_at bs 0)
    (λ lac. cond (slice_index bs 4 == 58) (and_then (four_at bs 5) (λ ci. ended bs 9 (live lac ci))) (Err (fault 4 Colon)))
