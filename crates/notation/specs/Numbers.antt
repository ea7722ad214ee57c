-- Decimal numbers and ranges as words.
use Rattle.std.specs.Prelude.{ℕ, ◌+◌, ◌-◌, ◌*◌, min, cond, List, [], ◌∷◌, length, drop, Ok, Err, Result, ◌==◌, nat_lt, slice_index}
use Rattle.std.specs.Char.{is_ascii_digit}
use Rattle.std.specs.List.{prefix_len}
use Rattle.notation.specs.declared.Expected.{Expected}
use Rattle.notation.specs.declared.Expected.TheVariants.{Digit, DigitOrEnd, DigitOrDash, NotBelow}
use Rattle.notation.specs.declared.WordFault.{WordFault}
use Rattle.notation.specs.declared.Span.{Span}

-- what follows where a part went well
abbrev pub and_then : {X Y F : Type 0} → Result X F → (X → Result Y F) → Result Y F
and_then (Ok x) f = f x
and_then (Err e) f = Err e

abbrev pub fault : ℕ → Expected → WordFault
fault at what = record { offset = at; expected = what }

-- a number with one more digit behind it; all above 65535 are one number
abbrev pub capped : ℕ → ℕ → ℕ
capped n c = min (n * 10 + (c - 48)) 65535

-- how many digits stand in front
abbrev pub digits : List ℕ → ℕ
digits bs = prefix_len is_ascii_digit bs

-- the number that they write, behind the digits of n
abbrev pub amount : ℕ → List ℕ → ℕ
amount n [] = n
amount n (c ∷ cs) = cond (is_ascii_digit c) (amount (capped n c) cs) n

-- digits and nothing else
abbrev pub number_of : List ℕ → Result ℕ WordFault
number_of bs = cond (digits bs == 0) (Err (fault 0 Digit)) (cond (digits bs == length bs) (Ok (amount 0 bs)) (Err (fault (digits bs) DigitOrEnd)))

abbrev pub span : ℕ → ℕ → Span
span a b = record { low = a; high = b }

-- the high end of a range that begins at a, in a word at this place
abbrev pub high_of : ℕ → ℕ → Result ℕ WordFault → Result Span WordFault
high_of a at (Ok b) = cond (nat_lt b a) (Err (fault at NotBelow)) (Ok (span a b))
high_of a at (Err f) = Err (fault (at + f.offset) f.expected)

-- a number, or two with a dash between them
abbrev pub span_of : List ℕ → Result Span WordFault
span_of bs =
    cond (digits bs == 0) (Err (fault 0 Digit))
    (cond (digits bs == length bs) (Ok (span (amount 0 bs) (amount 0 bs)))
    (cond (slice_index bs (digits bs) == 45) (high_of (amount 0 bs) (digits bs + 1) (number_of (drop (digits bs + 1) bs)))
    (Err (fault (digits bs) DigitOrDash))))
