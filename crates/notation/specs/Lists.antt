-- Channels as text.
use Rattle.std.specs.Prelude.{ℕ, ◌+◌, Bool, false, cond, ◌&&◌, ◌||◌, List, [], ◌∷◌, ◌++◌, codes, decimal, ◌==◌, nat_le}
use Rattle.notation.specs.declared.Span.{Span}
use Rattle.notation.specs.Numbers.{span}
use Rattle.notation.specs.Texts.{spaced}

-- a range is two numbers with a dash between them, and one channel is a number
abbrev pub span_text : Span → List ℕ
span_text s = cond (s.low == s.high) (decimal s.low) (decimal s.low ++ (45 ∷ decimal s.high))

-- a run of channels: two are two single ones
abbrev pub run_of : ℕ → ℕ → List Span
run_of low high = cond (high == low + 1) (span low low ∷ span high high ∷ []) (span low high ∷ [])

-- the runs of a rising list behind the run from low to high
abbrev pub runs_from : ℕ → ℕ → List ℕ → List Span
runs_from low high [] = run_of low high
runs_from low high (c ∷ cs) = cond (c == high + 1) (runs_from low c cs) (run_of low high ++ runs_from c c cs)

abbrev pub spans_of : List ℕ → List Span
spans_of [] = []
spans_of (c ∷ cs) = runs_from c c cs

-- ranges with a blank between two, and a word for none
abbrev pub list_text : List Span → List ℕ
list_text [] = codes "none"
list_text (s ∷ ss) = spaced span_text (s ∷ ss)

-- whether a range, and whether one of several, has a channel
abbrev pub in_span : Span → ℕ → Bool
in_span s k = nat_le s.low k && nat_le k s.high

abbrev pub covers : List Span → ℕ → Bool
covers [] k = false
covers (s ∷ ss) k = in_span s k || covers ss k
