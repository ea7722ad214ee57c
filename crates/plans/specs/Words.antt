-- The words of a line.
use Rattle.std.specs.Prelude.{ℕ, zero, suc, ◌+◌, ◌-◌, Bool, if◌then◌else◌, not, ◌&&◌, List, [], ◌∷◌, length, take, drop, Some, None, Option, ◌==◌}
use Rattle.std.specs.List.{prefix_len}
use Rattle.notation.specs.Octets.{blank}
use Rattle.plans.specs.declared.Word.{Word}
use Rattle.plans.specs.Pieces.{Piece}

-- neither blank nor the beginning of a comment
abbrev pub solid : ℕ → Bool
solid c = not (c == 35) && not (blank c)

-- where the blanks from a place on end, and where a word does
abbrev pub begins : List ℕ → ℕ → ℕ
begins bs i = i + prefix_len blank (drop i bs)

abbrev pub ends : List ℕ → ℕ → ℕ
ends bs i = i + prefix_len solid (drop i bs)

-- the word from one place to another, and the place behind a word
abbrev pub word : List ℕ → ℕ → ℕ → Piece
word bs a b = record { start = a; text = take (b - a) (drop a bs) }

abbrev pub end_of : Piece → ℕ
end_of w = w.start + length w.text

-- where a word stands
abbrev pub place_of : Piece → Word
place_of w = record { start = w.start; end = end_of w }

-- the first word from a place on
unfoldable pub next_word : List ℕ → ℕ → Option Piece
next_word bs i = if ends bs (begins bs i) == begins bs i then None else Some (word bs (begins bs i) (ends bs (begins bs i)))

-- the words from a place on, at most k of them
abbrev pub words_from : ℕ → List ℕ → ℕ → List Piece
words_from zero bs i = []
words_from (suc k) bs i = elim (next_word bs i) [ Some w ↦ w ∷ words_from k bs (end_of w) | None ↦ [] ]

-- all words from a place on: they are no more than the bytes that are left
abbrev pub words_after : List ℕ → ℕ → List Piece
words_after bs i = words_from (length bs - i) bs i

abbrev pub words_of : List ℕ → List Piece
words_of bs = words_after bs 0
