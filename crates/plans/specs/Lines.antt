-- What a line says.
use Rattle.std.specs.Prelude.{◌≡◌, ℕ, ◌+◌, ◌≤◌, if◌then◌else◌, ◌||◌, List, [], ◌∷◌, Some, None, Ok, Err, Option, Result, nat_le}
use Rattle.channels.specs.declared.ChannelSet.{ChannelSet}
use Rattle.channels.specs.Sets.{holds, set_of, no_channels}
use Rattle.faults.specs.declared.SetFault.TheVariants.{OverRange}
use Rattle.notation.specs.declared.Cell.{Cell}
use Rattle.notation.specs.declared.Span.{Span}
use Rattle.notation.specs.declared.WordFault.{WordFault}
use Rattle.notation.specs.Lists.{in_span}
use Rattle.notation.specs.Numbers.{and_then, span_of}
use Rattle.notation.specs.Codes.{cell_of}
use Rattle.plans.specs.declared.Why.TheVariants.{Misread, Refused}
use Rattle.plans.specs.declared.Complaint.{Complaint}
use Rattle.plans.specs.declared.Entry.{Entry}
use Rattle.plans.specs.Pieces.{Piece}
use Rattle.plans.specs.Words.{end_of, words_of}

-- a complaint about a part of a line of n bytes
abbrev pub Inside : ℕ → Complaint → Type 0
Inside n c = (c.start ≤ c.end) × (c.end ≤ n)

-- a fault in a word, at its place in the line
abbrev pub misread : Piece → WordFault → Complaint
misread w f = record { start = w.start + f.offset; end = end_of w; why = Misread f.expected }

abbrev pub placed : {X : Type 0} → Piece → Result X WordFault → Result X Complaint
placed w (Ok x) = Ok x
placed w (Err f) = Err (misread w f)

-- a word that names a cell, and one that names channels
abbrev pub cell_in : Piece → Result Cell Complaint
cell_in w = placed w (cell_of w.text)

abbrev pub span_in : Piece → Result Span Complaint
span_in w = placed w (span_of w.text)

-- a set with the channels of a range
abbrev pub with_span : ChannelSet → Span → ChannelSet
with_span s r = set_of (λ k. holds s k || in_span r k)

-- a range with a number over 1023 is refused
abbrev pub over_range : Piece → Complaint
over_range w = record { start = w.start; end = end_of w; why = Refused OverRange }

abbrev pub add_in : ChannelSet → Piece → Result ChannelSet Complaint
add_in s w = and_then (span_in w) (λ r. if nat_le r.high 1023 then Ok (with_span s r) else Err (over_range w))

-- what a call that adds channels answers and leaves
abbrev pub Taken : Result ChannelSet Complaint → Result (Unit {0}) Complaint → ChannelSet → Type 0
Taken meant (Ok _) after = meant ≡ Ok after
Taken meant (Err c) after = meant ≡ Err c

-- words that name channels, after those of a set: the first at fault counts
abbrev pub channels_in : ChannelSet → List Piece → Result ChannelSet Complaint
channels_in s [] = Ok s
channels_in s (w ∷ ws) = and_then (add_in s w) (λ t. channels_in t ws)

abbrev pub entry : Cell → ChannelSet → Entry
entry c s = record { cell = c; channels = s }

-- a cell and its channels; a line without words is blank
abbrev pub line_by : List Piece → Result (Option Entry) Complaint
line_by [] = Ok None
line_by (w ∷ ws) = and_then (cell_in w) (λ c. and_then (channels_in no_channels ws) (λ s. Ok (Some (entry c s))))

abbrev pub line_of : List ℕ → Result (Option Entry) Complaint
line_of bs = line_by (words_of bs)
