-- Refusals and expectations in words.
use Rattle.std.specs.Prelude.{ℕ, List, [], ◌∷◌, ◌++◌, codes, decimal, slice_index_or}
use Rattle.faults.specs.declared.Layer.{Layer}
use Rattle.faults.specs.declared.Layer.TheVariants.{Set, Format, Pile, Record, Volume}
use Rattle.faults.specs.declared.Refusal.{Refusal}
use Rattle.notation.specs.declared.Expected.{Expected}
use Rattle.notation.specs.declared.Expected.TheVariants.{Digit, DigitOrEnd, DigitOrDash, NotBelow, HexDigit, Colon, End, LiveArea}

abbrev pub name_of : Layer → List ℕ
name_of Set = codes "set"
name_of Format = codes "format"
name_of Pile = codes "pile"
name_of Record = codes "record"
name_of Volume = codes "volume"

abbrev pub nameless : List ℕ
nameless = codes "no refusal has this number"

-- what the numbers say, from 0 on
abbrev pub sentences : List (List ℕ)
sentences =
    nameless
    ∷ codes "a channel or a shift is over 1023"
    ∷ codes "the format has no contents of this length"
    ∷ codes "no pile claims the first octet"
    ∷ codes "the number at this place is null, and a later one is not"
    ∷ codes "two piles beside one another both claim the first octet of this place"
    ∷ codes "the channel of this place is outside the licence"
    ∷ codes "the pile has no octets of this length for these channels"
    ∷ []

unfoldable pub sentence_of : ℕ → List ℕ
sentence_of n = slice_index_or sentences n nameless

abbrev pub expected_text : Expected → List ℕ
expected_text Digit = codes "a digit"
expected_text DigitOrEnd = codes "a digit or the end of the word"
expected_text DigitOrDash = codes "a digit, a dash or the end of the word"
expected_text NotBelow = codes "a number not below the one before the dash"
expected_text HexDigit = codes "a hexadecimal digit"
expected_text Colon = codes "a colon"
expected_text End = codes "the end of the word"
expected_text LiveArea = codes "an area code other than 0000 and FFFE, which mark a deleted area"

abbrev pub told_text : Refusal → List ℕ
told_text r =
    codes "number " ++ (decimal r.number ++ (codes ", layer " ++ (name_of r.layer ++ (codes ", place " ++ (decimal r.place ++ (codes ": " ++ sentence_of r.number))))))
