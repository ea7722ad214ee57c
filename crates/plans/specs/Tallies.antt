-- How many lines came to what.
use Rattle.std.specs.Prelude.{ℕ, ◌+◌, ◌-◌, ◌^◌, min, Bool, ◌&&◌, List, ◌++◌, codes, decimal, ◌==◌}
use Rattle.plans.specs.declared.Tally.{Tally}
use Rattle.plans.specs.declared.Verdict.{Verdict}
use Rattle.plans.specs.declared.Verdict.TheVariants.{Blank, Composed, Refused, Misread}
use Rattle.plans.specs.Plurals.{plural}

abbrev pub none_yet : Tally
none_yet = record { composed = 0; refused = 0; misread = 0 }

-- one more, up to the largest number
abbrev pub one_more : ℕ → ℕ
one_more n = min (n + 1) (2 ^ 64 - 1)

abbrev pub counted : Tally → Verdict → Tally
counted t Blank = t
counted t Composed = record { composed = one_more t.composed; refused = t.refused; misread = t.misread }
counted t Refused = record { composed = t.composed; refused = one_more t.refused; misread = t.misread }
counted t Misread = record { composed = t.composed; refused = t.refused; misread = one_more t.misread }

-- nothing was refused or misread
abbrev pub clean : Tally → Bool
clean t = t.refused == 0 && t.misread == 0

abbrev pub cells : ℕ → List ℕ
cells n = plural n (codes "cell") (codes "cells")

abbrev pub lines : ℕ → List ℕ
lines n = plural n (codes "line") (codes "lines")

abbrev pub tally_text : Tally → List ℕ
tally_text t =
    decimal t.composed ++ (codes " " ++ (cells t.composed ++ (codes " composed, " ++ (decimal t.refused ++ (codes " refused, " ++ (decimal t.misread ++ (codes " " ++ (lines t.misread ++ codes " not understood"))))))))
