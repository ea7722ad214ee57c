use Rattle.std.proofs.Common.{take}
use Rattle.std.specs.Fmt.{HasWritten, IsPlainFormatter}
use Rattle.notation.specs.Lists.{span_text}
use Rattle.notation.specs.Texts.{blanked}
use Rattle.notation.proofs.lists.RangesDisplay.fmt.Given as goal

-- the ranges so far, with a blank before each
abbrev pub invariant-loop-span : goal.invariant-loop-span
invariant-loop-span g l =
    IsPlainFormatter l.initial.f → HasWritten g.W.Write.write_str_gives l.initial.f (blanked span_text (take l.span-index l.others)) l.f
