use Rattle.std.proofs.Common.{take}
use Rattle.std.specs.Fmt.{HasWritten, IsPlainFormatter}
use Rattle.notation.specs.Texts.{octet_text, blanked}
use Rattle.notation.proofs.hex.HexDisplay.fmt.Given as goal

-- the octets so far, with a blank before each
abbrev pub invariant-loop-o : goal.invariant-loop-o
invariant-loop-o g l =
    IsPlainFormatter l.initial.f → HasWritten g.W.Write.write_str_gives l.initial.f (blanked octet_text (take l.o-index l.others)) l.f
