use Rattle.std.proofs.Common.{◌≡◌, ◌++◌, take, string_bytes}
use Rattle.notation.specs.Texts.{octet_text, blanked}
use Rattle.notation.proofs.hex.write.Given as goal

-- the first octet, and those so far with a blank before each
abbrev pub invariant-loop-o : goal.invariant-loop-o
invariant-loop-o l = string_bytes l.text ≡ string_bytes l.initial.text ++ blanked octet_text (take l.o-index l.others)
