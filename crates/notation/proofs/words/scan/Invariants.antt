use Rattle.std.proofs.Common.{◌≡◌, ◌+◌, drop}
use Rattle.notation.specs.Numbers.{digits, amount}
use Rattle.notation.proofs.words.scan.Given as goal

abbrev pub invariant-loop-i : goal.invariant-loop-i
invariant-loop-i l = (amount l.n (drop l.i l.word) ≡ amount 0 l.word) × (l.i + digits (drop l.i l.word) ≡ digits l.word)
