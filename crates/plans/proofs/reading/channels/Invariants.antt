use Rattle.std.proofs.Common.{◌≡◌, ℕ, ◌≤◌}
use Rattle.std.specs.List.{AllByRecursion}
use Rattle.channels.specs.Sets.{no_channels}
use Rattle.plans.specs.Lines.{channels_in}
use Rattle.plans.specs.Words.{end_of}
use Rattle.plans.proofs.reading.channels.Given as goal

-- the words that are left give the channels behind those of the set, and lie where all words do
abbrev pub invariant-loop-word : goal.invariant-loop-word
invariant-loop-word l =
    (goal.iterator-loop-word).can_next l.word-iterator
    × (goal.iterator-loop-word).is_finite l.word-iterator
    × (channels_in l.set l.word-iterator ≡ channels_in no_channels l.fn.words)
    × ((n : ℕ) → AllByRecursion (λ w. end_of w ≤ n) l.fn.words → AllByRecursion (λ w. end_of w ≤ n) l.word-iterator)
