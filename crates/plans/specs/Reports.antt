-- The texts of reports.
use Rattle.std.specs.Prelude.{◌≡◌, ℕ, ◌+◌, Bool, true, if◌then◌else◌, List, [], ◌++◌, Some, None, Ok, Err, string_bytes, codes, decimal, Option, Result}
use Rattle.channels.specs.declared.ChannelSet.{ChannelSet}
use Rattle.channels.specs.Sets.{size_of, members_of}
use Rattle.faults.specs.declared.PileFault.{PileFault}
use Rattle.faults.specs.Refusals.{of_set, of_pile}
use Rattle.notation.specs.declared.Cell.{Cell}
use Rattle.notation.specs.Lists.{spans_of, list_text}
use Rattle.notation.specs.Texts.{cell_text, hex_text}
use Rattle.notation.specs.Told.{expected_text, told_text}
use Rattle.piles.specs.Flagged.{flagged_first}
use Rattle.piles.specs.Laws.{Meaning}
use Rattle.plans.specs.declared.Answer.{Answer}
use Rattle.plans.specs.declared.Entry.{Entry}
use Rattle.plans.specs.declared.Complaint.{Complaint}
use Rattle.plans.specs.declared.Verdict.{Verdict}
use Rattle.plans.specs.declared.Verdict.TheVariants.{Blank, Composed, Refused, Misread}
use Rattle.plans.specs.declared.Why.{Why}
use Rattle.plans.specs.declared.Why.TheVariants as whys
use Rattle.plans.specs.Plurals.{plural}
use Rattle.plans.specs.Trials.{no_flags}

abbrev pub noun : ℕ → List ℕ
noun n = plural n (codes "channel") (codes "channels")

-- the channels of a set as a plan has them
unfoldable pub channel_text : ChannelSet → List ℕ
channel_text s = list_text (spans_of (members_of s))

-- line, cell, how many channels, and which
abbrev pub head_of : ℕ → Cell → ℕ → List ℕ → List ℕ → List ℕ
head_of n c k word list =
    codes "line " ++ (decimal n ++ (codes ": cell " ++ (cell_text c ++ (codes ", " ++ (decimal k ++ (codes " " ++ (word ++ (codes ": " ++ (list ++ codes "\n")))))))))

unfoldable pub head_text : ℕ → Entry → List ℕ
head_text n e = head_of n e.cell (size_of e.channels) (noun (size_of e.channels)) (channel_text e.channels)

abbrev pub likeness_text : Bool → List ℕ
likeness_text same = if same then codes "the same channels" else codes "other channels"

-- the octets, and what they are read back as
abbrev pub composed_of : List ℕ → List ℕ → List ℕ → List ℕ
composed_of hex back same = codes "  composed in 16 octets: " ++ (hex ++ (codes "\n  read back: " ++ (back ++ (codes ", " ++ (same ++ codes "\n")))))

unfoldable pub composed_text : List ℕ → ChannelSet → List ℕ
composed_text os s = composed_of (hex_text os) (channel_text s) (likeness_text true)

abbrev pub refused_of : List ℕ → List ℕ
refused_of told = codes "  refused: " ++ (told ++ codes "\n")

unfoldable pub refused_text : PileFault → List ℕ
refused_text f = refused_of (told_text (of_pile f))

-- the report on a cell, by what the pile writes for its channels in sixteen octets
abbrev pub Reported : ℕ → Entry → Result (List ℕ) PileFault → Answer → Type 0
Reported n e (Ok os) a = (a.verdict ≡ Composed) × (string_bytes a.text ≡ head_text n e ++ composed_text (flagged_first no_flags os) e.channels)
Reported n e (Err f) a = (a.verdict ≡ Refused) × (string_bytes a.text ≡ head_text n e ++ refused_text f)

-- why a line went wrong
abbrev pub why_text : Why → List ℕ
why_text (whys.Misread e) = codes "expected " ++ expected_text e
why_text (whys.Refused f) = codes "refused: " ++ told_text (of_set f)

abbrev pub complaint_of : ℕ → ℕ → List ℕ → List ℕ → List ℕ
complaint_of n column found why =
    codes "line " ++ (decimal n ++ (codes ", column " ++ (decimal column ++ (codes ": found " ++ (found ++ (codes ", " ++ (why ++ codes "\n")))))))

-- a line that was refused is one whose channels were
abbrev pub verdict_of : Why → Verdict
verdict_of (whys.Misread e) = Misread
verdict_of (whys.Refused f) = Refused

-- what is found where a word ends too early
abbrev pub nothing_text : List ℕ
nothing_text = codes "the end of the word"

-- the complaint about a line; what was found there stands in it
pub record Complained (n : ℕ) (c : Complaint) (a : Answer) : Type 0 where
  pub verdict : a.verdict ≡ verdict_of c.why
  pub found : List ℕ
  pub nothing : c.start ≡ c.end → found ≡ nothing_text
  pub text : string_bytes a.text ≡ complaint_of n (c.start + 1) found (why_text c.why)

-- the answer to a line, by what it says
abbrev pub Answered : Meaning → ℕ → Result (Option Entry) Complaint → Answer → Type 0
Answered m n (Ok None) a = (a.verdict ≡ Blank) × (string_bytes a.text ≡ [])
Answered m n (Ok (Some e)) a = Reported n e (m.writes e.channels 16) a
Answered m n (Err c) a = Complained n c a
