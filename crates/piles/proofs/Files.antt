-- One list filed: what the tried lengths give, in the words of the pile's reading.
use Rattle.std.proofs.Common.{◌≡◌, ℕ, zero, suc, ◌<◌, ◌≤◌, Bool, true, false, cond, List, [], ◌∷◌, length, get_or, take, drop, set, Some, Ok, Err, Result, sym, refl, ap, ◌∙◌, ⊎_elim, arith}
use Rattle.std.specs.Result.{result_ok}
use Rattle.std.proofs.lemmas.List.{drop-set-lt, length-take}
use Rattle.std.proofs.lemmas.Bool.{cases_eq}
use Rattle.channels.specs.declared.ChannelSet.{ChannelSet}
use Rattle.faults.specs.declared.PileFault.{PileFault}
use Rattle.piles.specs.declared.flags.Flags.{Flags}
use Rattle.piles.specs.Flagged.{plain, flagged, flagged_first}
use Rattle.piles.specs.Laws.{Meaning, Lawful, Octets}
use Rattle.piles.specs.Filing.{Never, octets_of, Served, Marked, NotComposed}

module _ (m : Meaning) (s : ChannelSet) (laws : Lawful m) (least most : ℕ) where
  -- each length below the one at hand is refused
  abbrev pub Below : ℕ → Type 0
  Below L = (M : ℕ) → least ≤ M → M < L → (f : PileFault) × (m.writes s M ≡ Err f)

  below-never : (L : ℕ) → Below L → (M : ℕ) → least ≤ M → M < L → Never m.reads s M
  below-never L b M low l = let r = b M low l in laws.refused s M r.0 r.1

  pub not_composed : (f : PileFault) (before after : List ℕ) → after ≡ before → m.writes s most ≡ Err f → Below most → NotComposed m s least most f before after
  not_composed f before after same last b = record {
    same = same;
    never = λ M low high. ⊎_elim (λ e. laws.refused s M f (ap (m.writes s) e ∙ last)) (λ d. below-never most b M low (omega arith)) (cases_eq M most);
    last = last;
    numbered = laws.write_number s most f last;
  }

  pub served : (L : ℕ) (before after : List ℕ) → least ≤ L → L ≤ most → m.writes s L ≡ Ok (take L after) → drop L after ≡ drop L before → Below L → Served m s least most L before after
  served L before after low high put rest b = record {
    low = low;
    high = high;
    fewest = below-never L b;
    contents = sym (ap octets_of put);
    back = (laws.written s L (take L after) put).back;
    rest = rest;
  }

  ok_part : (r : Result ChannelSet PileFault) → result_ok r ≡ Some s → r ≡ Ok s
  ok_part (Ok t) e = let q : t ≡ s = cc in ap Ok q
  ok_part (Err f) e = let z : ◌≡◌ {A = ℕ} 0 1 = cc in absurd (omega arith)

  digit_le : (b : Bool) → cond b 1 0 ≤ 1
  digit_le true = omega arith
  digit_le false = omega arith

  -- flags change neither what an octet is without them, nor the set that contents are read as
  plain-flagged : (flags : Flags) (o : ℕ) → plain (flagged flags o) ≡ plain o
  plain-flagged flags o = omega (arith, digit_le flags.extension, digit_le flags.allocation)

  flagged-below : (flags : Flags) (o : ℕ) → o < 256 → flagged flags o < 256
  flagged-below flags o h = omega (arith, digit_le flags.extension, digit_le flags.allocation)

  flagged_back : (flags : Flags) (os : List ℕ) → 1 ≤ length os → Octets os → m.reads os ≡ Ok s → m.reads (flagged_first flags os) ≡ Ok s
  flagged_back flags [] l h e = absurd (omega arith)
  flagged_back flags (o ∷ os) l h e =
      ok_part (m.reads (flagged flags o ∷ os))
      (sym (laws.plain-set (flagged flags o) os (flagged-below flags o h.0)) ∙ ap (λ p. result_ok (m.reads (p ∷ os))) (plain-flagged flags o) ∙ laws.plain-set o os h.0 ∙ ap result_ok e)

  flagged-front : (flags : Flags) (L : ℕ) (mid : List ℕ) → 1 ≤ L → 1 ≤ length mid → take L (set mid 0 (flagged flags (get_or mid 0 0))) ≡ flagged_first flags (take L mid)
  flagged-front flags zero mid h k = absurd (omega arith)
  flagged-front flags (suc n) [] h k = absurd (omega arith)
  flagged-front flags (suc n) (o ∷ os) h k = refl

  pub marked : (flags : Flags) (L : ℕ) (before : List ℕ) → 1 ≤ length before → Octets (take L before) → m.reads (take L before) ≡ Ok s
      → (v : ℕ) → v ≡ flagged flags (get_or before 0 0) → Marked m s L flags before (set before 0 v)
  marked flags L before some oct e v is =
      let one : 1 ≤ length (take L before) = (laws.sound (take L before) s e).some in
      let long : 1 ≤ L = omega (arith, length-take L before) in
      let front : take L (set before 0 v) ≡ flagged_first flags (take L before) = ap (λ x. take L (set before 0 x)) is ∙ flagged-front flags L before long some in
      record {
        contents = front;
        back = ap m.reads front ∙ flagged_back flags (take L before) one oct e;
        rest = drop-set-lt L before 0 v (omega arith);
      }
