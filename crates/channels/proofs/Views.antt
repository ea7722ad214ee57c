-- The laws of the view of a set.
use Rattle.std.specs.Cmp.Lexicographic.{pointwise}
use Rattle.std.proofs.lemmas.Bool.Decides.{Decides-eqb}
use Rattle.std.proofs.lemmas.Slice.Eq.{slice_eq-Decides}
use Rattle.std.proofs.Common.{◌≡◌, ℕ, ◌<◌, ◌≤◌, ◌==◌, Bool, true, false, cond, eqb, IsTrue, ◌↔◌, ap, Ok, Err, Result, sym, refl, ◌∙◌, ⊎_elim, arith}
use Rattle.bits.specs.Bits.{tally}
use Rattle.bits.specs.Numbers.{has}
use Rattle.bits.proofs.Digits.{length-rising}
use Rattle.bits.proofs.Rises.{rising_in, rising-up, rising-has}
use Rattle.bits.proofs.Lists.{in_words, in_past}
use Rattle.bits.proofs.Sets.{same_numbers, same_held}
use Rattle.faults.specs.declared.SetFault.{SetFault}
use Rattle.channels.specs.declared.ChannelSet.{ChannelSet}
use Rattle.channels.specs.Sets.{holds, set_of, no_channels, put, Changed, ViewLaws, MemberLaws}
use Rattle.std.proofs.lemmas.Bool.{cases_lt, cond-false, ne_eqb, both_ways}

-- sets of the same words are equal
pub same-by-words : (a b : ChannelSet) → a.numbers.words ≡ b.numbers.words → a ≡ b
same-by-words a b e = λ i. record { numbers = same_numbers a.numbers b.numbers e i }

-- and a test of the words tells whether they are
pub words_decide : (a b : ChannelSet) (r : Bool) → r ≡ pointwise ◌==◌ a.numbers.words b.numbers.words → IsTrue r ↔ (a ≡ b)
words_decide a b r e =
    let d = slice_eq-Decides Decides-eqb a.numbers.words b.numbers.words r e in
    (λ t. same-by-words a b (d.0 t), λ q. d.1 (ap (λ (s : ChannelSet). s.numbers.words) q))

pub holds-bits : (s : ChannelSet) (c : ℕ) → holds s c ≡ has s.numbers c
unfolding holds
holds-bits s c = refl

pub holds_of : (f : ℕ → Bool) (c : ℕ) → c < 1024 → holds (set_of f) c ≡ f c
unfolding holds set_of
holds_of f c h = in_words f 16 c h

pub holds-past : (s : ChannelSet) (c : ℕ) → 1024 ≤ c → holds s c ≡ false
unfolding holds
holds-past s c h = let e = s.numbers.whole in in_past s.numbers.words c (omega arith)

pub same_set : (a b : ChannelSet) → ((c : ℕ) → c < 1024 → holds a c ≡ holds b c) → a ≡ b
unfolding holds
same_set a b h = let e = same_held a.numbers b.numbers h in λ i. record { numbers = e i }

pub set_is : (s : ChannelSet) (f : ℕ → Bool) → ((c : ℕ) → c < 1024 → holds s c ≡ f c) → s ≡ set_of f
set_is s f h = same_set s (set_of f) (λ c l. h c l ∙ sym (holds_of f c l))

pub set_same : (f g : ℕ → Bool) → ((c : ℕ) → c < 1024 → f c ≡ g c) → set_of f ≡ set_of g
set_same f g h = set_is (set_of f) g (λ c l. holds_of f c l ∙ h c l)

pub holds-none : (c : ℕ) → holds no_channels c ≡ false
holds-none c = ⊎_elim (λ l. holds_of (λ _. false) c l) (λ l. holds-past no_channels c l) (cases_lt c 1024)

pub holds-put : (s : ChannelSet) (c : ℕ) (x : Bool) → c < 1024 → (k : ℕ) → holds (put s c x) k ≡ cond (eqb k c) x (holds s k)
holds-put s c x h k =
    ⊎_elim (λ l. holds_of (λ k. cond (eqb k c) x (holds s k)) k l)
    (λ l. holds-past (put s c x) k l ∙ sym (holds-past s k l) ∙ sym (cond-false (eqb k c) x (holds s k) (ne_eqb k c (λ e. omega arith))))
    (cases_lt k 1024)

pub view_laws : ViewLaws
view_laws = record { of_test = holds_of; past = holds-past; same = same_set; none = holds-none; one-put = holds-put }

below : (s : ChannelSet) (c : ℕ) → holds s c ≡ true → c < 1024
below s c t = ⊎_elim (λ l. l) (λ l. absurd (both_ways (holds s c) (holds-past s c l) t)) (cases_lt c 1024)

pub member_laws : MemberLaws
member_laws = record {
  count = λ s. length-rising (holds s) 1024;
  held = λ s j l. rising_in (holds s) 1024 j l;
  rise = λ s i j l h. rising-up (holds s) 1024 i j l h;
  there = λ s c t. let p = rising-has (holds s) 1024 c (below s c t) t in (tally (holds s) c, p.0, p.1);
}

-- what a call that is not refused leaves
pub changed : (c : ℕ) (r : Result (Unit {0}) SetFault) (before wanted after : ChannelSet) → c ≤ 1023 → Changed c r before wanted after → after ≡ wanted
changed c (Ok u) before wanted after h e = e.1
changed c (Err f) before wanted after h e = absurd (omega (arith, e.0))
