-- A range put into a set, channel by channel.
use Rattle.std.proofs.Common.{◌≡◌, ℕ, ◌+◌, ◌<◌, ◌≤◌, Bool, true, false, cond, ◌&&◌, ◌||◌, eqb, ltb, leb, refl, ap, ◌∙◌, arith}
use Rattle.std.proofs.lemmas.Bool.Decides.{nat_tests}
use Rattle.channels.specs.declared.ChannelSet.{ChannelSet}
use Rattle.channels.specs.Sets.{holds, set_of, put}
use Rattle.channels.proofs.Views.{holds_of, holds-put, set_is, set_same}
use Rattle.notation.specs.Numbers.{span}
use Rattle.plans.specs.Lines.{with_span}

-- a set with the channels from low up to c
abbrev pub up_to : ChannelSet → ℕ → ℕ → ChannelSet
up_to s low c = set_of (λ k. holds s k || (leb low k && ltb k c))

none_below : (x : Bool) (low k : ℕ) → x ≡ (x || (leb low k && ltb k low))
none_below true low k = refl
none_below false low k = grind (arith, nat_tests)

one-above : (x : Bool) (low c k : ℕ) → low ≤ c → cond (eqb k c) true (x || (leb low k && ltb k c)) ≡ (x || (leb low k && ltb k (c + 1)))
one-above true low c k h = grind (arith, nat_tests)
one-above false low c k h = grind (arith, nat_tests)

with_last : (x : Bool) (low high k : ℕ) → low ≤ high → (cond (eqb k high) true x || (leb low k && ltb k high)) ≡ (x || (leb low k && leb k high))
with_last true low high k h = grind (arith, nat_tests)
with_last false low high k h = grind (arith, nat_tests)

pub starts : (s : ChannelSet) (low : ℕ) → s ≡ up_to s low low
starts s low = set_is s _ (λ k h. none_below (holds s k) low k)

pub goes_on : (s : ChannelSet) (low c : ℕ) → low ≤ c → put (up_to s low c) c true ≡ up_to s low (c + 1)
goes_on s low c h = set_same _ _ (λ k small. ap (cond (eqb k c) true) (holds_of _ k small) ∙ one-above (holds s k) low c k h)

pub ends_with : (s : ChannelSet) (low high : ℕ) → low ≤ high → high < 1024 → up_to (put s high true) low high ≡ with_span s (span low high)
ends_with s low high h small =
    set_same _ _ (λ k _. ap (λ b. b || (leb low k && ltb k high)) (holds-put s high true small k) ∙ with_last (holds s k) low high k h)
