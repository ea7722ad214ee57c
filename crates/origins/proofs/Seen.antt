-- A set seen from a channel.
use Rattle.std.proofs.Common.{◌≡◌, ℕ, ◌+◌, ◌-◌, ◌%◌, ◌<◌, ◌≤◌, Bool, true, false, sym, ap, ◌∙◌, ⊎_elim, arith}
use Rattle.std.proofs.lemmas.Bool.{cases_lt, cases_Bool, both_ways}
use Rattle.bits.specs.Bits.{tally}
use Rattle.bits.proofs.Digits.{tally-same, tally_add}
use Rattle.channels.specs.declared.ChannelSet.{ChannelSet}
use Rattle.channels.specs.Sets.{holds, turned, size_of}
use Rattle.channels.proofs.Views.{same_set, set_same, holds_of, holds-past}
use Rattle.origins.specs.Origins.{ahead, seen_from, Origin}
use Rattle.origins.proofs.Reach.{member_below}

pub holds-seen : (s : ChannelSet) (o d : ℕ) → d < 1024 → holds (seen_from s o) d ≡ holds s ((o + d) % 1024)
holds-seen s o d h = holds_of (λ d. holds s ((o + d) % 1024)) d h

pub holds-turned : (s : ChannelSet) (o c : ℕ) → c < 1024 → holds (turned s o) c ≡ holds s (ahead o c)
holds-turned s o c h = holds_of (λ k. holds s ((k + 1024 - o) % 1024)) c h

-- a channel is seen as far ahead as it lies
pub seen-ahead : (s : ChannelSet) (o c : ℕ) → o < 1024 → c < 1024 → holds (seen_from s o) (ahead o c) ≡ holds s c
seen-ahead s o c ho hc =
    let e : (o + (c + 1024 - o) % 1024) % 1024 ≡ c = omega arith in
    holds-seen s o (ahead o c) (omega arith) ∙ ap (holds s) e

-- seen from a channel and turned up to it again, and the other way about
pub seen_turned : (s : ChannelSet) (o : ℕ) → o < 1024 → turned (seen_from s o) o ≡ s
seen_turned s o ho = same_set (turned (seen_from s o) o) s (λ c l. holds-turned (seen_from s o) o c l ∙ seen-ahead s o c ho l)

pub turned-seen : (s : ChannelSet) (o : ℕ) → o < 1024 → seen_from (turned s o) o ≡ s
turned-seen s o ho =
    same_set (seen_from (turned s o) o) s
    (λ d l. let e : ((o + d) % 1024 + 1024 - o) % 1024 ≡ d = omega arith in holds-seen (turned s o) o d l ∙ holds-turned s o ((o + d) % 1024) (omega arith) ∙ ap (holds s) e)

-- a turn down is a turn up by the rest of the circle
pub turned_down : (s : ChannelSet) (o : ℕ) → turned s ((1024 - o % 1024) % 1024) ≡ seen_from s o
turned_down s o =
    set_same (λ k. holds s ((k + 1024 - (1024 - o % 1024) % 1024) % 1024)) (λ d. holds s ((o + d) % 1024))
    (λ k l. let e : (k + 1024 - (1024 - o % 1024) % 1024) % 1024 ≡ (o + k) % 1024 = omega arith in ap (holds s) e)

-- as many pass a test round the circle, wherever one begins
pub tally-turn : (f : ℕ → Bool) (o : ℕ) → tally (λ d. f ((o + d) % 1024)) 1024 ≡ tally f 1024
tally-turn f o =
    let q = o % 1024 in
    let n = 1024 - q in
    let g : ℕ → Bool = λ d. f ((o + d) % 1024) in
    let a : 1024 ≡ (1024 - o % 1024) + o % 1024 = omega arith in
    let b : 1024 ≡ o % 1024 + (1024 - o % 1024) = omega arith in
    let up : tally g n ≡ tally (λ k. f (q + k)) n = tally-same g (λ k. f (q + k)) n (λ k l. let e : (o + k) % 1024 ≡ o % 1024 + k = omega arith in ap f e) in
    let down : tally (λ k. g (n + k)) q ≡ tally f q = tally-same (λ k. g (n + k)) f q (λ k l. let e : (o + (1024 - o % 1024 + k)) % 1024 ≡ k = omega arith in ap f e) in
    let one : tally g 1024 ≡ tally g n + tally (λ k. g (n + k)) q = ap (tally g) a ∙ tally_add g n q in
    let two : tally f 1024 ≡ tally f q + tally (λ k. f (q + k)) n = ap (tally f) b ∙ tally_add f q n in
    omega arith

-- a set has as many channels, wherever it is seen from
pub size_seen : (s : ChannelSet) (o : ℕ) → size_of (seen_from s o) ≡ size_of s
size_seen s o = tally-same (holds (seen_from s o)) (λ d. holds s ((o + d) % 1024)) 1024 (λ d l. holds-seen s o d l) ∙ tally-turn (holds s) o

pub size_turned : (s : ChannelSet) (o : ℕ) → o < 1024 → size_of (turned s o) ≡ size_of s
size_turned s o l = sym (size_seen (turned s o) o) ∙ ap size_of (turned-seen s o l)

-- seen from an origin, a set has 0 and nothing past the reach
module _ (s : ChannelSet) (R o : ℕ) (origin : Origin s R o) where
  pub seen-zero : holds (seen_from s o) 0 ≡ true
  seen-zero =
      let l = member_below s o origin.held in
      let e : (o + 0) % 1024 ≡ o = omega arith in
      holds-seen s o 0 (omega arith) ∙ ap (holds s) e ∙ origin.held

  pub seen-past : (d : ℕ) → R < d → holds (seen_from s o) d ≡ false
  seen-past d l =
      ⊎_elim
      (λ h. ⊎_elim
      (λ t. absurd (
      let b = member_below s o origin.held in
      let n : ahead o ((o + d) % 1024) ≤ R = origin.within ((o + d) % 1024) (sym (holds-seen s o d h) ∙ t) in
      let e : ((o + d) % 1024 + 1024 - o) % 1024 ≡ d = omega arith in
      omega arith))
      (λ n. n) (cases_Bool (holds (seen_from s o) d)))
      (λ h. holds-past (seen_from s o) d h) (cases_lt d 1024)

-- and the other way about: a set with 0 and nothing past a reach, turned up to o, has o as an origin
pub turned-origin : (s : ChannelSet) (R o : ℕ) → o < 1024 → holds s 0 ≡ true → ((d : ℕ) → R < d → holds s d ≡ false) → Origin (turned s o) R o
turned-origin s R o l zero past = record {
  held = let e : (o + 1024 - o) % 1024 ≡ 0 = omega arith in holds-turned s o o l ∙ ap (holds s) e ∙ zero;
  within = λ m t.
      let b = member_below (turned s o) m t in
      ⊎_elim (λ far. absurd (both_ways (holds s (ahead o m)) (past (ahead o m) far) (sym (holds-turned s o m b) ∙ t))) (λ near. near) (cases_lt R (ahead o m));
}
