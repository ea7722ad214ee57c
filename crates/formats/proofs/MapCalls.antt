-- What the calls of bit map 0 come to, octet by octet, and when a set lies within the map.
use Rattle.std.specs.Prelude.{◌≡◌, ℕ, ◌+◌, ◌-◌, ◌*◌, ◌/◌, ◌%◌, ◌<◌, Bool, true, false, not, ◌&&◌, ◌||◌, List, is_some, Some, None, Option, nat_le, nat_lt, slice_index, slice_index_or, refl}
use Rattle.std.proofs.Common.{sym, ◌∙◌, ap, ap₂, ⊎_elim, arith}
use Rattle.std.proofs.lemmas.Bool.{and_parts, and_from, and_left, and_right, and_cases, ltb-true, lt-ltb, le-ltb, le-leb, lt-leb, cases_lt, cases_eq, both_ways}
use Rattle.bits.specs.Bits.{bit}
use Rattle.bits.specs.Lowest.{lowest}
use Rattle.bits.proofs.Lows.{lowest-none, lowest-some, lowest_is_none}
use Rattle.bits.proofs.Digits.{bit_past}
use Rattle.channels.specs.declared.ChannelSet.{ChannelSet}
use Rattle.channels.specs.Sets.{holds, no_channels, put_eight, above, next_above}
use Rattle.channels.proofs.Views.{set_is, holds_of, holds-past, holds-none}
use Rattle.channels.proofs.Ops.{or_false}
use Rattle.formats.specs.BitMap0.{in_map, map_bit, map_set, beyond}

-- one octet more of a map that is read
pub octet_more : (os : List ℕ) (i v : ℕ) (cur : ChannelSet) → i < 16 → slice_index os i < 256
    → ((k : ℕ) → bit v k ≡ (in_map (8 * (15 - i) + 1 + k) && bit (slice_index os i) k))
    → ((c : ℕ) → c < 1024 → holds cur c ≡ (nat_lt (8 * (16 - i)) c && map_bit os c))
    → (c : ℕ) → c < 1024 → holds (put_eight cur (8 * (15 - i) + 1) v) c ≡ (nat_lt (8 * (16 - (i + 1))) c && map_bit os c)
octet_more os i v cur h small bits inv c l =
    let from = 8 * (15 - i) + 1 in
    let o = slice_index_or os i 0 in
    holds_of (λ k. holds cur k || (nat_le from k && bit v (k - from))) c l ∙ ap (λ b. b || (nat_le from c && bit v (c - from))) (inv c l)
    ∙ ⊎_elim
    (λ low.
    ap₂ (λ a b. (a && map_bit os c) || (b && bit v (c - from))) (le-ltb (8 * (16 - i)) c (omega arith)) (lt-leb from c low)
    ∙ sym (and_left (nat_lt (8 * (16 - (i + 1))) c) (map_bit os c) (le-ltb (8 * (16 - (i + 1))) c (omega arith))))
    (λ high. ⊎_elim
    (λ inside.
    let same : 8 * (15 - i) + 1 + (c - (8 * (15 - i) + 1)) ≡ c = omega arith in
    let index : i ≡ 15 - (c - 1) / 8 = omega arith in
    let place : c - (8 * (15 - i) + 1) ≡ (c - 1) % 8 = omega arith in
    ap₂ (λ a b. (a && map_bit os c) || (b && bit v (c - from))) (le-ltb (8 * (16 - i)) c (omega arith)) (le-leb from c high)
    ∙ bits (c - from) ∙ ap (λ x. in_map x && bit o (c - from)) same ∙ ap₂ (λ j k. in_map c && bit (slice_index os j) k) index place
    ∙ ap (λ a. a && map_bit os c) (sym (lt-ltb (8 * (16 - (i + 1))) c (omega arith))))
    (λ past.
    or_false (nat_lt (8 * (16 - i)) c && map_bit os c) (nat_le from c && bit v (c - from)) (and_right (nat_le from c) (bit v (c - from)) (bits (c - from) ∙ and_right (in_map (8 * (15 - i) + 1 + (c - from))) (bit o (c - from)) (bit_past o 8 (c - from) small past)))
    ∙ ap (λ a. a && map_bit os c) (lt-ltb (8 * (16 - i)) c (omega arith) ∙ sym (lt-ltb (8 * (16 - (i + 1))) c (omega arith))))
    (cases_lt (c - from) 8))
    (cases_lt c from)

-- before the first octet, and after the last
pub none-put : (os : List ℕ) (c : ℕ) → holds no_channels c ≡ (nat_lt 128 c && map_bit os c)
none-put os c =
    holds-none c
    ∙ sym (⊎_elim (λ l. and_right (nat_lt 128 c) (map_bit os c) (and_left (in_map c) (bit (slice_index os (15 - (c - 1) / 8)) ((c - 1) % 8)) (and_right (nat_lt 0 c) (nat_lt c 125) (le-ltb c 125 (omega arith))))) (λ l. and_left (nat_lt 128 c) (map_bit os c) (le-ltb 128 c l)) (cases_lt 128 c))

pub all-put : (os : List ℕ) (s : ChannelSet) (i : ℕ) → i ≡ 16 → ((c : ℕ) → c < 1024 → holds s c ≡ (nat_lt (8 * (16 - i)) c && map_bit os c)) → s ≡ map_set os
all-put os s i e h =
    set_is s (map_bit os)
    (λ c l. h c l ∙ ap (λ k. nat_lt (8 * (16 - k)) c && map_bit os c) e ∙ and_again (nat_lt 0 c) (nat_lt c 125) (bit (slice_index os (15 - (c - 1) / 8)) ((c - 1) % 8)))
  where
    and_again : (x y z : Bool) → (x && ((x && y) && z)) ≡ ((x && y) && z)
    and_again true y z = refl
    and_again false y z = refl

-- whether a set lies within the map
pub some-beyond : (s : ChannelSet) (c : ℕ) → c < 1024 → holds s c ≡ true → in_map c ≡ false → is_some (lowest (beyond s) 1024) ≡ true
some-beyond s c l t out = go (lowest (beyond s) 1024) refl
  where
    go : (o : Option ℕ) → lowest (beyond s) 1024 ≡ o → is_some o ≡ true
    go (Some k) q = refl
    go None q = absurd (both_ways (beyond s c) (lowest-none (beyond s) 1024 q c l) (and_from (holds s c) (not (in_map c)) t (ap not out)))

pub none-beyond : (s : ChannelSet) → holds s 0 ≡ false → ((k : ℕ) → 124 < k → holds s k ≡ false) → is_some (lowest (beyond s) 1024) ≡ false
none-beyond s z h = ap is_some (lowest_is_none (beyond s) 1024 none)
  where
    none : (c : ℕ) → c < 1024 → beyond s c ≡ false
    none c l =
        ⊎_elim (λ at0. and_left (holds s c) (not (in_map c)) (ap (holds s) at0 ∙ z))
        (λ pos. ⊎_elim (λ high. and_left (holds s c) (not (in_map c)) (h c high))
        (λ low. and_right (holds s c) (not (in_map c)) (ap not (and_from (nat_lt 0 c) (nat_lt c 125) (lt-ltb 0 c (omega arith)) (lt-ltb c 125 (omega arith)))))
        (cases_lt 124 c))
        (cases_eq c 0)

-- and so by its channels above the last of the map
pub above_map : (s : ChannelSet) → holds s 0 ≡ false → is_some (next_above s 124) ≡ is_some (lowest (beyond s) 1024)
above_map s z = go (next_above s 124) refl
  where
    go : (o : Option ℕ) → next_above s 124 ≡ o → is_some o ≡ is_some (lowest (beyond s) 1024)
    go (Some x) e =
        let f = lowest-some (above s 124) 1024 x e in
        let p = and_parts (nat_lt 124 x) (holds s x) f.passes in
        let high = ltb-true 124 x p.0 in
        sym (some-beyond s x f.below p.1 (and_right (nat_lt 0 x) (nat_lt x 125) (le-ltb x 125 (omega arith))))
    go None e =
        sym (none-beyond s z (λ k l. ⊎_elim
        (λ m. ⊎_elim (λ o. absurd (both_ways (nat_lt 124 k) o (lt-ltb 124 k l))) (λ o. o) (and_cases (nat_lt 124 k) (holds s k) (lowest-none (above s 124) 1024 e k m)))
        (λ m. holds-past s k m) (cases_lt k 1024)))
