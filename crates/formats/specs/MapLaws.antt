-- Bit map 0 reads back what it writes, and writes whatever it can read.
use Rattle.std.specs.Prelude.{◌≡◌, ℕ, zero, suc, ◌+◌, ◌-◌, ◌*◌, ◌/◌, ◌%◌, ◌<◌, Bool, true, false, not, ◌&&◌, List, ◌∷◌, length, Some, None, Ok, Option, nat_lt, slice_index, refl}
use Rattle.std.proofs.Common.{sym, ◌∙◌, ap, ⊎_elim, arith}
use Rattle.std.proofs.Math.Path.{fun_ext}
use Rattle.std.proofs.lemmas.List.FromFn.{length-map-range_with_len, get_or-map-range_with_len}
use Rattle.std.proofs.ByRecursion.{All-from_get_or}
use Rattle.std.proofs.lemmas.Bool.{and_parts, and_right, and_cases, ltb-true, lt-ltb, le-ltb, eqb-true, cases_lt, both_ways}
use Rattle.bits.specs.Bits.{bit}
use Rattle.bits.specs.Lowest.{lowest}
use Rattle.bits.proofs.Lows.{lowest-none, lowest_is_none}
use Rattle.bits.proofs.Digits.{bit-number, number-below, bit_mod, bits_below}
use Rattle.channels.specs.declared.ChannelSet.{ChannelSet}
use Rattle.channels.specs.Sets.{holds, set_of}
use Rattle.channels.proofs.Views.{same_set, holds_of, holds-past}
use Rattle.piles.specs.Flagged.{plain}
use Rattle.piles.specs.Laws.{Octets}
use Rattle.piles.specs.Calls.{some-none}
use Rattle.formats.specs.BitMap0.{map_claim, in_map, map_bit, map_set, map_octet, map_octets, beyond, unless, bit_map0}
use Rattle.piles.specs.Faithful.{Faithful}

-- bits 6 and 5 of the first octet
plain-bit : (o : ℕ) (os : List ℕ) (c : ℕ) → map_bit (plain o ∷ os) c ≡ map_bit (o ∷ os) c
plain-bit o os c = go (in_map c) refl
  where
    low_bits : (x y k : ℕ) → k < 4 → x % 16 ≡ y % 16 → bit x k ≡ bit y k
    low_bits x y k h e = sym (bit_mod x 4 k h) ∙ ap (λ z. bit z k) e ∙ bit_mod y 4 k h

    at : (i k : ℕ) → (i ≡ 0 → k < 4) → bit (slice_index (plain o ∷ os) i) k ≡ bit (slice_index (o ∷ os) i) k
    at zero k h = low_bits (plain o) o k (h refl) (omega arith)
    at (suc i) k h = refl

    go : (b : Bool) → in_map c ≡ b → map_bit (plain o ∷ os) c ≡ map_bit (o ∷ os) c
    go false e = rw e refl
    go true e =
        let p = and_parts (nat_lt 0 c) (nat_lt c 125) e in
        let low = ltb-true 0 c p.0 in
        let high = ltb-true c 125 p.1 in
        ap (λ b. in_map c && b) (at (15 - (c - 1) / 8) ((c - 1) % 8) (λ z. omega arith))

plain-claims : (o : ℕ) → o < 256 → map_claim (plain o) ≡ map_claim o
plain-claims o h =
    ⊎_elim (λ l. lt-ltb (plain o) 64 (omega arith) ∙ sym (lt-ltb o 64 l)) (λ l. le-ltb (plain o) 64 (omega arith) ∙ sym (le-ltb o 64 l)) (cases_lt o 64)

-- what is written
unless-some : (o : Option ℕ) (ws os : List ℕ) → unless o ws ≡ Some os → (o ≡ None) × (ws ≡ os)
unless-some (Some c) ws os e = let z : ◌≡◌ {A = ℕ} 0 1 = cc in absurd (omega arith)
unless-some None ws os e = (refl, cc)

unless-none : (o : Option ℕ) (ws : List ℕ) → unless o ws ≡ None → (c : ℕ) × (o ≡ Some c)
unless-none (Some c) ws e = (c, refl)
unless-none None ws e = let z : ◌≡◌ {A = ℕ} 0 1 = cc in absurd (omega arith)

octet_at : (s : ChannelSet) (i : ℕ) → i < 16 → slice_index (map_octets s) i ≡ map_octet s i
octet_at s i h = get_or-map-range_with_len (map_octet s) 0 16 i i 0 h (omega arith)

pub long-octets : (s : ChannelSet) → length (map_octets s) ≡ 16
long-octets s = length-map-range_with_len (map_octet s) 0 16

module _ (s : ChannelSet) (none : lowest (beyond s) 1024 ≡ None) where
  -- a channel that the map has no bit for is in no set that it writes
  not_beyond : (c : ℕ) → in_map c ≡ false → holds s c ≡ false
  not_beyond c out =
      ⊎_elim (λ l. ⊎_elim (λ n. n) (λ n. absurd (both_ways (in_map c) out (not-false (in_map c) n))) (and_cases (holds s c) (not (in_map c)) (lowest-none (beyond s) 1024 none c l))) (λ l. holds-past s c l) (cases_lt c 1024)
    where
      not-false : (b : Bool) → not b ≡ false → b ≡ true
      not-false true e = refl
      not-false false e = sym e

  first_small : map_octet s 0 < 64
  first_small =
      bits_below 8 6 (map_octet s 0) (number-below (λ k. holds s (121 + k)) 8)
      (λ k a b. bit-number (λ k. holds s (121 + k)) 8 k b ∙ not_beyond (121 + k) (and_right (nat_lt 0 (121 + k)) (nat_lt (121 + k) 125) (le-ltb (121 + k) 125 (omega arith))))

  bit-back : (c : ℕ) → map_bit (map_octets s) c ≡ holds s c
  bit-back c = go (in_map c) refl
    where
      go : (b : Bool) → in_map c ≡ b → map_bit (map_octets s) c ≡ holds s c
      go false e = rw e (sym (not_beyond c e))
      go true e =
          let p = and_parts (nat_lt 0 c) (nat_lt c 125) e in
          let low = ltb-true 0 c p.0 in
          let high = ltb-true c 125 p.1 in
          let i = 15 - (c - 1) / 8 in
          let k = (c - 1) % 8 in
          let place : 8 * (15 - i) + 1 + k ≡ c = omega arith in
          rw e (ap (λ x. bit x k) (octet_at s i (omega arith)) ∙ bit-number (λ k. holds s (8 * (15 - i) + 1 + k)) 8 k (omega arith) ∙ ap (holds s) place)

  set_back : map_set (map_octets s) ≡ s
  set_back = same_set (map_set (map_octets s)) s (λ c l. holds_of (map_bit (map_octets s)) c l ∙ bit-back c)

  octets-below : Octets (map_octets s)
  octets-below = All-from_get_or (λ o. o < 256) (map_octets s) 0 (λ i h. let l : i < 16 = omega (arith, long-octets s) in rw (octet_at s i l) (number-below (λ k. holds s (8 * (15 - i) + 1 + k)) 8))

-- nothing that is read lies beyond the map
read-within : (os : List ℕ) → lowest (beyond (map_set os)) 1024 ≡ None
read-within os =
    lowest_is_none (beyond (map_set os)) 1024
    (λ c h. ap (λ b. b && not (in_map c)) (holds_of (map_bit os) c h) ∙ and_not (in_map c) (bit (slice_index os (15 - (c - 1) / 8)) ((c - 1) % 8)))
  where
    and_not : (x y : Bool) → ((x && y) && not x) ≡ false
    and_not true true = refl
    and_not true false = refl
    and_not false y = refl

pub map_faithful : Faithful bit_map0
map_faithful = record {
  sizes = λ L e. let l = eqb-true L 16 e in (omega arith, omega arith);
  plain_claim = plain-claims;
  plain-set = λ o os h. ap (λ f. Ok (set_of f)) (fun_ext (plain-bit o os));
  long = λ s L os f e. let w = unless-some (lowest (beyond s) 1024) (map_octets s) os e in ap length (sym w.1) ∙ long-octets s ∙ sym (eqb-true L 16 f);
  octets = λ s L os f e. let w = unless-some (lowest (beyond s) 1024) (map_octets s) os e in rw (← w.1) (octets-below s w.0);
  claims = λ s L os f e. let w = unless-some (lowest (beyond s) 1024) (map_octets s) os e in ap (λ xs. map_claim (slice_index xs 0)) (sym w.1) ∙ lt-ltb (map_octet s 0) 64 (first_small s w.0);
  back = λ s L os f e. let w = unless-some (lowest (beyond s) 1024) (map_octets s) os e in ap Ok (ap map_set (sym w.1) ∙ set_back s w.0);
  never = λ s os f e oct r.
      let same : map_set os ≡ s = cc in
      some-none (unless-none (lowest (beyond s) 1024) (map_octets s) e).1 (ap (λ (t : ChannelSet). lowest (beyond t) 1024) (sym same) ∙ read-within os);
}
