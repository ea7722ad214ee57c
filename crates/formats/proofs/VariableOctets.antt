-- The octets of a variable bit map, one by one.
use Rattle.std.proofs.Common.{◌≡◌, ℕ, suc, ◌+◌, ◌-◌, ◌*◌, ◌/◌, ◌%◌, ◌^◌, ◌<◌, ◌≤◌, Bool, true, false, ◌&&◌, ◌||◌, eqb, ltb, leb, List, length, get_or, sym, refl, ap, ◌∙◌, ap₂, ⊎_elim, arith}
use lib.Bits.{bit_or}
use Rattle.std.specs.Int.{reverse_bits_onto}
use Rattle.std.proofs.lemmas.Bool.{eq-eqb, ne_eqb, lt-ltb, le-ltb, le-leb, lt-leb, cases_lt, cases_eq, cond-true, cond-false, and_left}
use Rattle.bits.specs.Bits.{bit}
use Rattle.bits.proofs.Digits.{bits-same, bit-number, number-below, bit_mod, bit_shr, bit_past, bit-or, bit_pow}
use Rattle.channels.specs.declared.ChannelSet.{ChannelSet}
use Rattle.channels.specs.Sets.{holds, set_of, no_channels, put_eight, eight_from, turned}
use Rattle.channels.proofs.Views.{set_is, set_same, holds_of, holds-none}
use Rattle.channels.proofs.Ops.{or_false}
use Rattle.origins.specs.Origins.{ahead}
use Rattle.packing.specs.Fields.{bit_at}
use Rattle.packing.proofs.Fields.{at_octet}
use Rattle.packing.proofs.Packings.{at-past}
use Rattle.formats.specs.Variable.{orig_in, is_marked, variable_set, variable_bit, variable_octet, marks_in}
use Rattle.formats.proofs.Reversals.{bit_reversed, reversed_is}
use Rattle.formats.specs.VariableLaws.{orig_below}

-- reading: the bits of an octet the other way round
or_swap : (x y : Bool) → (x || y) ≡ (y || x)
or_swap true true = refl
or_swap true false = refl
or_swap false true = refl
or_swap false false = refl

pub nearest_marks : (o : ℕ) → o < 256 → reverse_bits_onto 8 (bit_or o 128) 0 ≡ marks_in 2 o
nearest_marks o h =
    reversed_is (bit_or o 128) (λ k. eqb (8 * (2 - 2) + k) 0 || bit o (7 - k)) (λ k l.
    bit-or o (2 ^ 7) (7 - k) ∙ ap (λ b. bit o (7 - k) || b) (bit_pow 7 (7 - k) ∙ same k l) ∙ or_swap (bit o (7 - k)) (eqb (8 * (2 - 2) + k) 0))
  where
    same : (k : ℕ) → k < 8 → eqb (7 - k) 7 ≡ eqb (8 * (2 - 2) + k) 0
    same k l =
        ⊎_elim (λ z. eq-eqb (7 - k) 7 (omega arith) ∙ sym (eq-eqb (8 * (2 - 2) + k) 0 (omega arith)))
        (λ nz. ne_eqb (7 - k) 7 (λ e. nz (omega arith)) ∙ sym (ne_eqb (8 * (2 - 2) + k) 0 (λ e. nz (omega arith)))) (cases_eq k 0)

pub other_marks : (j o : ℕ) → 2 < j → reverse_bits_onto 8 o 0 ≡ marks_in j o
other_marks j o h = reversed_is o (λ k. eqb (8 * (j - 2) + k) 0 || bit o (7 - k)) (λ k l. ap (λ b. b || bit o (7 - k)) (sym (ne_eqb (8 * (j - 2) + k) 0 (λ e. omega arith))))

-- before the first octet of the map, one octet more, and after the last
pub none-marked : (os : List ℕ) (n : ℕ) → holds no_channels n ≡ (ltb n (8 * 0) && is_marked os n)
none-marked os n = holds-none n ∙ sym (and_left (ltb n (8 * 0)) (is_marked os n) (le-ltb n (8 * 0) (omega arith)))

pub marked_more : (os : List ℕ) (i o v : ℕ) (cur : ChannelSet) → o ≡ get_or os (2 + i) 0 → v ≡ marks_in (2 + i) o
    → ((n : ℕ) → n < 1024 → holds cur n ≡ (ltb n (8 * i) && is_marked os n))
    → (n : ℕ) → n < 1024 → holds (put_eight cur (8 * i) v) n ≡ (ltb n (8 * (i + 1)) && is_marked os n)
marked_more os i o v cur here is inv n l =
    let from = 8 * i in
    let f : ℕ → Bool = λ k. eqb (8 * (2 + i - 2) + k) 0 || bit o (7 - k) in
    holds_of (λ k. holds cur k || (leb from k && bit v (k - from))) n l ∙ ap (λ b. b || (leb from n && bit v (n - from))) (inv n l)
    ∙ ⊎_elim
    (λ low. ap₂ (λ a b. (a && is_marked os n) || (b && bit v (n - from))) (lt-ltb n from low) (lt-leb from n low)
    ∙ or_false (is_marked os n) false refl ∙ ap (λ a. a && is_marked os n) (sym (lt-ltb n (8 * (i + 1)) (omega arith))))
    (λ high. ap₂ (λ a b. (a && is_marked os n) || (b && bit v (n - from))) (le-ltb n from high) (le-leb from n high)
    ∙ ⊎_elim
    (λ inside.
    let back : 8 * (2 + i - 2) + (n - 8 * i) ≡ n = omega arith in
    let place : 8 * (2 + i) + (n - 8 * i) ≡ 16 + n = omega arith in
    ap (λ x. bit x (n - from)) is ∙ bit-number f 8 (n - from) inside
    ∙ ap₂ (λ a b. eqb a 0 || b) back (ap (λ x. bit x (7 - (n - from))) here ∙ sym (at_octet os (2 + i) (n - from) inside) ∙ ap (bit_at os) place)
    ∙ ap (λ a. a && is_marked os n) (sym (lt-ltb n (8 * (i + 1)) (omega arith))))
    (λ past. ap (λ x. bit x (n - from)) is ∙ bit_past (marks_in (2 + i) o) 8 (n - from) (number-below f 8) past
    ∙ sym (and_left (ltb n (8 * (i + 1))) (is_marked os n) (le-ltb n (8 * (i + 1)) (omega arith))))
    (cases_lt (n - from) 8))
    (cases_lt n from)

pub all-marked : (os : List ℕ) (s : ChannelSet) (i : ℕ) → length os ≤ 2 + i → ((n : ℕ) → n < 1024 → holds s n ≡ (ltb n (8 * i) && is_marked os n)) → 1 ≤ i → s ≡ set_of (is_marked os)
all-marked os s i e h one =
    set_is s (is_marked os) (λ n l. h n l
    ∙ ⊎_elim (λ near. ap (λ a. a && is_marked os n) (lt-ltb n (8 * i) near))
    (λ far. and_left (ltb n (8 * i)) (is_marked os n) (le-ltb n (8 * i) far)
    ∙ sym (ap₂ (λ a b. a || b) (ne_eqb n 0 (λ z. omega arith)) (at-past os (16 + n) (omega arith)))) (cases_lt n (8 * i)))

pub turned_to_orig : (os : List ℕ) → turned (set_of (is_marked os)) (orig_in os % 1024) ≡ variable_set os
turned_to_orig os =
    let b = orig_below os in
    let e : orig_in os % 1024 ≡ orig_in os = omega arith in
    ap (turned (set_of (is_marked os))) e
    ∙ set_same (λ c. holds (set_of (is_marked os)) (ahead (orig_in os) c)) (λ c. is_marked os (ahead (orig_in os) c)) (λ c l. holds_of (is_marked os) (ahead (orig_in os) c) (omega arith))

-- writing: the octets of a set t that is seen from o
module _ (t : ChannelSet) (o j : ℕ) where
  abbrev at : ℕ → Bool
  at b = variable_bit t o (8 * j + (7 - b))

  in_head : (b x : ℕ) → 8 * j + (7 - b) < 17 → 16 - (8 * j + (7 - b)) ≡ x → at b ≡ bit (71 * 1024 + o) x
  in_head b x l e =
      cond-true (ltb (8 * j + (7 - b)) 17) (bit (71 * 1024 + o) (16 - (8 * j + (7 - b)))) (holds t (8 * j + (7 - b) - 16)) (lt-ltb (8 * j + (7 - b)) 17 l) ∙ ap (bit (71 * 1024 + o)) e

  in_map : (b : ℕ) → 17 ≤ 8 * j + (7 - b) → 2 ≤ j → at b ≡ holds t (8 * (j - 2) + (7 - b))
  in_map b l h =
      let e : 8 * j + (7 - b) - 16 ≡ 8 * (j - 2) + (7 - b) = omega arith in
      cond-false (ltb (8 * j + (7 - b)) 17) (bit (71 * 1024 + o) (16 - (8 * j + (7 - b)))) (holds t (8 * j + (7 - b) - 16)) (le-ltb (8 * j + (7 - b)) 17 l) ∙ ap (holds t) e

  eight_turned : (b : ℕ) → b < 8 → bit (reverse_bits_onto 8 (eight_from t (8 * (j - 2))) 0) b ≡ holds t (8 * (j - 2) + (7 - b))
  eight_turned b l =
      let e : 8 - suc b ≡ 7 - b = omega arith in
      bit_reversed 8 (eight_from t (8 * (j - 2))) 0 b l ∙ ap (bit (eight_from t (8 * (j - 2)))) e ∙ bit-number (λ k. holds t (8 * (j - 2) + k)) 8 (7 - b) (omega arith)

  octet_by : (v : ℕ) → v < 256 → ((b : ℕ) → b < 8 → bit v b ≡ at b) → v ≡ variable_octet t o j
  octet_by v h f = bits-same 8 v (variable_octet t o j) h (number-below at 8) (λ b l. f b l ∙ sym (bit-number at 8 b l))

  pub first_octet_is : o < 1024 → j ≡ 0 → 142 + o / 512 ≡ variable_octet t o j
  first_octet_is h z =
      octet_by (142 + o / 512) (omega arith) (λ b l.
      let e : 142 + o / 512 ≡ (71 * 1024 + o) / 2 ^ 9 = omega arith in
      ap (λ x. bit x b) e ∙ bit_shr (71 * 1024 + o) 9 b ∙ sym (in_head b (9 + b) (omega arith) (omega arith)))

  pub second_octet_is : o < 1024 → j ≡ 1 → o / 2 % 256 ≡ variable_octet t o j
  second_octet_is h z =
      octet_by (o / 2 % 256) (omega arith) (λ b l.
      let e : o / 2 % 256 ≡ (71 * 1024 + o) / 2 ^ 1 % 2 ^ 8 = omega arith in
      ap (λ x. bit x b) e ∙ bit_mod ((71 * 1024 + o) / 2 ^ 1) 8 b l ∙ bit_shr (71 * 1024 + o) 1 b ∙ sym (in_head b (1 + b) (omega arith) (omega arith)))

  pub third_octet_is : o < 1024 → j ≡ 2 → reverse_bits_onto 8 (eight_from t 0) 0 % 128 + o % 2 * 128 ≡ variable_octet t o j
  third_octet_is h z =
      let from : 8 * (j - 2) ≡ 0 = omega arith in
      let v = reverse_bits_onto 8 (eight_from t 0) 0 % 128 + o % 2 * 128 in
      octet_by v (omega arith) (λ b l.
      ⊎_elim
      (λ low. let e : (reverse_bits_onto 8 (eight_from t 0) 0 % 128 + o % 2 * 128) % 2 ^ 7 ≡ reverse_bits_onto 8 (eight_from t 0) 0 % 2 ^ 7 = omega arith in
      sym (bit_mod v 7 b low) ∙ ap (λ x. bit x b) e ∙ bit_mod (reverse_bits_onto 8 (eight_from t 0) 0) 7 b low
      ∙ ap (λ x. bit (reverse_bits_onto 8 (eight_from t x) 0) b) (sym from) ∙ eight_turned b l ∙ sym (in_map b (omega arith) (omega arith)))
      (λ top. let e : b ≡ 7 + 0 = omega arith in
      let q : (reverse_bits_onto 8 (eight_from t 0) 0 % 128 + o % 2 * 128) / 2 ^ 7 ≡ (71 * 1024 + o) % 2 ^ 1 = omega arith in
      ap (bit v) e ∙ sym (bit_shr v 7 0) ∙ ap (λ x. bit x 0) q ∙ bit_mod (71 * 1024 + o) 1 0 (omega arith) ∙ sym (in_head b 0 (omega arith) (omega arith)))
      (cases_lt b 7))

  pub other_octet_is : 2 < j → reverse_bits_onto 8 (eight_from t (8 * (j - 2))) 0 ≡ variable_octet t o j
  other_octet_is h =
      reversed_is (eight_from t (8 * (j - 2))) at (λ b l. bit-number (λ k. holds t (8 * (j - 2) + k)) 8 (7 - b) (omega arith) ∙ sym (in_map b (omega arith) (omega arith)))

-- the octets written, and those behind them
