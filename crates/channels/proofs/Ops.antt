-- What a call leaves in a set.
use Rattle.std.proofs.Common.{◌≡◌, ℕ, suc, ◌+◌, ◌-◌, ◌*◌, ◌/◌, ◌%◌, ◌^◌, ◌<◌, ◌≤◌, Bool, true, false, cond, ◌&&◌, ◌||◌, eqb, ltb, leb, List, [], ◌∷◌, ◌++◌, length, get_or, drop, set, sym, refl, ap, ◌∙◌, subst, ap₂, ⊎_elim, arith, pow_mono}
use lib.Bits.{bit_and}
use native.Mathlib.Nat.{div-eq_of_lt}
use Rattle.bits.specs.Bits.{bit, bit_in, tally, rising}
use Rattle.bits.specs.Numbers.{has, from_on}
use Rattle.bits.proofs.Digits.{bit_past, bit_mod, bit_shr, bit_shl_low, bit_shl_high, bit-zero, bit_cleared, Low, trailing_low, tally_le, length-rising, rising-gap, rising-next}
use lib.Count.{ones, count_trailing_zeros}
use Rattle.std.proofs.lemmas.Nat.{and_le_l}
use Rattle.std.proofs.lemmas.List.{take_more_set, drop-set-lt, drop-drop, length-set, length_push}
use Rattle.bits.proofs.Lists.{in_split, in_at, tally-words}
use Rattle.channels.specs.declared.ChannelSet.{ChannelSet}
use Rattle.channels.specs.Sets.{holds, put, above, Listed}
use Rattle.channels.proofs.Views.{set_is, holds-bits}
use Rattle.std.proofs.lemmas.Bool.{cases_lt, cases_eq, lt-ltb, le-ltb, le-leb, lt-leb, eq-eqb, ne_eqb, cond-true, cond-false, and_left, and_right, both_ways}

-- words of the tests
pub holds-word : (s : ChannelSet) (i b : ℕ) → b < 64 → holds s (64 * i + b) ≡ bit (get_or s.numbers.words i 0) b
holds-word s i b l = holds-bits s (64 * i + b) ∙ in_at s.numbers.words i b l

-- one channel put in or taken out
pub put_is : (s r : ChannelSet) (c n : ℕ) (x : Bool) → n ≡ c → ((k : ℕ) → has r.numbers k ≡ cond (eqb k n) x (has s.numbers k)) → r ≡ put s c x
unfolding holds
put_is s r c n x e h = set_is r (λ k. cond (eqb k c) x (holds s k)) (λ k l. h k ∙ ap (λ m. cond (eqb k m) x (holds s k)) e)

-- the channels above n, and from n + 1 on
pub above-below : (s : ChannelSet) (n k : ℕ) → k ≤ n → above s n k ≡ false
above-below s n k l = and_left (ltb n k) (holds s k) (le-ltb n k l)

pub above-from : (s : ChannelSet) (n k : ℕ) → from_on s.numbers (n + 1) k ≡ above s n k
unfolding holds
above-from s n k =
    ap (λ x. x && has s.numbers k)
    (⊎_elim (λ l. le-leb (n + 1) k (omega arith) ∙ sym (lt-ltb n k l)) (λ l. lt-leb (n + 1) k (omega arith) ∙ sym (le-ltb n k l)) (cases_lt n k))

pub or_false : (x y : Bool) → y ≡ false → (x || y) ≡ x
or_false true y e = refl
or_false false y e = e

-- an octet whose lowest bit stands for the channel `from`, as the bits of two words
module _ (o from c : ℕ) (small : o < 256) where
  abbrev pub lower : Bool
  lower = eqb (c / 64) (from / 64) && bit ((o * 2 ^ (from % 64)) % 2 ^ 64) (c % 64)

  abbrev pub upper : Bool
  upper = eqb (c / 64) (from / 64 + 1) && bit (o / 2 ^ (64 - from % 64)) (c % 64)

  far : 8 ≤ c - from → bit o (c - from) ≡ false
  far h = bit_past o 8 (c - from) small h

  lower-no : (c / 64 ≡ from / 64 → ⊥) → lower ≡ false
  lower-no n = and_left (eqb (c / 64) (from / 64)) _ (ne_eqb (c / 64) (from / 64) n)

  upper-no : (c / 64 ≡ from / 64 + 1 → ⊥) → upper ≡ false
  upper-no n = and_left (eqb (c / 64) (from / 64 + 1)) _ (ne_eqb (c / 64) (from / 64 + 1) n)

  neither : (x : Bool) → x ≡ false → lower ≡ false → upper ≡ false → x ≡ (lower || upper)
  neither x p q r = p ∙ sym (ap₂ (λ a b. a || b) q r)

  in_lower : c / 64 ≡ from / 64 → (leb from c && bit o (c - from)) ≡ lower
  in_lower e =
      let b = c % 64 in
      let r = from % 64 in
      let m : bit ((o * 2 ^ r) % 2 ^ 64) b ≡ bit (o * 2 ^ r) b = bit_mod (o * 2 ^ r) 64 b (omega arith) in
      let t : lower ≡ bit (o * 2 ^ r) b = ap (λ x. x && bit ((o * 2 ^ r) % 2 ^ 64) b) (eq-eqb (c / 64) (from / 64) e) ∙ m in
      ⊎_elim
      (λ l. and_left (leb from c) (bit o (c - from)) (lt-leb from c (omega arith)) ∙ sym (t ∙ bit_shl_low o r b l))
      (λ l. let d : c - from ≡ c % 64 - from % 64 = omega arith in ap₂ (λ x k. x && bit o k) (le-leb from c (omega arith)) d ∙ sym (t ∙ bit_shl_high o r b l))
      (cases_lt b r)

  in_upper : c / 64 ≡ from / 64 + 1 → (leb from c && bit o (c - from)) ≡ upper
  in_upper e =
      let b = c % 64 in
      let r = from % 64 in
      let d : 64 - from % 64 + c % 64 ≡ c - from = omega arith in
      let t : upper ≡ bit o (c - from) = ap (λ x. x && bit (o / 2 ^ (64 - r)) b) (eq-eqb (c / 64) (from / 64 + 1) e) ∙ bit_shr o (64 - r) b ∙ ap (bit o) d in
      ap (λ x. x && bit o (c - from)) (le-leb from c (omega arith)) ∙ sym t

  pub eight_bits : (leb from c && bit o (c - from)) ≡ (lower || upper)
  eight_bits =
      ⊎_elim
      (λ e. in_lower e ∙ sym (or_false lower upper (upper-no (λ f. omega arith))))
      (λ n. ⊎_elim
      (λ e. in_upper e ∙ sym (ap (λ x. x || upper) (lower-no n)))
      (λ m. neither (leb from c && bit o (c - from))
      (⊎_elim (λ l. and_left (leb from c) (bit o (c - from)) (lt-leb from c (omega arith))) (λ l. and_right (leb from c) (bit o (c - from)) (far (omega arith))) (cases_lt (c / 64) (from / 64)))
      (lower-no n) (upper-no m))
      (cases_eq (c / 64) (from / 64 + 1)))
      (cases_eq (c / 64) (from / 64))

  -- an octet that does not reach into the next word
  pub eight_low : from % 64 ≤ 56 → (leb from c && bit o (c - from)) ≡ lower
  eight_low h =
      let h : 8 ≤ 64 - from % 64 = omega arith in
      let p : 2 ^ 8 ≤ 2 ^ (64 - from % 64) = pow_mono h in
      let z : o / 2 ^ (64 - from % 64) ≡ 0 = div-eq_of_lt (omega arith) in
      eight_bits ∙ or_false lower upper (and_right (eqb (c / 64) (from / 64 + 1)) (bit (o / 2 ^ (64 - from % 64)) (c % 64)) (ap (λ x. bit x (c % 64)) z ∙ bit-zero (c % 64)))

-- a set turned by d
pub turned-word : (s : ChannelSet) (d i b : ℕ) → d < 1024 → i < 16 → b < 64
    → cond (ltb b (d % 64)) (bit (get_or s.numbers.words ((i + 15 - d / 64) % 16) 0) (b + 64 - d % 64)) (bit (get_or s.numbers.words ((i + 16 - d / 64) % 16) 0) (b - d % 64))
    ≡ holds s ((64 * i + b + 1024 - d) % 1024)
turned-word s d i b hd hi hb =
    let r = d % 64 in
    let x = bit (get_or s.numbers.words ((i + 15 - d / 64) % 16) 0) (b + 64 - r) in
    let y = bit (get_or s.numbers.words ((i + 16 - d / 64) % 16) 0) (b - r) in
    ⊎_elim
    (λ h.
    let e : 64 * ((i + 15 - d / 64) % 16) + (b + 64 - d % 64) ≡ (64 * i + b + 1024 - d) % 1024 = omega arith in
    cond-true (ltb b r) x y (lt-ltb b r h) ∙ sym (holds-word s ((i + 15 - d / 64) % 16) (b + 64 - r) (omega arith)) ∙ ap (holds s) e)
    (λ h.
    let e : 64 * ((i + 16 - d / 64) % 16) + (b - d % 64) ≡ (64 * i + b + 1024 - d) % 1024 = omega arith in
    cond-false (ltb b r) x y (le-ltb b r h) ∙ sym (holds-word s ((i + 16 - d / 64) % 16) (b - r) (omega arith)) ∙ ap (holds s) e)
    (cases_lt b r)

pub turned_is : (s : ChannelSet) (d : ℕ) (ws : List ℕ)
    → ((i : ℕ) → i < 16 → (b : ℕ) → b < 64 → bit (get_or ws i 0) b ≡ holds s ((64 * i + b + 1024 - d) % 1024))
    → (k : ℕ) → k < 1024 → bit_in ws k ≡ holds s ((k + 1024 - d) % 1024)
turned_is s d ws each k h =
    let same : 64 * (k / 64) + k % 64 ≡ k = omega arith in
    in_split ws k ∙ each (k / 64) (omega arith) (k % 64) (omega arith) ∙ ap (λ m. holds s ((m + 1024 - d) % 1024)) same

-- how many
pub size_more : (s : ChannelSet) (i : ℕ) → tally (holds s) (64 * (i + 1)) ≡ tally (holds s) (64 * i) + ones (get_or s.numbers.words i 0)
unfolding holds
size_more s i = tally-words s.numbers.words i s.numbers.fits

-- a word whose bits below p are listed
pub record Part (s : ChannelSet) (i n p w : ℕ) (out before : List ℕ) : Type 0 where
  pub most : p ≤ 64
  pub fit : w < 2 ^ 64
  pub bits : (b : ℕ) → b < 64 → bit w b ≡ cond (ltb b p) false (bit (get_or s.numbers.words i 0) b)
  pub done : Listed s (64 * i + p) n out
  pub rest : drop n out ≡ drop n before
  pub long : length out ≡ 1024

pub part_none : (s : ChannelSet) (i n : ℕ) (out : List ℕ) → Listed s (64 * i) n out → length out ≡ 1024 → Part s i n 0 (get_or s.numbers.words i 0) out out
part_none s i n out l h =
    let e : 64 * i ≡ 64 * i + 0 = omega arith in
    record {
      most = omega arith;
      fit = s.numbers.fits i;
      bits = λ b m. sym (cond-false (ltb b 0) false (bit (get_or s.numbers.words i 0) b) (le-ltb b 0 (omega arith)));
      done = subst (λ m. Listed s m n out) e l;
      rest = refl;
      long = h;
    }

pub listed-none : (s : ChannelSet) (out : List ℕ) → Listed s 0 0 out
unfolding tally rising
listed-none s out = record { count = refl; front = refl }

-- what stands behind r stands behind more
pub rest_more : (s : ChannelSet) (i n r : ℕ) (old mid new : List ℕ) → Listed s (64 * i) n mid → Listed s (64 * (i + 1)) r new
    → drop n mid ≡ drop n old → drop r new ≡ drop r mid → drop r new ≡ drop r old
rest_more s i n r old mid new a b p q =
    let e : n + (r - n) ≡ r = omega (arith, a.count, b.count, size_more s i) in
    q ∙ ap (λ k. drop k mid) (sym e) ∙ sym (drop-drop (r - n) n mid) ∙ ap (drop (r - n)) p ∙ drop-drop (r - n) n old ∙ ap (λ k. drop k old) e

module _ (s : ChannelSet) (i n p w : ℕ) (out before : List ℕ) (small : i < 16) (part : Part s i n p w out before) where
  abbrev W : ℕ
  W = get_or s.numbers.words i 0

  -- the bits from p on are the word's
  from : (b : ℕ) → b < 64 → p ≤ b → bit w b ≡ bit W b
  from b l h = part.bits b l ∙ cond-false (ltb b p) false (bit W b) (le-ltb b p h)

  gap : (q : ℕ) → q ≤ 64 → ((b : ℕ) → p ≤ b → b < q → bit w b ≡ false) → (k : ℕ) → 64 * i + p ≤ k → k < 64 * i + q → holds s k ≡ false
  gap q le h k a b =
      let e : 64 * i + (k - 64 * i) ≡ k = omega arith in
      let l : k - 64 * i < 64 = omega arith in
      ap (holds s) (sym e) ∙ holds-word s i (k - 64 * i) l ∙ sym (from (k - 64 * i) l (omega arith)) ∙ h (k - 64 * i) (omega arith) (omega arith)

  pub part_all : w ≡ 0 → Listed s (64 * (i + 1)) n out
  part_all z =
      let e : 64 * (i + 1) ≡ 64 * i + 64 = omega arith in
      let m = part.most in
      let g : rising (holds s) (64 * (i + 1)) ≡ rising (holds s) (64 * i + p) =
      ap (rising (holds s)) e ∙ rising-gap (holds s) (64 * i + p) (64 * i + 64) (omega arith) (gap 64 (omega arith) (λ b x y. ap (λ v. bit v b) z ∙ bit-zero b)) in
      record {
        count = part.done.count ∙ sym (length-rising (holds s) (64 * i + p)) ∙ ap length (sym g) ∙ length-rising (holds s) (64 * (i + 1));
        front = part.done.front ∙ sym g;
      }

  module _ (nz : w ≡ 0 → ⊥) where
    abbrev t : ℕ
    t = count_trailing_zeros 64 w

    low : Low 64 w t
    low = trailing_low 64 w part.fit nz

    reached : p ≤ t
    reached =
        ⊎_elim (λ l. absurd (both_ways (bit w t) (part.bits t low.below ∙ cond-true (ltb t p) false (bit W t) (lt-ltb t p l)) low.set)) (λ l. l) (cases_lt t p)

    pub part_room : n < 1024
    part_room = let a = low.below in let b = reached in omega (arith, part.done.count, tally_le (holds s) (64 * i + p))

    next : rising (holds s) (64 * i + suc t) ≡ rising (holds s) (64 * i + p) ++ (64 * i + t) ∷ []
    next =
        let a = low.below in
        let b = reached in
        let e : 64 * i + suc t ≡ suc (64 * i + t) = omega arith in
        ap (rising (holds s)) e
        ∙ rising-next (holds s) (64 * i + p) (64 * i + t) (omega arith) (gap t (omega arith) (λ b x y. low.first b y)) (holds-word s i t a ∙ sym (from t a b) ∙ low.set)

    pub part_more : Part s i (n + 1) (suc t) (bit_and w (w - 1)) (set out n (64 * i + t)) before
    part_more =
        let a = low.below in
        let b = reached in
        let room = part_room in
        let long = part.long in
        let v = 64 * i + t in
        record {
          most = omega arith;
          fit = omega (arith, part.fit, and_le_l w (w - 1));
          bits = λ k l. bit_cleared w t k low.set low.first
              ∙ ⊎_elim
              (λ h. cond-true (ltb t k) (bit w k) false (lt-ltb t k h) ∙ from k l (omega arith) ∙ sym (cond-false (ltb k (suc t)) false (bit W k) (le-ltb k (suc t) (omega arith))))
              (λ h. cond-false (ltb t k) (bit w k) false (le-ltb t k h) ∙ sym (cond-true (ltb k (suc t)) false (bit W k) (lt-ltb k (suc t) (omega arith))))
              (cases_lt t k);
          done = record {
            count = ap (λ m. m + 1) (part.done.count ∙ sym (length-rising (holds s) (64 * i + p)))
                ∙ sym (length_push (rising (holds s) (64 * i + p)) v) ∙ ap length (sym next) ∙ length-rising (holds s) (64 * i + suc t);
            front = take_more_set out n v (omega arith) ∙ ap (λ l. l ++ v ∷ []) part.done.front ∙ sym next;
          };
          rest = drop-set-lt (n + 1) out n v (omega arith) ∙ sym (drop-drop 1 n out) ∙ ap (drop 1) part.rest ∙ drop-drop 1 n before;
          long = length-set out n v ∙ long;
        }
