-- Bits that are put into octets.
use Rattle.std.proofs.Common.{◌≡◌, ℕ, suc, ◌+◌, ◌-◌, ◌*◌, ◌/◌, ◌%◌, ◌^◌, ◌<◌, ◌≤◌, Bool, true, false, ◌&&◌, ◌||◌, ltb, leb, ◌⊎◌, List, length, get_or, set, sym, refl, ap, ◌∙◌, subst, ap₂, inl, inr, ⊎_elim, arith}
use lib.Bits.{bit_or, bit_and}
use Rattle.std.proofs.lemmas.Nat.{shl_below, shr_le, and_mask}
use Rattle.std.proofs.lemmas.List.{get_or-set_same, get_or-set_other}
use Rattle.std.proofs.lemmas.Bool.{cases_lt, cases_eq, le-leb, lt-leb, lt-ltb, le-ltb, and_left, and_right}
use Rattle.bits.specs.Bits.{bit}
use Rattle.bits.proofs.Digits.{bit-or, bit_shr, bit_mod, bit_past, bit_shl_high, bit_shl_low}
use Rattle.packing.specs.Fields.{bit_at}
use Rattle.packing.specs.Writing.{stands}
use Rattle.packing.proofs.Fields.{at_split}

pub or_none : (b : Bool) → (b || false) ≡ b
or_none true = refl
or_none false = refl

or_assoc : (a b c : Bool) → ((a || b) || c) ≡ (a || (b || c))
or_assoc true b c = refl
or_assoc false b c = refl

-- within the bits, before them and behind them
pub stands_in : (p w v x : ℕ) → p ≤ x → x < p + w → stands p w v x ≡ bit v (p + w - suc x)
unfolding stands
stands_in p w v x a b = rw (le-leb p x a, lt-ltb x (p + w) b) refl

pub stands-before : (p w v x : ℕ) → x < p → stands p w v x ≡ false
unfolding stands
stands-before p w v x a = rw (lt-leb p x a) refl

pub stands-behind : (p w v x : ℕ) → p + w ≤ x → stands p w v x ≡ false
unfolding stands
stands-behind p w v x a =
    and_left (leb p x && ltb x (p + w)) (bit v (p + w - suc x)) (and_right (leb p x) (ltb x (p + w)) (le-ltb x (p + w) a))

-- where a position lies
pub parts : (p w x : ℕ) → (x < p) ⊎ (((p ≤ x) × (x < p + w)) ⊎ (p + w ≤ x))
parts p w x = ⊎_elim inl (λ a. inr (⊎_elim (λ b. inl (a, b)) inr (cases_lt x (p + w)))) (cases_lt x p)

-- the bits in two parts
pub stands_split : (p a b v x : ℕ) → stands p (a + b) v x ≡ (stands p a (v / 2 ^ b) x || stands (p + a) b (v % 2 ^ b) x)
stands_split p a b v x =
    ⊎_elim
    (λ l. stands-before p (a + b) v x l ∙ sym (ap₂ (λ s t. s || t) (stands-before p a (v / 2 ^ b) x l) (stands-before (p + a) b (v % 2 ^ b) x (omega arith))))
    (⊎_elim
    (λ m. let i : p + (a + b) - suc x ≡ b + (p + a - suc x) = omega (arith, m.0, m.1) in
    stands_in p (a + b) v x m.0 (omega (arith, m.1)) ∙ ap (bit v) i ∙ sym (bit_shr v b (p + a - suc x))
    ∙ sym (ap₂ (λ s t. s || t) (stands_in p a (v / 2 ^ b) x m.0 m.1) (stands-before (p + a) b (v % 2 ^ b) x m.1) ∙ or_none (bit (v / 2 ^ b) (p + a - suc x))))
    (λ h. ⊎_elim
    (λ l. let i : p + (a + b) - suc x ≡ p + a + b - suc x = omega arith in
    stands_in p (a + b) v x (omega arith) (omega arith) ∙ ap (bit v) i ∙ sym (bit_mod v b (p + a + b - suc x) (omega arith))
    ∙ sym (ap₂ (λ s t. s || t) (stands-behind p a (v / 2 ^ b) x h) (stands_in (p + a) b (v % 2 ^ b) x h l)))
    (λ g. stands-behind p (a + b) v x (omega arith) ∙ sym (ap₂ (λ s t. s || t) (stands-behind p a (v / 2 ^ b) x h) (stands-behind (p + a) b (v % 2 ^ b) x g)))
    (cases_lt x (p + a + b))))
    (parts p a x)

-- an octet with bits put in
pub or_at : (os : List ℕ) (k b x : ℕ) → k < length os → bit_at (set os k (bit_or (get_or os k 0) b)) x ≡ (bit_at os x || stands (8 * k) 8 b x)
or_at os k b x h =
    at_split (set os k (bit_or (get_or os k 0) b)) x
    ∙ ⊎_elim
    (λ same.
    let i : 7 - x % 8 ≡ 8 * k + 8 - suc x = omega arith in
    ap (λ j. bit (get_or (set os k (bit_or (get_or os k 0) b)) j 0) (7 - x % 8)) same
    ∙ ap (λ o. bit o (7 - x % 8)) (get_or-set_same os k (bit_or (get_or os k 0) b) 0 h)
    ∙ bit-or (get_or os k 0) b (7 - x % 8)
    ∙ ap₂ (λ s t. s || t) (ap (λ j. bit (get_or os j 0) (7 - x % 8)) (sym same) ∙ sym (at_split os x)) (ap (bit b) i ∙ sym (stands_in (8 * k) 8 b x (omega arith) (omega arith))))
    (λ other.
    ap (λ o. bit o (7 - x % 8)) (get_or-set_other os k (x / 8) (bit_or (get_or os k 0) b) 0 other)
    ∙ sym (at_split os x) ∙ sym (or_none (bit_at os x))
    ∙ ap (λ t. bit_at os x || t) (sym (⊎_elim (stands-before (8 * k) 8 b x) (⊎_elim (λ m. absurd (other (omega (arith, m.0, m.1)))) (stands-behind (8 * k) 8 b x)) (parts (8 * k) 8 x))))
    (cases_eq (x / 8) k)

pub or_past : (os : List ℕ) (k b x : ℕ) → x < 8 * k → bit_at os x ≡ (bit_at os x || stands (8 * k) 8 b x)
or_past os k b x h = sym (ap (λ t. bit_at os x || t) (stands-before (8 * k) 8 b x h) ∙ or_none (bit_at os x))

window_fits : (p w v : ℕ) → p % 8 + w ≤ 24 → v < 2 ^ w → v * 2 ^ (24 - w) < 2 ^ 24
window_fits p w v h f = let e : w + (24 - w) ≡ 24 = omega arith in subst (λ n. v * 2 ^ (24 - w) < 2 ^ n) e (shl_below v w (24 - w) f)

module _ (p w v : ℕ) (h : p % 8 + w ≤ 24) (f : v < 2 ^ w) where
  -- the number at its place within three octets
  abbrev pub moved : ℕ
  moved = v * 2 ^ (24 - w) / 2 ^ (p % 8)

  pub moved_is : (v * 2 ^ (24 - w)) % 4294967296 / 2 ^ (p % 8) ≡ moved
  moved_is = let e : (v * 2 ^ (24 - w)) % 4294967296 ≡ v * 2 ^ (24 - w) = omega (arith, window_fits p w v h f) in ap (λ z. z / 2 ^ (p % 8)) e

  pub moved-fits : moved < 2 ^ 24
  moved-fits = omega (arith, window_fits p w v h f, shr_le (v * 2 ^ (24 - w)) (p % 8))

  shifted : (x : ℕ) → 8 * (p / 8) ≤ x → x < p + w → stands (8 * (p / 8)) 24 moved x ≡ bit v (p + w - suc x)
  shifted x a b =
      let q = 8 * (p / 8) in
      let o = p % 8 in
      let i : o + (q + 24 - suc x) - (24 - w) ≡ p + w - suc x = omega arith in
      stands_in q 24 moved x a (omega arith)
      ∙ bit_shr (v * 2 ^ (24 - w)) o (q + 24 - suc x)
      ∙ bit_shl_high v (24 - w) (o + (q + 24 - suc x)) (omega arith)
      ∙ ap (bit v) i

  emptied : (x : ℕ) → p + w ≤ x → x < 8 * (p / 8) + 24 → stands (8 * (p / 8)) 24 moved x ≡ false
  emptied x a b =
      let q = 8 * (p / 8) in
      let o = p % 8 in
      stands_in q 24 moved x (omega arith) b
      ∙ bit_shr (v * 2 ^ (24 - w)) o (q + 24 - suc x)
      ∙ bit_shl_low v (24 - w) (o + (q + 24 - suc x)) (omega arith)

  pub window_stands : (x : ℕ) → stands (8 * (p / 8)) 24 moved x ≡ stands p w v x
  window_stands x =
      let q = 8 * (p / 8) in
      ⊎_elim
      (λ l. ⊎_elim
      (λ m. stands-before q 24 moved x m) (λ m. shifted x m (omega arith) ∙ bit_past v w (p + w - suc x) f (omega arith)) (cases_lt x q)
      ∙ sym (stands-before p w v x l))
      (⊎_elim
      (λ m. shifted x (omega (arith, m.0)) m.1 ∙ sym (stands_in p w v x m.0 m.1))
      (λ g. ⊎_elim (emptied x g) (stands-behind q 24 moved x) (cases_lt x (q + 24)) ∙ sym (stands-behind p w v x g)))
      (parts p w x)

-- three octets put in, one after another
module _ (k v x : ℕ) (b0 b1 b2 b3 : Bool) where
  pub three : b1 ≡ (b0 || stands (8 * k) 8 (v / 65536) x) → b2 ≡ (b1 || stands (8 * (k + 1)) 8 (bit_and (v / 256) 255) x) → b3 ≡ (b2 || stands (8 * (k + 2)) 8 (bit_and v 255) x)
      → b3 ≡ (b0 || stands (8 * k) 24 v x)
  three e f g =
      let s0 = stands (8 * k) 8 (v / 65536) x in
      let s1 = stands (8 * (k + 1)) 8 (bit_and (v / 256) 255) x in
      let s2 = stands (8 * (k + 2)) 8 (bit_and v 255) x in
      let m1 : 8 * k + 8 ≡ 8 * (k + 1) = omega arith in
      let m2 : 8 * k + 8 + 8 ≡ 8 * (k + 2) = omega arith in
      let d1 : v % 65536 / 256 ≡ bit_and (v / 256) 255 = let u : v % 65536 / 256 ≡ v / 256 % 256 = omega arith in u ∙ sym (and_mask (v / 256) 8) in
      let d2 : v % 65536 % 256 ≡ bit_and v 255 = let u : v % 65536 % 256 ≡ v % 256 = omega arith in u ∙ sym (and_mask v 8) in
      let t : stands (8 * k) 24 v x ≡ (s0 || (s1 || s2)) =
      stands_split (8 * k) 8 16 v x
      ∙ ap (λ z. s0 || z) (stands_split (8 * k + 8) 8 8 (v % 65536) x ∙ ap₂ (λ y z. y || z) (ap₂ (λ a b. stands a 8 b x) m1 d1) (ap₂ (λ a b. stands a 8 b x) m2 d2)) in
      g ∙ ap (λ z. z || s2) (f ∙ ap (λ z. z || s1) e) ∙ ap (λ z. z || s2) (or_assoc b0 s0 s1) ∙ or_assoc b0 (s0 || s1) s2 ∙ ap (λ z. b0 || z) (or_assoc s0 s1 s2) ∙ ap (λ z. b0 || z) (sym t)
