-- Laws of the bits of a number.
use Rattle.std.proofs.Common.{◌≡◌, ℕ, zero, suc, ◌+◌, ◌-◌, ◌*◌, ◌/◌, ◌%◌, ◌^◌, ◌<◌, ◌≤◌, min, max, Bool, true, false, cond, not, ◌&&◌, ◌||◌, eqb, ltb, [], ◌∷◌, ◌++◌, length, sym, refl, ap, ◌∙◌, ap₂, ⊎_elim, add-zero, add-suc, mul_assoc, add-mul, one-mul, mul_left_comm, add-one, one-add, arith, pow_mono}
use native.Mathlib.Nat.{mod-le, zero-div, div-eq_of_lt, mod_self}
use lib.Bits.{bit_and, bit_or, and_step, or_step, and_self, and_block, and_mask}
use lib.Count.{ones, ones_step, count_trailing_zeros, under}
use Rattle.std.proofs.lemmas.Nat.{shr-shr, pow-add, pow_pos, and_shr, or_shr, shl-shr, field_of, mod-pow-add, shr_split, mod_below, pow_below, one_shl}
use Rattle.std.proofs.Math.Bool.{or-false}
use Rattle.std.proofs.lemmas.List.{length-append, append-nil}
use Rattle.std.proofs.lemmas.Bool.{eq-eqb, ne_eqb, cases_lt, cases_eq, cond-true, cond-false, lt-ltb, le-ltb}
use Rattle.bits.specs.Bits.{bit, number_of, tally, rising}

pub pow_more : (k : ℕ) → 2 ^ suc k ≡ 2 * 2 ^ k
pow_more k = ap (λ m. 2 ^ m) (sym (one-add k)) ∙ pow-add 2 1 k

-- a bit as 0 or 1
abbrev pub digit : Bool → ℕ
digit b = cond b 1 0

digit_le : (b : Bool) → digit b ≤ 1
digit_le true = omega arith
digit_le false = omega arith

digit-test : (n : ℕ) → n < 2 → digit (eqb n 1) ≡ n
digit-test zero h = refl
digit-test (suc zero) h = refl
digit-test (suc (suc n)) h = absurd (omega arith)

test-digit : (b : Bool) → eqb (digit b) 1 ≡ b
test-digit true = refl
test-digit false = refl

pub bit-digit : (x k : ℕ) → digit (bit x k) ≡ x / 2 ^ k % 2
unfolding bit
bit-digit x k = digit-test (x / 2 ^ k % 2) (mod_below (x / 2 ^ k) 2 (omega arith))

-- the lowest bit, and the others
pub bit-low : (x : ℕ) → digit (bit x 0) ≡ x % 2
bit-low x = bit-digit x 0 ∙ omega arith

pub bit_shr : (x p k : ℕ) → bit (x / 2 ^ p) k ≡ bit x (p + k)
unfolding bit
bit_shr x p k = ap (λ y. eqb (y % 2) 1) (shr-shr x p k)

pub bit-next : (x k : ℕ) → bit x (suc k) ≡ bit (x / 2) k
bit-next x k = ap (bit x) (sym (one-add k)) ∙ sym (bit_shr x 1 k)

pub bit-zero : (k : ℕ) → bit 0 k ≡ false
unfolding bit
bit-zero k = rw zero-div refl

pub bit_past : (x n k : ℕ) → x < 2 ^ n → n ≤ k → bit x k ≡ false
unfolding bit
bit_past x n k h l =
    let p : 2 ^ n ≤ 2 ^ k = pow_mono l in
    let z : x / 2 ^ k ≡ 0 = div-eq_of_lt (omega arith) in
    rw z refl

-- word operations
or_digits : (a b : ℕ) → a < 2 → b < 2 → eqb (max a b) 1 ≡ (eqb a 1 || eqb b 1)
or_digits zero zero h l = refl
or_digits zero (suc zero) h l = refl
or_digits (suc zero) zero h l = refl
or_digits (suc zero) (suc zero) h l = refl
or_digits (suc (suc a)) b h l = absurd (omega arith)
or_digits zero (suc (suc b)) h l = absurd (omega arith)
or_digits (suc zero) (suc (suc b)) h l = absurd (omega arith)

and_digits : (a b : ℕ) → a < 2 → b < 2 → eqb (min a b) 1 ≡ (eqb a 1 && eqb b 1)
and_digits zero zero h l = refl
and_digits zero (suc zero) h l = refl
and_digits (suc zero) zero h l = refl
and_digits (suc zero) (suc zero) h l = refl
and_digits (suc (suc a)) b h l = absurd (omega arith)
and_digits zero (suc (suc b)) h l = absurd (omega arith)
and_digits (suc zero) (suc (suc b)) h l = absurd (omega arith)

max_lt : (a b : ℕ) → a < 2 → b < 2 → max a b < 2
max_lt a b h l = omega arith

min_lt : (a b : ℕ) → a < 2 → b < 2 → min a b < 2
min_lt a b h l = omega arith

pub bit-or : (a b k : ℕ) → bit (bit_or a b) k ≡ (bit a k || bit b k)
unfolding bit
bit-or a b k =
    let x = a / 2 ^ k in
    let y = b / 2 ^ k in
    let hx : x % 2 < 2 = mod_below x 2 (omega arith) in
    let hy : y % 2 < 2 = mod_below y 2 (omega arith) in
    let m : max (x % 2) (y % 2) < 2 = max_lt (x % 2) (y % 2) hx hy in
    let e : bit_or x y % 2 ≡ max (x % 2) (y % 2) = omega (arith, or_step x y) in
    ap (λ z. eqb (z % 2) 1) (or_shr a b k) ∙ ap (λ z. eqb z 1) e ∙ or_digits (x % 2) (y % 2) hx hy

pub bit-and : (a b k : ℕ) → bit (bit_and a b) k ≡ (bit a k && bit b k)
unfolding bit
bit-and a b k =
    let x = a / 2 ^ k in
    let y = b / 2 ^ k in
    let hx : x % 2 < 2 = mod_below x 2 (omega arith) in
    let hy : y % 2 < 2 = mod_below y 2 (omega arith) in
    let m : min (x % 2) (y % 2) < 2 = min_lt (x % 2) (y % 2) hx hy in
    let e : bit_and x y % 2 ≡ min (x % 2) (y % 2) = omega (arith, and_step x y) in
    ap (λ z. eqb (z % 2) 1) (and_shr a b k) ∙ ap (λ z. eqb z 1) e ∙ and_digits (x % 2) (y % 2) hx hy

-- one bit set
one-low : bit 1 0 ≡ true
unfolding bit
one-low = refl

even_low : (x : ℕ) → x % 2 ≡ 0 → bit x 0 ≡ false
unfolding bit
even_low x h = let e : x / 1 % 2 ≡ 0 = omega arith in ap (λ z. eqb z 1) e

eqb-suc : (j k : ℕ) → eqb j k ≡ eqb (suc j) (suc k)
eqb-suc j k = ⊎_elim (λ e. eq-eqb j k e ∙ sym (eq-eqb (suc j) (suc k) (ap suc e))) (λ n. ne_eqb j k n ∙ sym (ne_eqb (suc j) (suc k) (λ e. n (omega arith)))) (cases_eq j k)

pub bit_pow : (k j : ℕ) → bit (2 ^ k) j ≡ eqb j k
bit_pow zero zero = one-low
bit_pow zero (suc j) = bit_past 1 1 (suc j) (omega arith) (omega arith) ∙ sym (ne_eqb (suc j) 0 (λ e. omega arith))
bit_pow (suc k) zero = even_low (2 ^ suc k) (omega (arith, pow_more k)) ∙ sym (ne_eqb 0 (suc k) (λ e. omega arith))
bit_pow (suc k) (suc j) =
    let e : 2 ^ suc k / 2 ≡ 2 ^ k = omega (arith, pow_more k) in
    bit-next (2 ^ suc k) j ∙ ap (λ x. bit x j) e ∙ bit_pow k j ∙ eqb-suc j k

-- numbers with the same bits are equal
pub bits-same : (n x y : ℕ) → x < 2 ^ n → y < 2 ^ n → ((k : ℕ) → k < n → bit x k ≡ bit y k) → x ≡ y
bits-same zero x y hx hy h = omega arith
bits-same (suc n) x y hx hy h =
    let p = pow_more n in
    let low : x % 2 ≡ y % 2 = sym (bit-low x) ∙ ap digit (h 0 (omega arith)) ∙ bit-low y in
    let high : x / 2 ≡ y / 2 = bits-same n (x / 2) (y / 2) (omega arith) (omega arith) (λ k l. sym (bit-next x k) ∙ h (suc k) (omega arith) ∙ bit-next y k) in
    omega arith

-- the number of a test
pub number-below : (f : ℕ → Bool) (n : ℕ) → number_of f n < 2 ^ n
unfolding number_of
number-below f zero = omega arith
number-below f (suc n) = omega (arith, digit_le (f 0), pow_more n, number-below (λ k. f (suc k)) n)

number-low : (b : Bool) (r : ℕ) → bit (cond b 1 0 + 2 * r) 0 ≡ b
unfolding bit
number-low b r =
    let e : (cond b 1 0 + 2 * r) / 1 % 2 ≡ cond b 1 0 = omega (arith, digit_le b) in
    ap (λ y. eqb y 1) e ∙ test-digit b

pub bit-number : (f : ℕ → Bool) (n k : ℕ) → k < n → bit (number_of f n) k ≡ f k
unfolding number_of
bit-number f zero k h = absurd (omega arith)
bit-number f (suc n) zero h = number-low (f 0) (number_of (λ k. f (suc k)) n)
bit-number f (suc n) (suc k) h =
    let r = number_of (λ k. f (suc k)) n in
    let e : (cond (f 0) 1 0 + 2 * r) / 2 ≡ r = omega (arith, digit_le (f 0)) in
    bit-next (cond (f 0) 1 0 + 2 * r) k ∙ ap (λ y. bit y k) e ∙ bit-number (λ k. f (suc k)) n k (omega arith)

-- what a shift to the left leaves
pub bit_mod : (x n k : ℕ) → k < n → bit (x % 2 ^ n) k ≡ bit x k
unfolding bit
bit_mod x n k h =
    let j = n - suc k in
    let e : n ≡ suc j + k = omega arith in
    let f : x % 2 ^ n / 2 ^ k ≡ x / 2 ^ k % 2 ^ suc j = ap (λ m. x % 2 ^ m / 2 ^ k) e ∙ field_of x (suc j) k in
    let g : x / 2 ^ k % 2 ^ suc j ≡ (x / 2 ^ k / 2 % 2 ^ j) * 2 + x / 2 ^ k % 2 = ap (λ m. x / 2 ^ k % 2 ^ m) (sym (add-one j)) ∙ mod-pow-add (x / 2 ^ k) j 1 in
    let q : x % 2 ^ n / 2 ^ k % 2 ≡ x / 2 ^ k % 2 = omega arith in
    ap (λ z. eqb z 1) q

pub bit_shl_high : (a r b : ℕ) → r ≤ b → bit (a * 2 ^ r) b ≡ bit a (b - r)
bit_shl_high a r b h =
    let e : b ≡ r + (b - r) = omega arith in
    ap (bit (a * 2 ^ r)) e ∙ sym (bit_shr (a * 2 ^ r) r (b - r)) ∙ ap (λ x. bit x (b - r)) (shl-shr a r)

shl_twice : (a r : ℕ) → a * 2 ^ suc r ≡ 2 * (a * 2 ^ r)
shl_twice a r = ap (λ m. a * m) (pow_more r) ∙ mul_left_comm a 2 (2 ^ r)

pub bit_shl_low : (a r b : ℕ) → b < r → bit (a * 2 ^ r) b ≡ false
bit_shl_low a zero b h = absurd (omega arith)
bit_shl_low a (suc r) zero h = even_low (a * 2 ^ suc r) (omega (arith, shl_twice a r))
bit_shl_low a (suc r) (suc b) h =
    let e : a * 2 ^ suc r / 2 ≡ a * 2 ^ r = omega (arith, shl_twice a r) in
    bit-next (a * 2 ^ suc r) b ∙ ap (λ x. bit x b) e ∙ bit_shl_low a r b (omega arith)

-- a number without bits from m on is below 2 ^ m
pub bits_below : (n m x : ℕ) → x < 2 ^ n → ((k : ℕ) → m ≤ k → k < n → bit x k ≡ false) → x < 2 ^ m
bits_below n m x h f =
    let low : x % 2 ^ m < 2 ^ m = mod_below x (2 ^ m) (pow_pos m) in
    let same : x ≡ x % 2 ^ m = bits-same n x (x % 2 ^ m) h (omega (arith, mod-le x (2 ^ m)))
    (λ k l. ⊎_elim (λ a. sym (bit_mod x m k a)) (λ a. f k a l ∙ sym (bit_past (x % 2 ^ m) m k low a)) (cases_lt k m)) in
    omega arith

-- the complement of a word
pub bit_not : (n x k : ℕ) → x < 2 ^ n → k < n → bit (2 ^ n - 1 - x) k ≡ not (bit x k)
bit_not zero x k h l = absurd (omega arith)
bit_not (suc n) x zero h l =
    let p = pow_more n in
    let e : (2 ^ suc n - 1 - x) % 2 ≡ 1 - x % 2 = omega arith in
    low-not (bit (2 ^ suc n - 1 - x) 0) (bit x 0) (bit-low (2 ^ suc n - 1 - x) ∙ e ∙ ap (λ m. 1 - m) (sym (bit-low x)))
  where
    low-not : (a b : Bool) → digit a ≡ 1 - digit b → a ≡ not b
    low-not true true e = absurd (omega arith)
    low-not true false e = refl
    low-not false true e = refl
    low-not false false e = absurd (omega arith)
bit_not (suc n) x (suc k) h l =
    let p = pow_more n in
    let e : (2 ^ suc n - 1 - x) / 2 ≡ 2 ^ n - 1 - x / 2 = omega arith in
    bit-next (2 ^ suc n - 1 - x) k ∙ ap (λ y. bit y k) e ∙ bit_not n (x / 2) k (omega arith) (omega arith) ∙ ap not (sym (bit-next x k))

-- a word of ones
pub ones_bit : (k : ℕ) → k < 64 → bit 18446744073709551615 k ≡ true
ones_bit k h = bit_not 64 0 k (omega arith) h ∙ ap not (bit-zero k)

-- the lowest bit that is set
pub record Low (n w t : ℕ) : Type 0 where
  pub below : t < n
  pub set : bit w t ≡ true
  pub first : (j : ℕ) → j < t → bit w j ≡ false

odd_low : (x : ℕ) → x % 2 ≡ 1 → bit x 0 ≡ true
unfolding bit
odd_low x h = let e : x / 1 % 2 ≡ 1 = omega arith in ap (λ z. eqb z 1) e

pub trailing_low : (n w : ℕ) → w < 2 ^ n → (w ≡ 0 → ⊥) → Low n w (count_trailing_zeros n w)
unfolding count_trailing_zeros
trailing_low zero w h nz = absurd (nz (omega arith))
trailing_low (suc n) w h nz = go (w % 2) refl (λ e. trailing_low n (w / 2) (omega (arith, pow_more n)) (λ z. nz (omega arith)))
  where
    firsts : (t : ℕ) → w % 2 ≡ 0 → ((j : ℕ) → j < t → bit (w / 2) j ≡ false) → (j : ℕ) → j < suc t → bit w j ≡ false
    firsts t e f zero l = even_low w e
    firsts t e f (suc j) l = bit-next w j ∙ f j (omega arith)

    go : (d : ℕ) → w % 2 ≡ d → (w % 2 ≡ 0 → Low n (w / 2) (count_trailing_zeros n (w / 2))) → Low (suc n) w (under d (count_trailing_zeros n (w / 2)))
    go zero e rest =
        let r = rest e in
        record { below = omega (arith, r.below); set = bit-next w (count_trailing_zeros n (w / 2)) ∙ r.set; first = firsts (count_trailing_zeros n (w / 2)) e r.first }
    go (suc zero) e rest = record { below = omega arith; set = odd_low w e; first = λ j l. absurd (omega arith) }
    go (suc (suc d)) e rest = absurd (omega (arith, mod_below w 2 (omega arith)))

-- a word without bits is 0
pub no_bits : (n w : ℕ) → w < 2 ^ n → ((k : ℕ) → k < n → bit w k ≡ false) → w ≡ 0
no_bits n w h f = bits-same n w 0 h (pow_pos n) (λ k l. f k l ∙ sym (bit-zero k))

-- w & (w - 1) takes the lowest bit away
pub low_cleared : (w t : ℕ) → bit w t ≡ true → ((j : ℕ) → j < t → bit w j ≡ false) → bit_and w (w - 1) ≡ w / 2 ^ suc t * 2 ^ suc t
low_cleared w t s f =
    let P = 2 ^ t in
    let Q = 2 ^ suc t in
    let m = w / Q in
    let pp = pow_pos t in
    let qp : Q ≡ 2 * P = pow_more t in
    let odd : w / P % 2 ≡ 1 = sym (bit-digit w t) ∙ ap digit s in
    let none : w % P ≡ 0 = no_bits t (w % P) (mod_below w P pp) (λ k l. bit_mod w t k l ∙ f k l) in
    let half : w / P / 2 ≡ m = shr-shr w t 1 ∙ ap (λ j. w / 2 ^ j) (add-one t) in
    let whole : w / P * P + w % P ≡ w = shr_split w t in
    let up : w / P ≡ m * 2 + 1 = omega arith in
    let mul : (m * 2 + 1) * P ≡ m * Q + P = add-mul (m * 2) 1 P ∙ ap₂ (λ a b. a + b) (mul_assoc m 2 P ∙ ap (λ z. m * z) (sym qp)) (one-mul P) in
    let e : w ≡ m * Q + P = omega (arith, ap (λ a. a * P) up) in
    let d : w - 1 ≡ m * Q + (P - 1) = omega arith in
    ap₂ bit_and e d ∙ and_block (suc t) m m P (P - 1) (omega arith) (omega arith) ∙ ap₂ (λ a b. a * Q + b) (and_self m) (and_mask P t ∙ mod_self P) ∙ omega arith

-- the bits of w & (w - 1)
pub bit_cleared : (w t k : ℕ) → bit w t ≡ true → ((j : ℕ) → j < t → bit w j ≡ false) → bit (bit_and w (w - 1)) k ≡ cond (ltb t k) (bit w k) false
bit_cleared w t k s f =
    let e = low_cleared w t s f in
    let m = w / 2 ^ suc t in
    ap (λ x. bit x k) e
    ∙ ⊎_elim
    (λ l. let same : suc t + (k - suc t) ≡ k = omega arith in
    bit_shl_high m (suc t) k (omega arith) ∙ bit_shr w (suc t) (k - suc t) ∙ ap (bit w) same ∙ sym (cond-true (ltb t k) (bit w k) false (lt-ltb t k l)))
    (λ l. bit_shl_low m (suc t) k (omega arith) ∙ sym (cond-false (ltb t k) (bit w k) false (le-ltb t k l)))
    (cases_lt t k)

-- tallies
pub tally_le : (f : ℕ → Bool) (n : ℕ) → tally f n ≤ n
unfolding tally
tally_le f zero = omega arith
tally_le f (suc n) = omega (arith, tally_le f n, digit_le (f n))

pub tally-same : (f g : ℕ → Bool) (n : ℕ) → ((k : ℕ) → k < n → f k ≡ g k) → tally f n ≡ tally g n
unfolding tally
tally-same f g zero h = refl
tally-same f g (suc n) h = ap₂ (λ a b. a + digit b) (tally-same f g n (λ k l. h k (omega arith))) (h n (omega arith))

pub tally_add : (f : ℕ → Bool) (m n : ℕ) → tally f (m + n) ≡ tally f m + tally (λ k. f (m + k)) n
unfolding tally
tally_add f m zero = rw add-zero (omega arith)
tally_add f m (suc n) = rw add-suc (omega (arith, tally_add f m n))

tally-one : (f : ℕ → Bool) → tally f 1 ≡ digit (f 0)
unfolding tally
tally-one f = omega arith

none-tally : (f : ℕ → Bool) → ones 0 ≡ tally f 0
unfolding tally ones
none-tally f = refl

pub ones-tally : (n w : ℕ) → w < 2 ^ n → ones w ≡ tally (bit w) n
ones-tally zero w h = let z : w ≡ 0 = omega arith in ap ones z ∙ none-tally (bit w)
ones-tally (suc n) w h =
    let e : ones (w / 2) ≡ tally (bit (w / 2)) n = ones-tally n (w / 2) (omega (arith, pow_more n)) in
    let t : tally (λ k. bit w (1 + k)) n ≡ tally (bit (w / 2)) n = tally-same (λ k. bit w (1 + k)) (bit (w / 2)) n (λ k l. sym (bit_shr w 1 k)) in
    let a : tally (bit w) (1 + n) ≡ tally (bit w) 1 + tally (λ k. bit w (1 + k)) n = tally_add (bit w) 1 n in
    let o : tally (bit w) 1 ≡ w % 2 = tally-one (bit w) ∙ bit-low w in
    ones_step w ∙ ap₂ (λ x y. x + y) (sym o) (e ∙ sym t) ∙ sym a ∙ ap (tally (bit w)) (one-add n)

pub tally-none : (f : ℕ → Bool) (n : ℕ) → ((k : ℕ) → k < n → f k ≡ false) → tally f n ≡ 0
unfolding tally
tally-none f zero h = refl
tally-none f (suc n) h = ap₂ (λ a b. a + digit b) (tally-none f n (λ k l. h k (omega arith))) (h n (omega arith))

-- the numbers that pass
pub length-rising : (f : ℕ → Bool) (n : ℕ) → length (rising f n) ≡ tally f n
unfolding rising tally
length-rising f zero = refl
length-rising f (suc n) = length-append (rising f n) (cond (f n) (n ∷ []) []) ∙ ap₂ (λ a b. a + b) (length-rising f n) (one (f n))
  where
    one : (b : Bool) → length (cond b (n ∷ []) []) ≡ digit b
    one true = refl
    one false = refl

pub rising-gap : (f : ℕ → Bool) (m n : ℕ) → m ≤ n → ((k : ℕ) → m ≤ k → k < n → f k ≡ false) → rising f n ≡ rising f m
unfolding rising
rising-gap f m zero h g = let z : m ≡ 0 = omega arith in ap (rising f) (sym z)
rising-gap f m (suc n) h g =
    ⊎_elim (λ same. ap (rising f) (sym same))
    (λ other. ap (λ b. rising f n ++ cond b (n ∷ []) []) (g n (omega arith) (omega arith)) ∙ append-nil (rising f n) ∙ rising-gap f m n (omega arith) (λ k a b. g k a (omega arith)))
    (cases_eq m (suc n))

pub rising-next : (f : ℕ → Bool) (m n : ℕ) → m ≤ n → ((k : ℕ) → m ≤ k → k < n → f k ≡ false) → f n ≡ true → rising f (suc n) ≡ rising f m ++ n ∷ []
unfolding rising
rising-next f m n h g t = ap₂ (λ l b. l ++ cond b (n ∷ []) []) (rising-gap f m n h g) t

-- a word moved up by r bits, with the top r bits of the word below it
pub bit-joined : (high low r k : ℕ) → low < 2 ^ 64 → r < 64 → k < 64
    → bit (bit_or ((high * 2 ^ r) % 2 ^ 64) (low / 2 ^ (63 - r) / 2)) k ≡ cond (ltb k r) (bit low (k + 64 - r)) (bit high (k - r))
bit-joined high low r k f h l =
    let lo : bit (low / 2 ^ (63 - r) / 2) k ≡ bit low (k + 64 - r) =
    let e : 63 - r + suc k ≡ k + 64 - r = omega arith in
    sym (bit-next (low / 2 ^ (63 - r)) k) ∙ bit_shr low (63 - r) (suc k) ∙ ap (bit low) e in
    let hi : bit ((high * 2 ^ r) % 2 ^ 64) k ≡ bit (high * 2 ^ r) k = bit_mod (high * 2 ^ r) 64 k l in
    bit-or ((high * 2 ^ r) % 2 ^ 64) (low / 2 ^ (63 - r) / 2) k
    ∙ ap₂ (λ a b. a || b) hi lo
    ∙ ⊎_elim
    (λ s. ap (λ a. a || bit low (k + 64 - r)) (bit_shl_low high r k s) ∙ sym (cond-true (ltb k r) (bit low (k + 64 - r)) (bit high (k - r)) (lt-ltb k r s)))
    (λ s. ap₂ (λ a b. a || b) (bit_shl_high high r k s) (bit_past low 64 (k + 64 - r) f (omega arith)) ∙ or-false (bit high (k - r)) ∙ sym (cond-false (ltb k r) (bit low (k + 64 - r)) (bit high (k - r)) (le-ltb k r s)))
    (cases_lt k r)

-- the low r bits taken away
pub bit_skipped : (w r k : ℕ) → r < 64 → k < 64 → bit ((w / 2 ^ r * 2 ^ r) % 2 ^ 64) k ≡ cond (ltb k r) false (bit w k)
bit_skipped w r k h l =
    bit_mod (w / 2 ^ r * 2 ^ r) 64 k l
    ∙ ⊎_elim
    (λ s. bit_shl_low (w / 2 ^ r) r k s ∙ sym (cond-true (ltb k r) false (bit w k) (lt-ltb k r s)))
    (λ s. let e : r + (k - r) ≡ k = omega arith in
    bit_shl_high (w / 2 ^ r) r k s ∙ bit_shr w r (k - r) ∙ ap (bit w) e ∙ sym (cond-false (ltb k r) false (bit w k) (le-ltb k r s)))
    (cases_lt k r)

-- one bit put to 1, and to 0
pub bit_added : (w p b : ℕ) → p < 64 → bit (bit_or w ((1 * 2 ^ p) % 2 ^ 64)) b ≡ cond (eqb b p) true (bit w b)
bit_added w p b h =
    bit-or w ((1 * 2 ^ p) % 2 ^ 64) b ∙ ap (λ x. bit w b || bit x b) (one_shl p 64 h) ∙ ap (λ x. bit w b || x) (bit_pow p b) ∙ swap (bit w b) (eqb b p)
  where
    swap : (x y : Bool) → (x || y) ≡ cond y true x
    swap true true = refl
    swap true false = refl
    swap false true = refl
    swap false false = refl

pub bit_taken : (w p b : ℕ) → p < 64 → b < 64 → bit (bit_and w (2 ^ 64 - 1 - (1 * 2 ^ p) % 2 ^ 64)) b ≡ cond (eqb b p) false (bit w b)
bit_taken w p b h l =
    let m : 2 ^ p < 2 ^ 64 = pow_below p 64 h in
    bit-and w (2 ^ 64 - 1 - (1 * 2 ^ p) % 2 ^ 64) b ∙ ap (λ x. bit w b && bit (2 ^ 64 - 1 - x) b) (one_shl p 64 h)
    ∙ ap (λ x. bit w b && x) (bit_not 64 (2 ^ p) b m l ∙ ap not (bit_pow p b)) ∙ swap (bit w b) (eqb b p)
  where
    swap : (x y : Bool) → (x && not y) ≡ cond y false x
    swap true true = refl
    swap true false = refl
    swap false true = refl
    swap false false = refl

pub bit-without : (a b k : ℕ) → b < 2 ^ 64 → k < 64 → bit (bit_and a (2 ^ 64 - 1 - b)) k ≡ (bit a k && not (bit b k))
bit-without a b k h l = bit-and a (2 ^ 64 - 1 - b) k ∙ ap (λ x. bit a k && x) (bit_not 64 b k h l)
