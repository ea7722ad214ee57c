-- A number with its bits the other way round.
use Rattle.std.proofs.Common.{◌≡◌, ℕ, zero, suc, ◌+◌, ◌-◌, ◌*◌, ◌/◌, ◌%◌, ◌^◌, ◌<◌, ◌≤◌, Bool, true, false, sym, refl, ap, ◌∙◌, ⊎_elim, mul-le-mul_right, mul_assoc, arith}
use Rattle.std.specs.Int.{reverse_bits_onto}
use Rattle.std.proofs.lemmas.Bool.{cases_eq}
use Rattle.bits.specs.Bits.{bit, number_of}
use Rattle.bits.proofs.Digits.{digit, pow_more, bit-low, bit-next, bits-same, bit-number, number-below}

-- the bits taken over, and below them those that were there
low_bit : (x y : ℕ) → x % 2 ≡ y % 2 → bit x 0 ≡ bit y 0
low_bit x y e = same (bit x 0) (bit y 0) (bit-low x ∙ e ∙ sym (bit-low y))
  where
    same : (a b : Bool) → digit a ≡ digit b → a ≡ b
    same true true e = refl
    same true false e = absurd (omega arith)
    same false true e = absurd (omega arith)
    same false false e = refl

bit_onto : (n x a k : ℕ) → bit (reverse_bits_onto n x a) (n + k) ≡ bit a k
unfolding reverse_bits_onto
bit_onto zero x a k = let e : 0 + k ≡ k = omega arith in ap (bit a) e
bit_onto (suc n) x a k =
    let e : suc n + k ≡ n + suc k = omega arith in
    let h : (a * 2 + x % 2) / 2 ≡ a = omega arith in
    ap (bit (reverse_bits_onto n (x / 2) (a * 2 + x % 2))) e ∙ bit_onto n (x / 2) (a * 2 + x % 2) (suc k) ∙ bit-next (a * 2 + x % 2) k ∙ ap (λ y. bit y k) h

pub bit_reversed : (n x a k : ℕ) → k < n → bit (reverse_bits_onto n x a) k ≡ bit x (n - suc k)
unfolding reverse_bits_onto
bit_reversed zero x a k h = absurd (omega arith)
bit_reversed (suc n) x a k h =
    let y = a * 2 + x % 2 in
    ⊎_elim
    (λ same. let e : k ≡ n + 0 = omega arith in
    let f : 0 ≡ suc n - suc k = omega arith in
    ap (bit (reverse_bits_onto n (x / 2) y)) e ∙ bit_onto n (x / 2) y 0 ∙ low_bit (a * 2 + x % 2) x (omega arith) ∙ ap (bit x) f)
    (λ other. let l : k < n = omega arith in
    let f : suc (n - suc k) ≡ suc n - suc k = omega arith in
    bit_reversed n (x / 2) y k l ∙ sym (bit-next x (n - suc k)) ∙ ap (bit x) f)
    (cases_eq k n)

onto_below : (n x a : ℕ) → reverse_bits_onto n x a < (a + 1) * 2 ^ n
unfolding reverse_bits_onto
onto_below zero x a = omega arith
onto_below (suc n) x a =
    let l : a * 2 + x % 2 + 1 ≤ (a + 1) * 2 = omega arith in
    let m : (a * 2 + x % 2 + 1) * 2 ^ n ≤ (a + 1) * 2 * 2 ^ n = mul-le-mul_right (2 ^ n) l in
    let e : (a + 1) * 2 * 2 ^ n ≡ (a + 1) * 2 ^ suc n = mul_assoc (a + 1) 2 (2 ^ n) ∙ ap (λ p. (a + 1) * p) (sym (pow_more n)) in
    omega (arith, onto_below n (x / 2) (a * 2 + x % 2))

-- an octet is reversed to the number of a test
pub reversed_is : (x : ℕ) (f : ℕ → Bool) → ((k : ℕ) → k < 8 → bit x (7 - k) ≡ f k) → reverse_bits_onto 8 x 0 ≡ number_of f 8
reversed_is x f h =
    bits-same 8 (reverse_bits_onto 8 x 0) (number_of f 8) (omega (arith, onto_below 8 x 0)) (number-below f 8)
    (λ k l. bit_reversed 8 x 0 k l ∙ (let e : 8 - suc k ≡ 7 - k = omega arith in ap (bit x) e) ∙ h k l ∙ sym (bit-number f 8 k l))
