-- Laws of the fields of octets.
use Rattle.std.proofs.Common.{◌≡◌, ℕ, zero, suc, ◌+◌, ◌-◌, ◌*◌, ◌/◌, ◌%◌, ◌^◌, ◌<◌, ◌≤◌, Bool, true, false, eqb, List, get_or, sym, refl, ap, ◌∙◌, subst, ap₂, add-suc, zero-add, add-zero, mul_left_comm, lit<, w64, arith}
use Rattle.std.specs.Int.{from_be_bytes}
use Rattle.std.proofs.lemmas.Nat.{shr_below, shr_high, mod_below}
use Rattle.bits.specs.Bits.{bit}
use Rattle.bits.proofs.Digits.{digit, pow_more, bit-next, bit_shr, bit_mod, bit_shl_high, bits-same}
use Rattle.packing.specs.Fields.{Octets, bit_at, field}

-- the bits of one octet
pub at_octet : (os : List ℕ) (k y : ℕ) → y < 8 → bit_at os (8 * k + y) ≡ bit (get_or os k 0) (7 - y)
unfolding bit_at
at_octet os k y h =
    let q : (8 * k + y) / 8 ≡ k = omega arith in
    let r : (8 * k + y) % 8 ≡ y = omega arith in
    ap₂ (λ i j. bit (get_or os i 0) (7 - j)) q r

pub at_split : (os : List ℕ) (p : ℕ) → bit_at os p ≡ bit (get_or os (p / 8) 0) (7 - p % 8)
unfolding bit_at
at_split os p = refl

digit_le : (b : Bool) → digit b ≤ 1
digit_le true = omega arith
digit_le false = omega arith

pub field-none-wide : (os : List ℕ) (p : ℕ) → field os p 0 ≡ 0
unfolding field
field-none-wide os p = refl

field_more : (os : List ℕ) (p w : ℕ) → field os p (suc w) ≡ 2 * field os p w + digit (bit_at os (p + w))
unfolding field
field_more os p w = refl

pub field_below : (os : List ℕ) (p w : ℕ) → field os p w < 2 ^ w
field_below os p zero = omega (arith, field-none-wide os p)
field_below os p (suc w) = omega (arith, field_more os p w, digit_le (bit_at os (p + w)), pow_more w, field_below os p w)

low_of : (b : Bool) (r : ℕ) → bit (2 * r + digit b) 0 ≡ b
unfolding bit
low_of true r = let e : (2 * r + 1) / 1 % 2 ≡ 1 = omega arith in ap (λ y. eqb y 1) e
low_of false r = let e : (2 * r + 0) / 1 % 2 ≡ 0 = omega arith in ap (λ y. eqb y 1) e

-- bit k of a field stands k positions before its end
pub bit-field : (os : List ℕ) (p w k : ℕ) → k < w → bit (field os p w) k ≡ bit_at os (p + (w - suc k))
bit-field os p zero k h = absurd (omega arith)
bit-field os p (suc w) zero h =
    let e : w ≡ suc w - 1 = omega arith in
    ap (λ x. bit x 0) (field_more os p w) ∙ low_of (bit_at os (p + w)) (field os p w) ∙ ap (λ j. bit_at os (p + j)) e
bit-field os p (suc w) (suc k) h =
    let e : (2 * field os p w + digit (bit_at os (p + w))) / 2 ≡ field os p w = omega (arith, digit_le (bit_at os (p + w))) in
    let f : w - suc k ≡ suc w - suc (suc k) = omega arith in
    ap (λ x. bit x (suc k)) (field_more os p w) ∙ bit-next (2 * field os p w + digit (bit_at os (p + w))) k ∙ ap (λ x. bit x k) e
    ∙ bit-field os p w k (omega arith) ∙ ap (λ j. bit_at os (p + j)) f

-- the number with these bits
pub field_is : (os : List ℕ) (p w v : ℕ) → v < 2 ^ w → ((k : ℕ) → k < w → bit v k ≡ bit_at os (p + (w - suc k))) → v ≡ field os p w
field_is os p w v h f = bits-same w v (field os p w) h (field_below os p w) (λ k l. f k l ∙ sym (bit-field os p w k l))

pub field-same : (os us : List ℕ) (p w : ℕ) → ((x : ℕ) → p ≤ x → x < p + w → bit_at os x ≡ bit_at us x) → field os p w ≡ field us p w
field-same os us p zero h = field-none-wide os p ∙ sym (field-none-wide us p)
field-same os us p (suc w) h =
    field_more os p w
    ∙ ap₂ (λ x b. 2 * x + digit b) (field-same os us p w (λ x l m. h x l (omega arith))) (h (p + w) (omega arith) (omega arith))
    ∙ sym (field_more us p w)

pub field-null : (os : List ℕ) (p w : ℕ) → ((x : ℕ) → p ≤ x → x < p + w → bit_at os x ≡ false) → field os p w ≡ 0
field-null os p zero h = field-none-wide os p
field-null os p (suc w) h =
    let e : digit (bit_at os (p + w)) ≡ 0 = ap digit (h (p + w) (omega arith) (omega arith)) in
    omega (arith, field_more os p w, field-null os p w (λ x l m. h x l (omega arith)))

-- one bit
pub field-one : (os : List ℕ) (p : ℕ) → eqb (field os p 1) 1 ≡ bit_at os p
field-one os p =
    let e : p + 0 ≡ p = omega arith in
    let f : field os p 1 ≡ digit (bit_at os p) = omega (arith, field_more os p 0, field-none-wide os p, ap (λ x. digit (bit_at os x)) e) in
    ap (λ v. eqb v 1) f ∙ test (bit_at os p)
  where
    test : (b : Bool) → eqb (digit b) 1 ≡ b
    test true = refl
    test false = refl

-- a field of two parts
pub field_split : (os : List ℕ) (p a b : ℕ) → field os p (a + b) ≡ field os p a * 2 ^ b + field os (p + a) b
field_split os p a zero = let e : a + 0 ≡ a = omega arith in ap (field os p) e ∙ omega (arith, field-none-wide os (p + a))
field_split os p a (suc b) =
    let e : p + (a + b) ≡ p + a + b = omega arith in
    let d : digit (bit_at os (p + (a + b))) ≡ digit (bit_at os (p + a + b)) = ap (λ x. digit (bit_at os x)) e in
    ap (field os p) (add-suc a b) ∙ field_more os p (a + b)
    ∙ omega (arith, field_split os p a b, field_more os (p + a) b, ap (λ z. field os p a * z) (pow_more b) ∙ mul_left_comm (field os p a) 2 (2 ^ b))

-- an octet is a field
pub field_octet : (os : List ℕ) (k : ℕ) → get_or os k 0 < 256 → field os (8 * k) 8 ≡ get_or os k 0
field_octet os k h =
    sym (field_is os (8 * k) 8 (get_or os k 0) h
    (λ j l. let e : j ≡ 7 - (8 - suc j) = omega arith in ap (bit (get_or os k 0)) e ∙ sym (at_octet os k (8 - suc j) (omega arith))))

-- the top bits of the first octet
pub first_octet_lem : (os : List ℕ) (w : ℕ) → w ≤ 8 → get_or os 0 0 < 256 → get_or os 0 0 / 2 ^ (8 - w) ≡ field os 0 w
first_octet_lem os w h l =
    let e : w + (8 - w) ≡ 8 = omega arith in
    let o : get_or os 0 0 ≡ field os 0 w * 2 ^ (8 - w) + field os w (8 - w) = sym (field_octet os 0 l) ∙ ap (field os 0) (sym e) ∙ field_split os 0 w (8 - w) ∙ ap (λ p. field os 0 w * 2 ^ (8 - w) + field os p (8 - w)) (zero-add w) in
    ap (λ v. v / 2 ^ (8 - w)) o ∙ shr_high (field os 0 w) (8 - w) (field os w (8 - w)) (field_below os w (8 - w))

-- one octet more
field-octets : (os : List ℕ) (k n : ℕ) → get_or os (k + n) 0 < 256 → field os (8 * k) (8 * n + 8) ≡ field os (8 * k) (8 * n) * 256 + get_or os (k + n) 0
field-octets os k n h =
    let e : 8 * k + 8 * n ≡ 8 * (k + n) = omega arith in
    omega (arith, field_split os (8 * k) (8 * n) 8, ap (λ p. field os p 8) e ∙ field_octet os (k + n) h)

-- eight octets
pub field_eight : (os : List ℕ) (k a b c d e f g h : ℕ)
    → a ≡ get_or os k 0 → b ≡ get_or os (k + 1) 0 → c ≡ get_or os (k + 2) 0 → d ≡ get_or os (k + 3) 0 → e ≡ get_or os (k + 4) 0 → f ≡ get_or os (k + 5) 0 → g ≡ get_or os (k + 6) 0 → h ≡ get_or os (k + 7) 0
    → a < 256 → b < 256 → c < 256 → d < 256 → e < 256 → f < 256 → g < 256 → h < 256
    → a * 72057594037927936 + b * 281474976710656 + c * 1099511627776 + d * 4294967296 + e * 16777216 + f * 65536 + g * 256 + h ≡ field os (8 * k) 64
field_eight os k a b c d e f g h pa pb pc pd pe pf pg ph ba bb bc bd be bf bg bh =
    let q0 : field os (8 * k) 8 ≡ a = field_octet os k (omega arith) ∙ sym pa in
    let q1 : field os (8 * k) 16 ≡ field os (8 * k) 8 * 256 + b = field-octets os k 1 (omega arith) ∙ ap (λ o. field os (8 * k) 8 * 256 + o) (sym pb) in
    let q2 : field os (8 * k) 24 ≡ field os (8 * k) 16 * 256 + c = field-octets os k 2 (omega arith) ∙ ap (λ o. field os (8 * k) 16 * 256 + o) (sym pc) in
    let q3 : field os (8 * k) 32 ≡ field os (8 * k) 24 * 256 + d = field-octets os k 3 (omega arith) ∙ ap (λ o. field os (8 * k) 24 * 256 + o) (sym pd) in
    let q4 : field os (8 * k) 40 ≡ field os (8 * k) 32 * 256 + e = field-octets os k 4 (omega arith) ∙ ap (λ o. field os (8 * k) 32 * 256 + o) (sym pe) in
    let q5 : field os (8 * k) 48 ≡ field os (8 * k) 40 * 256 + f = field-octets os k 5 (omega arith) ∙ ap (λ o. field os (8 * k) 40 * 256 + o) (sym pf) in
    let q6 : field os (8 * k) 56 ≡ field os (8 * k) 48 * 256 + g = field-octets os k 6 (omega arith) ∙ ap (λ o. field os (8 * k) 48 * 256 + o) (sym pg) in
    let q7 : field os (8 * k) 64 ≡ field os (8 * k) 56 * 256 + h = field-octets os k 7 (omega arith) ∙ ap (λ o. field os (8 * k) 56 * 256 + o) (sym ph) in
    omega arith

-- eight octets as one number
pub word_is : (os bs : List ℕ) (k : ℕ) → ((j : ℕ) → j < 8 → get_or bs j 0 ≡ get_or os (k + j) 0) → Octets os → from_be_bytes w64 bs ≡ field os (8 * k) 64
word_is os bs k same low =
    field_eight os k (get_or bs 0 0) (get_or bs 1 0) (get_or bs 2 0) (get_or bs 3 0) (get_or bs 4 0) (get_or bs 5 0) (get_or bs 6 0) (get_or bs 7 0)
    (same 0 (lit< tt) ∙ ap (λ i. get_or os i 0) (add-zero k)) (same 1 (lit< tt)) (same 2 (lit< tt)) (same 3 (lit< tt)) (same 4 (lit< tt)) (same 5 (lit< tt)) (same 6 (lit< tt)) (same 7 (lit< tt))
    (below 0 (lit< tt)) (below 1 (lit< tt)) (below 2 (lit< tt)) (below 3 (lit< tt)) (below 4 (lit< tt)) (below 5 (lit< tt)) (below 6 (lit< tt)) (below 7 (lit< tt))
  where
    below : (j : ℕ) → j < 8 → get_or bs j 0 < 256
    below j l = omega (arith, same j l, low (k + j))

-- a field within a window of 64 bits
pub field_in : (os : List ℕ) (base p w v : ℕ) → v ≡ field os base 64 → base ≤ p → p + w ≤ base + 64
    → (v * 2 ^ (p - base)) % 2 ^ 64 / 2 ^ (64 - w) ≡ field os p w
field_in os base p w v e a h =
    let o = p - base in
    field_is os p w ((v * 2 ^ o) % 2 ^ 64 / 2 ^ (64 - w))
    (let m : (v * 2 ^ o) % 2 ^ 64 < 2 ^ (w + (64 - w)) = let z : w + (64 - w) ≡ 64 = omega arith in subst (λ j. (v * 2 ^ o) % 2 ^ 64 < 2 ^ j) (sym z) (mod_below (v * 2 ^ o) (2 ^ 64) (omega arith)) in
    shr_below ((v * 2 ^ o) % 2 ^ 64) w (64 - w) m)
    (λ k l.
    let i : base + (64 - suc (64 - w + k - o)) ≡ p + (w - suc k) = omega arith in
    bit_shr ((v * 2 ^ o) % 2 ^ 64) (64 - w) k
    ∙ bit_mod (v * 2 ^ o) 64 (64 - w + k) (omega arith)
    ∙ bit_shl_high v o (64 - w + k) (omega arith)
    ∙ ap (λ x. bit x (64 - w + k - o)) e
    ∙ bit-field os base 64 (64 - w + k - o) (omega arith)
    ∙ ap (bit_at os) i)
