-- Laws of lists of words.
use Rattle.std.proofs.Common.{◌≡◌, ℕ, ◌+◌, ◌-◌, ◌*◌, ◌/◌, ◌%◌, ◌^◌, ◌<◌, ◌≤◌, Bool, false, cond, eqb, List, length, get_or, set, replicate, Some, sym, refl, ap, ◌∙◌, subst, ap₂, ⊎_elim, arith}
use lib.Count.{ones, count_trailing_zeros}
use Rattle.std.proofs.lemmas.List.FromFn.{length-map-range_with_len, get_or-map-range_with_len}
use Rattle.std.proofs.lemmas.List.{get_or-set_same, get_or-set_other, get_or_past, get_or-replicate, length-replicate, ext_get_or, length-set}
use Rattle.std.proofs.lemmas.Bool.{eq-eqb, ne_eqb, cases_lt, cases_eq, cond-true, cond-false}
use Rattle.bits.specs.Bits.{bit, bit_in, Fit, number_of, words_of, tally}
use Rattle.bits.specs.Lowest.{lowest}
use Rattle.bits.proofs.Lows.{lowest_is_some}
use Rattle.bits.proofs.Digits.{bit-zero, bits-same, number-below, bit-number, trailing_low, tally_add, tally-same, ones-tally}

pub in_at : (ws : List ℕ) (i b : ℕ) → b < 64 → bit_in ws (64 * i + b) ≡ bit (get_or ws i 0) b
unfolding bit_in
in_at ws i b h =
    let p : (64 * i + b) / 64 ≡ i = omega arith in
    let q : (64 * i + b) % 64 ≡ b = omega arith in
    ap₂ (λ j k. bit (get_or ws j 0) k) p q

pub in_split : (ws : List ℕ) (c : ℕ) → bit_in ws c ≡ bit (get_or ws (c / 64) 0) (c % 64)
unfolding bit_in
in_split ws c = refl

pub in_past : (ws : List ℕ) (c : ℕ) → 64 * length ws ≤ c → bit_in ws c ≡ false
unfolding bit_in
in_past ws c h = ap (λ w. bit w (c % 64)) (get_or_past ws (c / 64) 0 (omega arith)) ∙ bit-zero (c % 64)

pub fit-set : (ws : List ℕ) (j v : ℕ) → v < 2 ^ 64 → Fit ws → Fit (set ws j v)
fit-set ws j v l h i =
    ⊎_elim
    (λ same. ⊎_elim (λ in'. let e : get_or (set ws j v) i 0 ≡ v = ap (λ k. get_or (set ws j v) k 0) same ∙ get_or-set_same ws j v 0 in' in omega arith)
    (λ out'. let e : get_or (set ws j v) i 0 ≡ 0 = get_or_past (set ws j v) i 0 (omega (arith, length-set ws j v)) in omega arith) (cases_lt j (length ws)))
    (λ other. let e : get_or (set ws j v) i 0 ≡ get_or ws i 0 = get_or-set_other ws j i v 0 other in omega (arith, h i))
    (cases_eq i j)

-- a word written
pub in_set-same : (ws : List ℕ) (i v c : ℕ) → i < length ws → c / 64 ≡ i → bit_in (set ws i v) c ≡ bit v (c % 64)
unfolding bit_in
in_set-same ws i v c l e = ap (λ j. bit (get_or (set ws i v) j 0) (c % 64)) e ∙ ap (λ w. bit w (c % 64)) (get_or-set_same ws i v 0 l)

pub in_set-other : (ws : List ℕ) (i v c : ℕ) → (c / 64 ≡ i → ⊥) → bit_in (set ws i v) c ≡ bit_in ws c
unfolding bit_in
in_set-other ws i v c n = ap (λ w. bit w (c % 64)) (get_or-set_other ws i (c / 64) v 0 n)

none-at : (n i : ℕ) → ◌≡◌ {A = ℕ} (get_or (replicate n 0) i 0) 0
none-at n i = ⊎_elim (λ l. get_or-replicate n i 0 0 l) (λ l. get_or_past (replicate n 0) i 0 (omega (arith, length-replicate {A = ℕ} n 0))) (cases_lt i n)

pub in_none : (n c : ℕ) → bit_in (replicate n 0) c ≡ false
unfolding bit_in
in_none n c = ap (λ w. bit w (c % 64)) (none-at n (c / 64)) ∙ bit-zero (c % 64)

-- the words of a test
pub length-words : (f : ℕ → Bool) (n : ℕ) → length (words_of f n) ≡ n
unfolding words_of
length-words f n = length-map-range_with_len (λ i. number_of (λ b. f (64 * i + b)) 64) 0 n

at_words : (f : ℕ → Bool) (n i : ℕ) → i < n → get_or (words_of f n) i 0 ≡ number_of (λ b. f (64 * i + b)) 64
unfolding words_of
at_words f n i h = get_or-map-range_with_len (λ i. number_of (λ b. f (64 * i + b)) 64) 0 n i i 0 h (omega arith)

pub fit_words : (f : ℕ → Bool) (n : ℕ) → Fit (words_of f n)
fit_words f n i =
    ⊎_elim (λ l. subst (λ w. w < 2 ^ 64) (sym (at_words f n i l)) (number-below (λ b. f (64 * i + b)) 64))
    (λ l. let e : get_or (words_of f n) i 0 ≡ 0 = get_or_past (words_of f n) i 0 (omega (arith, length-words f n)) in omega arith)
    (cases_lt i n)

pub in_words : (f : ℕ → Bool) (n c : ℕ) → c < 64 * n → bit_in (words_of f n) c ≡ f c
in_words f n c h =
    let i = c / 64 in
    let b = c % 64 in
    let e : 64 * (c / 64) + c % 64 ≡ c = omega arith in
    let l : i < n = omega arith in
    let m : b < 64 = omega arith in
    in_split (words_of f n) c ∙ ap (λ w. bit w b) (at_words f n i l) ∙ bit-number (λ b. f (64 * i + b)) 64 b m ∙ ap f e

-- lists of words with the same bits are equal
pub same-words : (xs ys : List ℕ) (n : ℕ) → length xs ≡ n → length ys ≡ n → Fit xs → Fit ys → ((c : ℕ) → c < 64 * n → bit_in xs c ≡ bit_in ys c) → xs ≡ ys
same-words xs ys n p q fx fy h =
    ext_get_or 0 xs ys (p ∙ sym q)
    (λ i l. bits-same 64 (get_or xs i 0) (get_or ys i 0) (fx i) (fy i)
    (λ b m. sym (in_at xs i b m) ∙ h (64 * i + b) (omega arith) ∙ in_at ys i b m))

-- how many
pub tally-words : (ws : List ℕ) (i : ℕ) → Fit ws → tally (bit_in ws) (64 * (i + 1)) ≡ tally (bit_in ws) (64 * i) + ones (get_or ws i 0)
tally-words ws i h =
    let e : 64 * (i + 1) ≡ 64 * i + 64 = omega arith in
    ap (tally (bit_in ws)) e ∙ tally_add (bit_in ws) (64 * i) 64
    ∙ ap (λ m. tally (bit_in ws) (64 * i) + m) (tally-same (λ b. bit_in ws (64 * i + b)) (bit (get_or ws i 0)) 64 (λ b l. in_at ws i b l) ∙ sym (ones-tally 64 (get_or ws i 0) (h i)))

-- the lowest: w holds what passes in the 64 numbers from base on
pub low-here : (p : ℕ → Bool) (n base w : ℕ) → w < 2 ^ 64 → (w ≡ 0 → ⊥) → base + 64 ≤ n
    → ((k : ℕ) → k < base → p k ≡ false) → ((b : ℕ) → b < 64 → p (base + b) ≡ bit w b)
    → lowest p n ≡ Some (base + count_trailing_zeros 64 w)
low-here p n base w f nz l below here =
    let r = trailing_low 64 w f nz in
    let t = count_trailing_zeros 64 w in
    let tb : t < 64 = r.below in
    lowest_is_some p n (base + t) (omega arith) (here t tb ∙ r.set)
    (λ j m. ⊎_elim (λ a. below j a) (λ a. let e : base + (j - base) ≡ j = omega arith in ap p (sym e) ∙ here (j - base) (omega arith) ∙ r.first (j - base) (omega arith)) (cases_lt j base))

-- and none
pub none_here : (p : ℕ → Bool) (base w : ℕ) → w ≡ 0
    → ((k : ℕ) → k < base → p k ≡ false) → ((b : ℕ) → b < 64 → p (base + b) ≡ bit w b)
    → (k : ℕ) → k < base + 64 → p k ≡ false
none_here p base w z below here k h =
    ⊎_elim (λ a. below k a) (λ a. let e : base + (k - base) ≡ k = omega arith in ap p (sym e) ∙ here (k - base) (omega arith) ∙ ap (λ x. bit x (k - base)) z ∙ bit-zero (k - base)) (cases_lt k base)

-- one bit put to x, in a word that has it so
pub in_put : (ws : List ℕ) (c v : ℕ) (x : Bool) → c / 64 < length ws
    → ((b : ℕ) → b < 64 → bit v b ≡ cond (eqb b (c % 64)) x (bit (get_or ws (c / 64) 0) b))
    → (k : ℕ) → bit_in (set ws (c / 64) v) k ≡ cond (eqb k c) x (bit_in ws k)
in_put ws c v x l h k =
    ⊎_elim
    (λ same.
    in_set-same ws (c / 64) v k l same ∙ h (k % 64) (omega arith)
    ∙ ⊎_elim
    (λ e. let d : k % 64 ≡ c % 64 = ap (λ m. m % 64) e in cond-true (eqb (k % 64) (c % 64)) x (bit (get_or ws (c / 64) 0) (k % 64)) (eq-eqb (k % 64) (c % 64) d) ∙ sym (cond-true (eqb k c) x (bit_in ws k) (eq-eqb k c e)))
    (λ n. let d : k % 64 ≡ c % 64 → ⊥ = λ q. n (omega arith) in
    cond-false (eqb (k % 64) (c % 64)) x (bit (get_or ws (c / 64) 0) (k % 64)) (ne_eqb (k % 64) (c % 64) d) ∙ ap (λ j. bit (get_or ws j 0) (k % 64)) (sym same) ∙ sym (in_split ws k) ∙ sym (cond-false (eqb k c) x (bit_in ws k) (ne_eqb k c n)))
    (cases_eq k c))
    (λ other. in_set-other ws (c / 64) v k other ∙ sym (cond-false (eqb k c) x (bit_in ws k) (ne_eqb k c (λ e. other (ap (λ m. m / 64) e)))))
    (cases_eq (k / 64) (c / 64))
