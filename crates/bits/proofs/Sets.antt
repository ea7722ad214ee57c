-- Laws of sets of numbers as lists of words.
use Rattle.std.proofs.Common.{◌≡◌, ℕ, zero, suc, ◌+◌, ◌-◌, ◌*◌, ◌/◌, ◌%◌, ◌^◌, ◌<◌, ◌≤◌, Bool, true, false, ◌&&◌, ◌||◌, cond, eqb, ltb, leb, List, ◌∷◌, length, get_or, set, take, drop, replicate, Some, None, sum_by, sym, refl, ap, ap₂, ◌∙◌, subst, ⊎_elim, arith}
use mathlib.Core.HLevel.{is_prop→PathP}
use native.Mathlib.Nat.{ℕ_set}
use native.Mathlib.Bridge.{le_prop}
use lib.Bits.{bit_or}
use lib.Count.{ones, count_trailing_zeros}
use Rattle.std.proofs.Math.Bool.{or-false}
use Rattle.std.proofs.lemmas.Bool.{cases_lt, cases_eq, cond-true, cond-false, lt-ltb, le-ltb, lt-leb, le-leb, eq-eqb, ne_eqb, and_left}
use Rattle.std.specs.Array.{IsFromFnResultFrom}
use Rattle.std.specs.Fn.{Called, Mut}
use Rattle.std.proofs.lemmas.List.{get_or-replicate, get_or-drop, length-drop, take_all}
use Rattle.std.proofs.lemmas.List.Sums.{sum_by_more}
use Rattle.bits.specs.Bits.{bit, bit_in, Fit, tally}
use Rattle.bits.specs.Lowest.{lowest}
use Rattle.bits.specs.Numbers.{has}
use Rattle.bits.specs.declared.Words.{Words}
use Rattle.bits.proofs.Digits.{bit-or, bit-zero, bit_skipped, ones_bit}
use Rattle.bits.proofs.Lows.{lowest_is_none}
use Rattle.bits.proofs.Lists.{in_at, in_split, in_past, in_set-same, in_set-other, low-here, same-words, tally-words}

pub in_all : (n c : ℕ) → c < 64 * n → bit_in (replicate n 18446744073709551615) c ≡ true
in_all n c h =
    in_split (replicate n 18446744073709551615) c
    ∙ ap (λ w. bit w (c % 64)) (get_or-replicate n (c / 64) 18446744073709551615 0 (omega arith)) ∙ ones_bit (c % 64) (omega arith)

-- the bits of v added to word i
pub in_added : (ws : List ℕ) (i v : ℕ) → i < length ws
    → (c : ℕ) → bit_in (set ws i (bit_or (get_or ws i 0) v)) c ≡ (bit_in ws c || (eqb (c / 64) i && bit v (c % 64)))
in_added ws i v l c =
    ⊎_elim
    (λ same.
    in_set-same ws i (bit_or (get_or ws i 0) v) c l same ∙ bit-or (get_or ws i 0) v (c % 64)
    ∙ ap₂ (λ x y. x || (y && bit v (c % 64))) (ap (λ j. bit (get_or ws j 0) (c % 64)) (sym same) ∙ sym (in_split ws c)) (sym (eq-eqb (c / 64) i same)))
    (λ other.
    in_set-other ws i (bit_or (get_or ws i 0) v) c other
    ∙ sym (ap (λ x. bit_in ws c || x) (and_left (eqb (c / 64) i) (bit v (c % 64)) (ne_eqb (c / 64) i other)) ∙ or-false (bit_in ws c)))
    (cases_eq (c / 64) i)

-- the words of two sets, each joined with the other's
pub in_united : (xs ys zs : List ℕ) (n : ℕ) → length xs ≡ n → length ys ≡ n → length zs ≡ n
    → ((i : ℕ) → i < n → get_or zs i 0 ≡ bit_or (get_or xs i 0) (get_or ys i 0)) → (c : ℕ) → bit_in zs c ≡ (bit_in xs c || bit_in ys c)
in_united xs ys zs n p q r h c =
    ⊎_elim
    (λ l.
    in_split zs c ∙ ap (λ w. bit w (c % 64)) (h (c / 64) l) ∙ bit-or (get_or xs (c / 64) 0) (get_or ys (c / 64) 0) (c % 64)
    ∙ sym (ap₂ (λ x y. x || y) (in_split xs c) (in_split ys c)))
    (λ l. in_past zs c (omega arith) ∙ sym (ap₂ (λ x y. x || y) (in_past xs c (omega arith)) (in_past ys c (omega arith))))
    (cases_lt (c / 64) n)

-- what `from_fn` makes of a closure that stays as it was
pub made_at : {F : Type 0} {g : Mut F (ℕ × Unit {0}) ℕ} {f : F} (ys : List ℕ) (n a : ℕ) → IsFromFnResultFrom g f ys a n → (P : ℕ → ℕ → Type 0)
    → ((i y : ℕ) (q : F) → Called g f (i, tt) y q → P i y × (q ≡ f)) → (i : ℕ) → a ≤ i → i < a + n → P i (get_or ys i 0)
made_at ys zero a e P each i l h = absurd (omega arith)
made_at {F} {g} {f} ys (suc n) a (q, y, at, called, rest) P each i l h =
    let s = each a y q called in
    ⊎_elim
    (λ same. subst (λ j. P j (get_or ys j 0)) (sym same) (subst (P a) (sym (at.1 0)) s.0))
    (λ other. made_at ys n (a + 1) (subst (λ r. IsFromFnResultFrom g r ys (a + 1) n) s.1 rest) P each i (omega arith) (omega arith))
    (cases_eq i a)

-- the 64 numbers from one on
pub window_low : (ws : List ℕ) (from k : ℕ) → from % 64 ≡ 0 → k < 64 → bit (get_or ws (from / 64) 0) k ≡ bit_in ws (from + k)
window_low ws from k z l = let e : 64 * (from / 64) + k ≡ from + k = omega arith in sym (in_at ws (from / 64) k l) ∙ ap (bit_in ws) e

pub window_high : (ws : List ℕ) (from k : ℕ) → (from % 64 ≡ 0 → ⊥) → k < 64
    → cond (ltb k (64 - from % 64)) (bit (get_or ws (from / 64) 0) (k + 64 - (64 - from % 64))) (bit (get_or ws (from / 64 + 1) 0) (k - (64 - from % 64))) ≡ bit_in ws (from + k)
window_high ws from k n l =
    let r = 64 - from % 64 in
    ⊎_elim
    (λ h. let e : 64 * (from / 64) + (k + 64 - (64 - from % 64)) ≡ from + k = omega arith in
    cond-true (ltb k r) _ _ (lt-ltb k r h) ∙ sym (in_at ws (from / 64) (k + 64 - r) (omega arith)) ∙ ap (bit_in ws) e)
    (λ h. let e : 64 * (from / 64 + 1) + (k - (64 - from % 64)) ≡ from + k = omega arith in
    cond-false (ltb k r) _ _ (le-ltb k r h) ∙ sym (in_at ws (from / 64 + 1) (k - r) (omega arith)) ∙ ap (bit_in ws) e)
    (cases_lt k r)

-- how many
pub ones-front : (ws : List ℕ) (i : ℕ) → Fit ws → i ≤ length ws → tally (bit_in ws) (64 * i) ≡ sum_by ones (take i ws)
unfolding tally
ones-front ws zero f l = refl
ones-front ws (suc i) f l =
    let e : suc i ≡ i + 1 = omega arith in
    ap (λ j. tally (bit_in ws) (64 * j)) e ∙ tally-words ws i f ∙ ap (λ m. m + ones (get_or ws i 0)) (ones-front ws i f (omega arith))
    ∙ sym (sum_by_more ones ws i 0 l) ∙ ap (λ j. sum_by ones (take j ws)) (sym e)

pub ones-words : (ws : List ℕ) (n : ℕ) → Fit ws → length ws ≡ n → sum_by ones ws ≡ tally (bit_in ws) (64 * n)
ones-words ws n f l = ap (sum_by ones) (sym (take_all n ws (omega arith))) ∙ sym (ones-front ws n f (omega arith))

-- what stands at the front of the rest of a list
pub front_at : (xs : List ℕ) (k x : ℕ) (ys : List ℕ) → drop k xs ≡ x ∷ ys → (k < length xs) × (get_or xs k 0 ≡ x)
front_at xs k x ys e =
    let more : length (drop k xs) ≡ length (x ∷ ys) = ap length e in
    let here : k + 0 ≡ k = omega arith in
    (omega (arith, length-drop k xs), ap (λ j. get_or xs j 0) (sym here) ∙ sym (get_or-drop k xs 0 0) ∙ ap (λ l. get_or l 0 0) e)

-- the words behind the first k, as a slice
pub rest_is : (ws : List ℕ) (k : ℕ) → take (length ws - k) (drop k ws) ≡ drop k ws
rest_is ws k = take_all (length ws - k) (drop k ws) (omega (arith, length-drop k ws))

pub rest_at : (ws : List ℕ) (k i : ℕ) → get_or (take (length ws - k) (drop k ws)) i 0 ≡ get_or ws (k + i) 0
rest_at ws k i = ap (λ l. get_or l i 0) (rest_is ws k) ∙ get_or-drop k ws i 0

pub length-rest : (ws : List ℕ) (k : ℕ) → length (take (length ws - k) (drop k ws)) ≡ length ws - k
length-rest ws k = ap length (rest_is ws k) ∙ length-drop k ws

pub past_end : (xs : List ℕ) (k : ℕ) → length (drop k xs) ≡ 0 → length xs ≤ k
past_end xs k e = omega (arith, length-drop k xs)

-- the lowest in n words: R i w says that w may be word i, and p tells its bits
module _ (p : ℕ → Bool) (n : ℕ) (R : ℕ → ℕ → Type 0) (tells : (i w b : ℕ) → i < n → b < 64 → R i w → p (64 * i + b) ≡ bit w b) where
  none_before : (i : ℕ) → i ≤ n → ((j : ℕ) → j < i → R j 0) → (k : ℕ) → k < 64 * i → p k ≡ false
  none_before i l z k h =
      let e : 64 * (k / 64) + k % 64 ≡ k = omega arith in
      ap p (sym e) ∙ tells (k / 64) 0 (k % 64) (omega arith) (omega arith) (z (k / 64) (omega arith)) ∙ bit-zero (k % 64)

  pub lowest-word : (i w : ℕ) → i < n → ((j : ℕ) → j < i → R j 0) → R i w → w < 2 ^ 64 → (w ≡ 0 → ⊥) → lowest p (64 * n) ≡ Some (64 * i + count_trailing_zeros 64 w)
  lowest-word i w l z r f nz = low-here p (64 * n) (64 * i) w f nz (omega arith) (none_before i (omega arith) z) (λ b m. tells i w b l m r)

  pub no_word : ((j : ℕ) → j < n → R j 0) → lowest p (64 * n) ≡ None
  no_word z = lowest_is_none p (64 * n) (none_before n (omega arith) z)

-- a word whose low bits, those below `from`, are taken away
pub from-first : (ws : List ℕ) (from b : ℕ) → b < 64
    → (leb from (64 * (from / 64) + b) && bit_in ws (64 * (from / 64) + b)) ≡ bit ((get_or ws (from / 64) 0 / 2 ^ (from % 64) * 2 ^ (from % 64)) % 2 ^ 64) b
from-first ws from b l =
    let i = from / 64 in
    let r = from % 64 in
    let w = get_or ws i 0 in
    ⊎_elim
    (λ h. and_left (leb from (64 * i + b)) (bit_in ws (64 * i + b)) (lt-leb from (64 * (from / 64) + b) (omega arith)) ∙ sym (cond-true (ltb b r) false (bit w b) (lt-ltb b r h)))
    (λ h. ap (λ x. x && bit_in ws (64 * i + b)) (le-leb from (64 * (from / 64) + b) (omega arith)) ∙ in_at ws i b l ∙ sym (cond-false (ltb b r) false (bit w b) (le-ltb b r h)))
    (cases_lt b r)
    ∙ sym (bit_skipped w r b (omega arith) l)

pub from_word : (ws : List ℕ) (from i b : ℕ) → from ≤ 64 * i → b < 64 → (leb from (64 * i + b) && bit_in ws (64 * i + b)) ≡ bit (get_or ws i 0) b
from_word ws from i b h l = ap (λ x. x && bit_in ws (64 * i + b)) (le-leb from (64 * i + b) (omega arith)) ∙ in_at ws i b l

pub none_below : (ws : List ℕ) (from k : ℕ) → k < from → (leb from k && bit_in ws k) ≡ false
none_below ws from k h = and_left (leb from k) (bit_in ws k) (lt-leb from k h)

-- sets of the same words are equal
fit_prop : (ws : List ℕ) (p q : Fit ws) → p ≡ q
fit_prop ws p q = λ i k. le_prop (p k) (q k) i

pub same_numbers : {n : ℕ} (s t : Words n) → s.words ≡ t.words → s ≡ t
same_numbers {n} s t e = λ i. record {
  words = e i;
  whole = is_prop→PathP (λ j. length (e j) ≡ n) (λ j. ℕ_set (length (e j)) n) s.whole t.whole i;
  fits = is_prop→PathP (λ j. Fit (e j)) (λ j. fit_prop (e j)) s.fits t.fits i;
}

-- and so are sets that hold the same
pub same_held : {n : ℕ} (s t : Words n) → ((c : ℕ) → c < 64 * n → has s c ≡ has t c) → s ≡ t
same_held {n} s t h = same_numbers s t (same-words s.words t.words n s.whole t.whole s.fits t.fits h)
