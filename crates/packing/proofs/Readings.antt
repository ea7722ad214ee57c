-- What reading gives.
use Rattle.std.proofs.Common.{◌≡◌, ℕ, zero, suc, ◌+◌, ◌-◌, ◌^◌, ◌<◌, ◌≤◌, Bool, true, false, not, eqb, if◌then◌else◌, ◌&&◌, ltb, ◌⊎◌, List, [], ◌∷◌, length, get_or, set, Some, None, Ok, Err, Option, sym, refl, ap, ◌∙◌, ap₂, subst, inl, inr, ⊎_elim, add-zero, add-one, add_assoc, arith}
use Rattle.std.specs.Bool.{MatchBool}
use Rattle.std.specs.List.{AllWithin, HoldsAt, list_all}
use Rattle.std.proofs.lemmas.List.Sums.{AllPass-from_list_all, list_all-from_AllPass}
use Rattle.std.proofs.lemmas.List.Folds.{list_all_at}
use Rattle.std.proofs.lemmas.List.{length-set, get_or-set_same, get_or-set_other}
use Rattle.std.proofs.lemmas.Bool.{cases_lt, cases_eq, eq-eqb, ne_eqb, eqb-true, eqb-false, lt-ltb, le-ltb, ltb-true, and_parts, and_from, and_left, and_right, and_cases, not-true, not-false, not_from_true, not_from_false, both_ways, cases_Bool, cond-true, cond-false}
use Rattle.bits.proofs.Lows.{Found, lowest-none, lowest-some, lowest_is_none, lowest_is_some}
use Rattle.faults.specs.declared.FormatFault.TheVariants.{NumberAfterNull}
use Rattle.packing.specs.declared.Range.{Range}
use Rattle.packing.specs.Ranges.{width_of, start_of}
use Rattle.packing.specs.Fields.{field, width, before, number_at}
use Rattle.packing.proofs.Widths.{before_more}
use Rattle.packing.proofs.Counts.{place-near, slots_small}
use Rattle.packing.specs.Reading.{Next, number_in, numbers_from, slots_in, is_null, first_null, later_one, after_null, read_to, unpacked, count_to, leading, filled, Unpacked}

pub number_is : (r : Range) (os : List ℕ) (i : ℕ) → number_in r os i ≡ field os (start_of r + before (width_of r) (i - 1)) (width (width_of r) i)
unfolding number_at
number_is r os i = refl

-- one step of a walk over the numbers: at is the place of W(i), and w its width
pub step-read : (r : Range) (os : List ℕ) (i at w v : ℕ) → at ≡ start_of r + before (width_of r) (i - 1) → w ≡ width (width_of r) i → v ≡ field os at w → v ≡ number_in r os i
step-read r os i at w v p q e = e ∙ ap₂ (field os) p q ∙ sym (number_is r os i)

pub step_on : (r : Range) (k at w : ℕ) → at ≡ start_of r + before (width_of r) k → w ≡ width (width_of r) (k + 1) → at + w ≡ start_of r + before (width_of r) (k + 1)
step_on r k at w p q = rw (p, q, add-one k, before_more (width_of r) k) (add_assoc (start_of r) (before (width_of r) k) (width (width_of r) (suc k)))

pub step-place : (r : Range) (i at w : ℕ) → 1 ≤ i → at ≡ start_of r + before (width_of r) (i - 1) → w ≡ width (width_of r) i → at + w ≡ start_of r + before (width_of r) (i + 1 - 1)
step-place r i at w h p q =
    let e : i ≡ i - 1 + 1 = omega arith in
    let t : i - 1 + 1 ≡ i + 1 - 1 = omega arith in
    step_on r (i - 1) at w p (q ∙ ap (width (width_of r)) e) ∙ ap (λ n. start_of r + before (width_of r) n) t

-- where a number is left, the place is small
pub next-near : (r : Range) (os : List ℕ) (i m at base : ℕ) → Next r os i m at base → 1 ≤ m → at < 2 ^ 16
next-near r os i m at base s h = omega (arith, s.place, place-near r (i - 1) (omega (arith, slots_small r (length os), s.room)))

-- the numbers from one on, as a list
pub numbers-none : (r : Range) (os : List ℕ) (i m : ℕ) → m ≡ 0 → numbers_from r os i m ≡ []
unfolding numbers_from
numbers-none r os i zero e = refl
numbers-none r os i (suc m) e = absurd (omega arith)

pub numbers-more : (r : Range) (os : List ℕ) (i m : ℕ) → 1 ≤ m → numbers_from r os i m ≡ number_in r os i ∷ numbers_from r os (i + 1) (m - 1)
unfolding numbers_from
numbers-more r os i zero h = absurd (omega arith)
numbers-more r os i (suc m) h = let e : m ≡ suc m - 1 = omega arith in ap (λ n. number_in r os i ∷ numbers_from r os (i + 1) n) e

pub length-numbers : (r : Range) (os : List ℕ) (i m : ℕ) → length (numbers_from r os i m) ≡ m
unfolding numbers_from
length-numbers r os i zero = refl
length-numbers r os i (suc m) = omega (arith, length-numbers r os (i + 1) m)

pub numbers_at : (r : Range) (os : List ℕ) (i m k : ℕ) → k < m → get_or (numbers_from r os i m) k 0 ≡ number_in r os (i + k)
unfolding numbers_from
numbers_at r os i zero k l = absurd (omega arith)
numbers_at r os i (suc m) zero l = ap (number_in r os) (sym (add-zero i))
numbers_at r os i (suc m) (suc k) l = let e : i + 1 + k ≡ i + suc k = omega arith in numbers_at r os (i + 1) m k (omega arith) ∙ ap (number_in r os) e

-- the first of them, and the others
pub record Front (r : Range) (os : List ℕ) (i m v : ℕ) (rest : List ℕ) : Type 0 where
  pub some : 1 ≤ m
  pub first : v ≡ number_in r os i
  pub others : rest ≡ numbers_from r os (i + 1) (m - 1)

pub front_is : (r : Range) (os : List ℕ) (i m v : ℕ) (rest : List ℕ) → numbers_from r os i m ≡ v ∷ rest → Front r os i m v rest
unfolding numbers_from
front_is r os i zero v rest e = absurd (cc)
front_is r os i (suc m) v rest e =
    let t : m ≡ suc m - 1 = omega arith in
    let f : v ≡ number_in r os i = cc in
    let o : rest ≡ numbers_from r os (i + 1) m = cc in
    record { some = omega arith; first = f; others = o ∙ ap (numbers_from r os (i + 1)) t }

pub none-left : (r : Range) (os : List ℕ) (i m : ℕ) → numbers_from r os i m ≡ [] → m ≡ 0
none-left r os i m e = sym (length-numbers r os i m) ∙ ap length e

-- whether all of some numbers are null
pub all-null : (b : Bool) (xs : List ℕ) → MatchBool b (AllWithin (λ w. w ≡ 0) xs 0 (length xs)) ((k : ℕ) × (k < length xs) × HoldsAt (λ w. w ≡ 0 → ⊥) xs k) → b ≡ list_all (λ w. eqb w 0) xs
all-null true xs h = sym (list_all-from_AllPass (λ w. eqb w 0) xs (λ k d l. eq-eqb (get_or xs k d) 0 (h k d (omega arith) l)))
all-null false xs h = sym (list_all_at (λ w. eqb w 0) xs h.0 0 h.1 (ne_eqb (get_or xs h.0 0) 0 (h.2 0)))

some-not : (p : ℕ → Bool) (xs : List ℕ) → list_all p xs ≡ false → (k : ℕ) × (k < length xs) × (p (get_or xs k 0) ≡ false)
some-not p [] e = absurd (both_ways true e refl)
some-not p (x ∷ xs) e =
    ⊎_elim (λ f. (0, omega arith, f)) (λ f. let t = some-not p xs f in (suc t.0, omega (arith, t.1), t.2)) (and_cases (p x) (list_all p xs) e)

-- a table with numbers put in
pub length-filled : (W : ℕ → ℕ) (n : ℕ) (xs : List ℕ) → length (filled W n xs) ≡ length xs
unfolding filled
length-filled W zero xs = refl
length-filled W (suc n) xs = length-set (filled W n xs) (suc n) (W (suc n)) ∙ length-filled W n xs

pub filled_in : (W : ℕ → ℕ) (n : ℕ) (xs : List ℕ) (i : ℕ) → 1 ≤ i → i ≤ n → n < length xs → get_or (filled W n xs) i 0 ≡ W i
unfolding filled
filled_in W zero xs i a b h = absurd (omega arith)
filled_in W (suc n) xs i a b h =
    ⊎_elim
    (λ same. ap (λ j. get_or (set (filled W n xs) (suc n) (W (suc n))) j 0) same ∙ get_or-set_same (filled W n xs) (suc n) (W (suc n)) 0 (omega (arith, length-filled W n xs)) ∙ ap W (sym same))
    (λ other. get_or-set_other (filled W n xs) (suc n) i (W (suc n)) 0 other ∙ filled_in W n xs i a (omega arith) (omega arith))
    (cases_eq i (suc n))

pub filled_out : (W : ℕ → ℕ) (n : ℕ) (xs : List ℕ) (i : ℕ) → (i ≡ 0) ⊎ (n < i) → get_or (filled W n xs) i 0 ≡ get_or xs i 0
unfolding filled
filled_out W zero xs i h = refl
filled_out W (suc n) xs i h =
    get_or-set_other (filled W n xs) (suc n) i (W (suc n)) 0 (λ e. ⊎_elim (λ z. omega arith) (λ l. omega arith) h)
    ∙ filled_out W n xs i (⊎_elim inl (λ l. inr (omega arith)) h)

pub filled_none : (W : ℕ → ℕ) (xs : List ℕ) → xs ≡ filled W 0 xs
unfolding filled
filled_none W xs = refl

-- one number more
pub filled_more : (W : ℕ → ℕ) (n v : ℕ) (xs ys : List ℕ) → ys ≡ filled W n xs → v ≡ W (n + 1) → set ys (n + 1) v ≡ filled W (n + 1) xs
unfolding filled
filled_more W n v xs ys e q =
    ap (λ us. set us (n + 1) v) e
    ∙ subst (λ k. set (filled W n xs) k v ≡ filled W k xs) (sym (add-one n)) (ap (λ x. set (filled W n xs) (suc n) x) (q ∙ ap W (add-one n)))

module _ (r : Range) (os : List ℕ) where
  null_is : (k : ℕ) → is_null r os k ≡ true → number_in r os (suc k) ≡ 0
  unfolding is_null
  null_is k e = eqb-true (number_in r os (suc k)) 0 e

  null-not : (k : ℕ) → is_null r os k ≡ false → number_in r os (suc k) ≡ 0 → ⊥
  unfolding is_null
  null-not k e = eqb-false (number_in r os (suc k)) 0 e

  is_null_lem : (k : ℕ) → number_in r os (suc k) ≡ 0 → is_null r os k ≡ true
  unfolding is_null
  is_null_lem k e = eq-eqb (number_in r os (suc k)) 0 e

  not_null : (k : ℕ) → (number_in r os (suc k) ≡ 0 → ⊥) → is_null r os k ≡ false
  unfolding is_null
  not_null k n = ne_eqb (number_in r os (suc k)) 0 n

  counted : (i : ℕ) → 1 ≤ i → suc (i - 1) ≡ i
  counted i h = omega arith

  at_index : (i : ℕ) → 1 ≤ i → number_in r os (suc (i - 1)) ≡ number_in r os i
  at_index i h = ap (number_in r os) (counted i h)

  -- the first null found, and not found
  pub first_is : (i : ℕ) → 1 ≤ i → i ≤ slots_in r os → number_in r os i ≡ 0 → ((j : ℕ) → 1 ≤ j → j < i → number_in r os j ≡ 0 → ⊥) → first_null r os ≡ Some (i - 1)
  first_is i a b z f =
      lowest_is_some (is_null r os) (slots_in r os) (i - 1) (omega arith) (is_null_lem (i - 1) (at_index i a ∙ z))
      (λ j l. not_null j (f (suc j) (omega arith) (omega arith)))

  pub first-none : ((j : ℕ) → 1 ≤ j → j ≤ slots_in r os → number_in r os j ≡ 0 → ⊥) → first_null r os ≡ None
  first-none f = lowest_is_none (is_null r os) (slots_in r os) (λ j l. not_null j (f (suc j) (omega arith) (omega arith)))

  -- none behind the null W(i), and some
  pub later-none : (i : ℕ) → 1 ≤ i → ((j : ℕ) → i < j → j ≤ slots_in r os → number_in r os j ≡ 0) → Ok (i - 1) ≡ after_null (i - 1) (later_one r os (i - 1))
  later-none i a f =
      ap (after_null (i - 1)) (sym (lowest_is_none (λ j. ltb (i - 1) j && not (is_null r os j)) (slots_in r os)
      (λ j l. ⊎_elim
      (λ less. and_right (ltb (i - 1) j) (not (is_null r os j)) (not_from_true (is_null r os j) (is_null_lem j (f (suc j) (omega arith) (omega arith)))))
      (λ more. and_left (ltb (i - 1) j) (not (is_null r os j)) (le-ltb (i - 1) j more))
      (cases_lt (i - 1) j))))

  pub later-some : (i j : ℕ) → 1 ≤ i → i < j → j ≤ slots_in r os → (number_in r os j ≡ 0 → ⊥) → Err (NumberAfterNull i) ≡ after_null (i - 1) (later_one r os (i - 1))
  later-some i j a b c f = go (later_one r os (i - 1)) refl
    where
      go : (o : Option ℕ) → later_one r os (i - 1) ≡ o → Err (NumberAfterNull i) ≡ after_null (i - 1) o
      go None e =
          let p = lowest-none (λ j. ltb (i - 1) j && not (is_null r os j)) (slots_in r os) e (j - 1) (omega arith) in
          absurd (both_ways (ltb (i - 1) (j - 1) && not (is_null r os (j - 1))) p
          (and_from (ltb (i - 1) (j - 1)) (not (is_null r os (j - 1))) (lt-ltb (i - 1) (j - 1) (omega arith)) (not_from_false (is_null r os (j - 1)) (not_null (j - 1) (λ z. f (sym (at_index j (omega arith)) ∙ z))))))
      go (Some k) e = ap (λ m. Err (NumberAfterNull m)) (sym (counted i a))

  -- n numbers stand before the first null: the answer by those behind it
  pub behind-null : (n m : ℕ) → n + 1 + m ≡ slots_in r os → (if list_all (λ w. eqb w 0) (numbers_from r os (n + 1 + 1) m) then Ok n else Err (NumberAfterNull (suc n))) ≡ after_null n (later_one r os n)
  behind-null n m e =
      let rest = numbers_from r os (n + 1 + 1) m in
      let t : n + 1 - 1 ≡ n = omega arith in
      ⊎_elim
      (λ yes. cond-true (list_all (λ w. eqb w 0) rest) (Ok n) (Err (NumberAfterNull (suc n))) yes
      ∙ subst (λ k. Ok k ≡ after_null k (later_one r os k)) t
      (later-none (n + 1) (omega arith)
      (λ j a b.
      let i : n + 1 + 1 + (j - (n + 1 + 1)) ≡ j = omega arith in
      ap (number_in r os) (sym i) ∙ sym (numbers_at r os (n + 1 + 1) m (j - (n + 1 + 1)) (omega arith))
      ∙ eqb-true (get_or rest (j - (n + 1 + 1)) 0) 0 (AllPass-from_list_all (λ w. eqb w 0) rest yes (j - (n + 1 + 1)) 0 (omega (arith, length-numbers r os (n + 1 + 1) m))))))
      (λ no. let x = some-not (λ w. eqb w 0) rest no in
      let below : x.0 < m = omega (arith, x.1, length-numbers r os (n + 1 + 1) m) in
      cond-false (list_all (λ w. eqb w 0) rest) (Ok n) (Err (NumberAfterNull (suc n))) no
      ∙ ap (λ k. Err (NumberAfterNull k)) (sym (add-one n))
      ∙ subst (λ k. Err (NumberAfterNull (n + 1)) ≡ after_null k (later_one r os k)) t
      (later-some (n + 1) (n + 1 + 1 + x.0) (omega arith) (omega arith) (omega arith)
      (λ z. eqb-false (get_or rest x.0 0) 0 x.2 (numbers_at r os (n + 1 + 1) m x.0 below ∙ z))))
      (cases_Bool (list_all (λ w. eqb w 0) rest))

  -- the answer by the first null
  pub unpacked-first : (k : ℕ) → first_null r os ≡ Some k → after_null k (later_one r os k) ≡ unpacked r os
  unfolding unpacked
  unpacked-first k e = ap (read_to r os) (sym e)

  pub unpacked-all : first_null r os ≡ None → Ok (slots_in r os) ≡ unpacked r os
  unfolding unpacked
  unpacked-all e = ap (read_to r os) (sym e)

  pub leading-first : (k : ℕ) → first_null r os ≡ Some k → k ≡ leading r os
  unfolding leading
  leading-first k e = ap (count_to (slots_in r os)) (sym e)

  pub leading-all : first_null r os ≡ None → slots_in r os ≡ leading r os
  unfolding leading
  leading-all e = ap (count_to (slots_in r os)) (sym e)

  pub leading_ok : (n : ℕ) → unpacked r os ≡ Ok n → leading r os ≡ n
  unfolding unpacked leading
  leading_ok n = by-null (first_null r os)
    where
      by_one : (k : ℕ) (o : Option ℕ) → after_null k o ≡ Ok n → k ≡ n
      by_one k None e = cc
      by_one k (Some j) e = let z : ◌≡◌ {A = ℕ} 0 1 = cc in absurd (omega arith)

      by-null : (o : Option ℕ) → read_to r os o ≡ Ok n → count_to (slots_in r os) o ≡ n
      by-null None e = cc
      by-null (Some k) e = by_one k (later_one r os k) e

  -- what the answer says
  module _ (table : List ℕ) where
    later-null : (k : ℕ) → later_one r os k ≡ None → is_null r os k ≡ true → (i : ℕ) → k < i → i ≤ slots_in r os → number_in r os i ≡ 0
    later-null k e z i a b =
        ⊎_elim
        (λ same. ap (number_in r os) same ∙ null_is k z)
        (λ other. sym (at_index i (omega arith)) ∙ null_is (i - 1)
        (⊎_elim
        (λ x. absurd (both_ways (ltb k (i - 1)) x (lt-ltb k (i - 1) (omega arith))))
        (not-false (is_null r os (i - 1)))
        (and_cases (ltb k (i - 1)) (not (is_null r os (i - 1))) (lowest-none (λ j. ltb k j && not (is_null r os j)) (slots_in r os) e (i - 1) (omega arith)))))
        (cases_eq i (suc k))

    by-later : (k : ℕ) → Found (is_null r os) (slots_in r os) k → ((i : ℕ) → 1 ≤ i → i ≤ k → get_or table i 0 ≡ number_in r os i)
        → (o : Option ℕ) → later_one r os k ≡ o → Unpacked r os table (after_null k o)
    by-later k f h None e =
        record {
          few = omega (arith, f.below);
          stands = h;
          some = λ i a b z. null-not (i - 1) (f.first (i - 1) (omega arith)) (at_index i a ∙ z);
          ends = λ i a b. later-null k e f.passes i a b;
        }
    by-later k f h (Some j) e =
        let g = lowest-some (λ j. ltb k j && not (is_null r os j)) (slots_in r os) j e in
        let p = and_parts (ltb k j) (not (is_null r os j)) g.passes in
        record {
          first = omega arith;
          null = null_is k f.passes;
          before = λ i a b z. null-not (i - 1) (f.first (i - 1) (omega arith)) (at_index i a ∙ z);
          later = (suc j, omega (arith, ltb-true k j p.0), omega (arith, g.below), null-not j (not-true (is_null r os j) p.1));
        }

    by_first : (o : Option ℕ) → first_null r os ≡ o → ((i : ℕ) → 1 ≤ i → i ≤ count_to (slots_in r os) o → get_or table i 0 ≡ number_in r os i) → Unpacked r os table (read_to r os o)
    by_first None e h =
        record {
          few = omega arith;
          stands = h;
          some = λ i a b z. null-not (i - 1) (lowest-none (is_null r os) (slots_in r os) e (i - 1) (omega arith)) (at_index i a ∙ z);
          ends = λ i a b. absurd (omega arith);
        }
    by_first (Some k) e h = by-later k (lowest-some (is_null r os) (slots_in r os) k e) h (later_one r os k) refl

    pub unpacked_means : ((i : ℕ) → 1 ≤ i → i ≤ leading r os → get_or table i 0 ≡ number_in r os i) → Unpacked r os table (unpacked r os)
    unfolding unpacked leading
    unpacked_means h = by_first (first_null r os) refl h

    -- and the table with it
    pub filled_means : (xs : List ℕ) (n : ℕ) → n ≡ leading r os → n < length xs → table ≡ filled (number_in r os) n xs → Unpacked r os table (unpacked r os)
    filled_means xs n e l q =
        unpacked_means (λ i a b. ap (λ t. get_or t i 0) q ∙ filled_in (number_in r os) n xs i a (omega arith) l)
