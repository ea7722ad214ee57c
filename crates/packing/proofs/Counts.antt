-- The slot counts: what the greatest is, and a table of them checked whole by one test.
use Rattle.std.proofs.Common.{◌≡◌, ℕ, zero, suc, ◌+◌, ◌-◌, ◌*◌, ◌^◌, ◌<◌, ◌≤◌, true, ◌&&◌, ◌||◌, eqb, ltb, leb, ◌⊎◌, List, [], ◌∷◌, length, get_or, sym, refl, ap, ◌∙◌, subst, inl, inr, ⊎_elim, add-zero, arith}
use Rattle.std.proofs.lemmas.Nat.{pow_pos}
use Rattle.std.proofs.lemmas.Bool.{cases_lt, cases_eq, le-leb, lt-leb, leb-true, ltb-true, eqb-true, cond-true, cond-false, and_parts, or_cases}
use Rattle.packing.specs.declared.Range.{Range}
use Rattle.packing.specs.declared.Range.TheVariants.{R1024, R512, R256, R128}
use Rattle.packing.specs.Ranges.{width_of, start_of, least_of, longest, HasLength}
use Rattle.packing.specs.Fields.{level, width, before}
use Rattle.packing.specs.Slots.{Slots, greatest, slots_of, is_count, are_counts, row_counts}
use Rattle.packing.proofs.Widths.{before-none, before_mono, before_le}

module _ (K start len : ℕ) where
  hit : (n : ℕ) → start + before K (suc n) ≤ 8 * len → greatest K start len (suc n) ≡ suc n
  unfolding greatest
  hit n h = cond-true (leb (start + before K (suc n)) (8 * len)) (suc n) (greatest K start len n) (le-leb (start + before K (suc n)) (8 * len) h)

  miss : (n : ℕ) → 8 * len < start + before K (suc n) → greatest K start len (suc n) ≡ greatest K start len n
  unfolding greatest
  miss n h = cond-false (leb (start + before K (suc n)) (8 * len)) (suc n) (greatest K start len n) (lt-leb (start + before K (suc n)) (8 * len) h)

  none : greatest K start len 0 ≡ 0
  unfolding greatest
  none = refl

  -- it is at most the limit, fits unless it is 0, and no other up to the limit that fits is greater
  pub greatest_le : (t : ℕ) → greatest K start len t ≤ t
  greatest_le zero = omega (arith, none)
  greatest_le (suc t) =
      ⊎_elim (λ less. omega (arith, miss t less, greatest_le t)) (λ more. omega (arith, hit t more))
      (cases_lt (8 * len) (start + before K (suc t)))

  pub greatest-fits : (t : ℕ) → start ≤ 8 * len → start + before K (greatest K start len t) ≤ 8 * len
  greatest-fits zero h = let e : before K (greatest K start len 0) ≡ before K 0 = ap (before K) none in omega (arith, before-none K)
  greatest-fits (suc t) h =
      ⊎_elim (λ less. subst (λ m. start + before K m ≤ 8 * len) (sym (miss t less)) (greatest-fits t h)) (λ more. subst (λ m. start + before K m ≤ 8 * len) (sym (hit t more)) more)
      (cases_lt (8 * len) (start + before K (suc t)))

  pub greatest-most : (t m : ℕ) → m ≤ t → start + before K m ≤ 8 * len → m ≤ greatest K start len t
  greatest-most zero m h f = omega (arith, none)
  greatest-most (suc t) m h f =
      ⊎_elim
      (λ less. ⊎_elim
      (λ same. let e = ap (before K) same in absurd (omega arith))
      (λ other. omega (arith, miss t less, greatest-most t m (omega arith) f))
      (cases_eq m (suc t)))
      (λ more. omega (arith, hit t more))
      (cases_lt (8 * len) (start + before K (suc t)))

  -- n is the greatest if it fits or is 0, and the next does not fit or is past the limit
  pub greatest_is : (t n : ℕ) → n ≤ t → (n ≡ 0) ⊎ (start + before K n ≤ 8 * len) → (n ≡ t) ⊎ (8 * len < start + before K (suc n)) → n ≡ greatest K start len t
  greatest_is zero n h f g = omega (arith, none)
  greatest_is (suc t) n h f g =
      ⊎_elim
      (λ same. ⊎_elim (λ z. absurd (omega arith)) (λ l. let e : start + before K (suc t) ≤ 8 * len = subst (λ m. start + before K m ≤ 8 * len) same l in same ∙ sym (hit t e)) f)
      (λ other. ⊎_elim (λ z. absurd (other z))
      (λ l. let m : 8 * len < start + before K (suc t) = omega (arith, before_mono K (suc n) (suc t) (omega arith)) in
      greatest_is t n (omega arith) f (inr l) ∙ sym (miss t m)) g)
      (cases_eq n (suc t))

-- where the numbers can begin, the slot count is the greatest that fits
pub greatest-slots : (K start len : ℕ) → start ≤ 8 * len → Slots K start len (greatest K start len (2 ^ K - 1))
greatest-slots K start len h =
    record {
      fits = record { few = greatest_le K start len (2 ^ K - 1); whole = greatest-fits K start len (2 ^ K - 1) h };
      most = λ m f. greatest-most K start len (2 ^ K - 1) m f.few f.whole;
    }

pub slots-inside : (r : Range) (len : ℕ) → len ≤ longest → slots_of r len ≡ greatest (width_of r) (start_of r) len (2 ^ width_of r - 1)
unfolding slots_of
slots-inside r len h = cond-true (leb len longest) (greatest (width_of r) (start_of r) len (2 ^ width_of r - 1)) 0 (le-leb len longest h)

pub slots-past : (r : Range) (len : ℕ) → longest < len → slots_of r len ≡ 0
unfolding slots_of
slots-past r len h = cond-false (leb len longest) (greatest (width_of r) (start_of r) len (2 ^ width_of r - 1)) 0 (lt-leb len longest h)

start_fits : (r : Range) (len : ℕ) → least_of r ≤ len → start_of r ≤ 8 * len
start_fits R1024 len h = omega arith
start_fits R512 len h = omega arith
start_fits R256 len h = omega arith
start_fits R128 len h = omega arith

pub slots_are : (r : Range) (len : ℕ) → HasLength r len → Slots (width_of r) (start_of r) len (slots_of r len)
slots_are r len h =
    subst (λ n. Slots (width_of r) (start_of r) len n) (sym (slots-inside r len h.most)) (greatest-slots (width_of r) (start_of r) len (start_fits r len h.least))

count_is : (K start len n : ℕ) → is_count K start len n ≡ true → n ≡ greatest K start len (2 ^ K - 1)
count_is K start len n e =
    let x = leb n (2 ^ K - 1) in
    let y = eqb n 0 || leb (start + before K n) (8 * len) in
    let z = eqb n (2 ^ K - 1) || ltb (8 * len) (start + before K (suc n)) in
    let p = and_parts x (y && z) e in
    let q = and_parts y z p.1 in
    greatest_is K start len (2 ^ K - 1) n (leb-true n (2 ^ K - 1) p.0)
    (⊎_elim (λ a. inl (eqb-true n 0 a)) (λ b. inr (leb-true (start + before K n) (8 * len) b)) (or_cases (eqb n 0) (leb (start + before K n) (8 * len)) q.0))
    (⊎_elim (λ a. inl (eqb-true n (2 ^ K - 1) a)) (λ b. inr (ltb-true (8 * len) (start + before K (suc n)) b)) (or_cases (eqb n (2 ^ K - 1)) (ltb (8 * len) (start + before K (suc n))) q.1))

row_at : (K start a : ℕ) (ns : List ℕ) → are_counts K start a ns ≡ true → (k : ℕ) → k < length ns → is_count K start (a + k) (get_or ns k 0) ≡ true
row_at K start a [] e k h = absurd (omega arith)
row_at K start a (n ∷ ns) e zero h =
    let p = and_parts (is_count K start a n) (are_counts K start (suc a) ns) e in
    rw add-zero p.0
row_at K start a (n ∷ ns) e (suc k) h =
    let p = and_parts (is_count K start a n) (are_counts K start (suc a) ns) e in
    let s : suc a + k ≡ a + suc k = omega arith in
    subst (λ l. is_count K start l (get_or ns k 0) ≡ true) s (row_at K start (suc a) ns p.1 k (omega arith))

pub counts-long : (r : Range) (ns : List ℕ) → row_counts r ns ≡ true → length ns ≡ longest
counts-long r ns h = eqb-true (length ns) longest (and_parts (eqb (length ns) longest) (are_counts (width_of r) (start_of r) 1 ns) h).0

pub count_at : (r : Range) (ns : List ℕ) → row_counts r ns ≡ true → (len : ℕ) → 1 ≤ len → len ≤ longest → get_or ns (len - 1) 0 ≡ slots_of r len
count_at r ns h len l m =
    let g = and_parts (eqb (length ns) longest) (are_counts (width_of r) (start_of r) 1 ns) h in
    let s : 1 + (len - 1) ≡ len = omega arith in
    let long = counts-long r ns h in
    count_is (width_of r) (start_of r) len (get_or ns (len - 1) 0)
    (subst (λ i. is_count (width_of r) (start_of r) i (get_or ns (len - 1) 0) ≡ true) s (row_at (width_of r) (start_of r) 1 ns g.1 (len - 1) (omega arith)))
    ∙ sym (slots-inside r len m)

-- no length has fewer than no octets
pub slots-none : (r : Range) → slots_of r 0 ≡ 0
slots-none r = slots-inside r 0 (omega arith) ∙ sym (greatest_is (width_of r) (start_of r) 0 (2 ^ width_of r - 1) 0 (omega arith) (inl refl) (inr (some r)))
  where
    some : (r : Range) → 8 * 0 < start_of r + before (width_of r) 1
    some R1024 = omega arith
    some R512 = omega arith
    some R256 = omega arith
    some R128 = omega arith

pub width_narrow : (r : Range) → width_of r ≤ 10
width_narrow R1024 = omega arith
width_narrow R512 = omega arith
width_narrow R256 = omega arith
width_narrow R128 = omega arith

pub start-near : (r : Range) → start_of r ≤ 17
start-near R1024 = omega arith
start-near R512 = omega arith
start-near R256 = omega arith
start-near R128 = omega arith

-- the tree of a range has so many numbers
pub slots-few : (r : Range) (len : ℕ) → slots_of r len < 2 ^ width_of r
slots-few r len =
    let p = pow_pos (width_of r) in
    ⊎_elim (λ past. omega (arith, slots-past r len past)) (λ inside. omega (arith, slots-inside r len inside, greatest_le (width_of r) (start_of r) len (2 ^ width_of r - 1)))
    (cases_lt longest len)

-- the bits of 512 numbers of the widest range
wide-tree : before 10 512 ≡ 1525
unfolding before width level
wide-tree = refl

pub slots_small : (r : Range) (len : ℕ) → slots_of r len < 512
slots_small R1024 len =
    ⊎_elim (λ past. omega (arith, slots-past R1024 len past))
    (λ inside. ⊎_elim (λ none. let e : len ≡ 0 = omega arith in omega (arith, ap (slots_of R1024) e ∙ slots-none R1024))
    (λ some. let s = slots_are R1024 len (record { least = some; most = inside }) in
    ⊎_elim (λ l. l) (λ m. absurd (omega (arith, before_mono 10 512 (slots_of R1024 len) m, wide-tree, s.fits.whole))) (cases_lt (slots_of R1024 len) 512))
    (cases_lt len 1))
    (cases_lt longest len)
slots_small R512 len = slots-few R512 len
slots_small R256 len = omega (arith, slots-few R256 len)
slots_small R128 len = omega (arith, slots-few R128 len)

-- positions are small
pub place-near : (r : Range) (n : ℕ) → n < 512 → start_of r + before (width_of r) n < 2 ^ 16
place-near r n h = omega (arith, start-near r, before_le (width_of r) n (width_narrow r))

-- what is known of a slot count
module _ (r : Range) (len n : ℕ) (e : n ≡ slots_of r len) where
  pub slots-greatest : HasLength r len → Slots (width_of r) (start_of r) len n
  slots-greatest h = subst (λ m. Slots (width_of r) (start_of r) len m) (sym e) (slots_are r len h)

  pub slots-within : n < 2 ^ width_of r
  slots-within = omega (arith, slots-few r len)

  pub slots-below : n < 512
  slots-below = omega (arith, slots_small r len)
