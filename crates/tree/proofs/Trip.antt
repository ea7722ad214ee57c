-- The round trip: what is written of a set is read as that set.
use Rattle.std.proofs.Common.{◌≡◌, ℕ, zero, suc, ◌+◌, ◌-◌, ◌*◌, ◌/◌, ◌%◌, ◌^◌, ◌<◌, ◌≤◌, Bool, true, false, T, sym, refl, ap, ◌∙◌, subst, ap₂, inl, inr, arith, eqb→eq, pow_pos, eq-eqb, ne_eqb}
use native.Mathlib.Nat.{two-pow-succ}
use lib.Ieee.Fits.{and_i, and_l, and_r}
use borrow.Author.Tests.{lt-leb}
use Rattle.std.proofs.lemmas.Bool.{and_left}
use Rattle.tree.specs.Smod.{smod}
use Rattle.tree.specs.Written.{full, bit, tally, round, pivots, pivot, right, left, place, written}
use Rattle.tree.specs.Laws.{PivotStands}
use Rattle.tree.proofs.Circle.{smod-at, smod-over, bit_is, le_or}
use Rattle.tree.proofs.Circle.{tally-at, tally_split, tally_more, tally_shift, tally-has, first_finds, first-none, whole, pivot-is}

-- The number that stands at the place i of the tree W of width w, from the root down
abbrev pub member : ℕ → (ℕ → ℕ) → ℕ → ℕ
member zero W i = W 1
member (suc v) W i =
    let l = member v (λ j. W (2 * j)) (i / 2) in
    let r = member v (λ j. W (2 * j + 1)) (i / 2) in
    place i (W 1) (smod (W 1 + full v + l) (full (suc v))) (smod (W 1 + r) (full (suc v)))

-- The round trip, with the members read from the root down
pub record Kept (w : ℕ) (S : ℕ → Bool) : Type 0 where
  -- as many numbers are written as S has members, and no more
  pub there : (i : ℕ) → 1 ≤ i → i ≤ tally S 1 (full w) → 1 ≤ written w S i
  pub null : (i : ℕ) → tally S 1 (full w) < i → written w S i ≡ 0
  -- on the level l they have w - l bits
  pub fits : (l i : ℕ) → 2 ^ l ≤ i → written w S i < 2 ^ (w - l)
  -- each is read as a member, and each member is read
  pub reads : (i : ℕ) → 1 ≤ i → i ≤ tally S 1 (full w) → T (S (member w (written w S) i))
  pub finds :
      (q : ℕ) → 1 ≤ q → q ≤ full w → T (S q) →
      (i : ℕ) × (1 ≤ i) × (i ≤ tally S 1 (full w)) × (member w (written w S) i ≡ q)

-- Places

pub data Place (i : ℕ) : Type 0 where
  at-root : i ≡ 1 → Place i
  at_left : (j : ℕ) → 1 ≤ j → i ≡ 2 * j → Place i
  at_right : (j : ℕ) → 1 ≤ j → i ≡ 2 * j + 1 → Place i

pub placed : (i : ℕ) → 1 ≤ i → Place i
placed i h = elim (le_or i 1) [
  | inl y ↦ at-root (omega arith)
  | inr y ↦ elim (le_or (i % 2) 0) [
    | inl z ↦ at_left (i / 2) (omega arith) (omega arith)
    | inr z ↦ at_right (i / 2) (omega arith) (omega arith)
  ]
]

module _ (a b c : ℕ) where
  place-left : (j : ℕ) → 1 ≤ j → place (2 * j) a b c ≡ b
  place-left j h = rw (lt-leb (2 * j) 1 (omega arith), eq-eqb ((2 * j) % 2) 0 (omega arith)) refl

  place-right : (j : ℕ) → 1 ≤ j → place (2 * j + 1) a b c ≡ c
  place-right j h = rw (lt-leb (2 * j + 1) 1 (omega arith), ne_eqb ((2 * j + 1) % 2) 0 (omega arith)) refl

half-left : (j : ℕ) → 2 * j / 2 ≡ j
half-left j = omega arith

half-right : (j : ℕ) → (2 * j + 1) / 2 ≡ j
half-right j = omega arith

module _ (v : ℕ) (S : ℕ → Bool) where
  pub written-left : (j : ℕ) → 1 ≤ j → written (suc v) S (2 * j) ≡ written v (left (full v) S (pivot (full v) S)) j
  written-left j h =
      place-left (pivot (full v) S) (written v (left (full v) S (pivot (full v) S)) (2 * j / 2)) (written v (right (full v) S (pivot (full v) S)) (2 * j / 2)) j h
      ∙ ap (written v (left (full v) S (pivot (full v) S))) (half-left j)

  pub written-right : (j : ℕ) → 1 ≤ j → written (suc v) S (2 * j + 1) ≡ written v (right (full v) S (pivot (full v) S)) j
  written-right j h =
      place-right (pivot (full v) S) (written v (left (full v) S (pivot (full v) S)) ((2 * j + 1) / 2)) (written v (right (full v) S (pivot (full v) S)) ((2 * j + 1) / 2)) j h
      ∙ ap (written v (right (full v) S (pivot (full v) S))) (half-right j)

module _ (v : ℕ) (W : ℕ → ℕ) where
  pub member-left : (j : ℕ) → 1 ≤ j → member (suc v) W (2 * j) ≡ smod (W 1 + full v + member v (λ k. W (2 * k)) j) (full (suc v))
  member-left j h = place-left _ _ _ j h ∙ ap (λ x. smod (W 1 + full v + member v (λ k. W (2 * k)) x) (full (suc v))) (half-left j)

  pub member_right : (j : ℕ) → 1 ≤ j → member (suc v) W (2 * j + 1) ≡ smod (W 1 + member v (λ k. W (2 * k + 1)) j) (full (suc v))
  member_right j h = place-right _ _ _ j h ∙ ap (λ x. smod (W 1 + member v (λ k. W (2 * k + 1)) x) (full (suc v))) (half-right j)

-- only the places from 1 on are looked at
member-same : (w : ℕ) (V W : ℕ → ℕ) → ((j : ℕ) → 1 ≤ j → V j ≡ W j) → (i : ℕ) → 1 ≤ i → member w V i ≡ member w W i
member-same zero V W e i h = e 1 (omega arith)
member-same (suc v) V W e i h = elim (placed i h) [
  | at-root y ↦ rw y (e 1 (omega arith))
  | at_left j l y ↦
      ap (member (suc v) V) y ∙ (member-left v V j l
      ∙ (ap₂ (λ a b. smod (a + full v + b) (full (suc v))) (e 1 (omega arith)) (member-same v (λ k. V (2 * k)) (λ k. W (2 * k)) (λ k q. e (2 * k) (omega arith)) j l)
      ∙ (sym (member-left v W j l) ∙ ap (member (suc v) W) (sym y))))
  | at_right j l y ↦
      ap (member (suc v) V) y ∙ (member_right v V j l
      ∙ (ap₂ (λ a b. smod (a + b) (full (suc v))) (e 1 (omega arith)) (member-same v (λ k. V (2 * k + 1)) (λ k. W (2 * k + 1)) (λ k q. e (2 * k + 1) (omega arith)) j l)
      ∙ (sym (member_right v W j l) ∙ ap (member (suc v) W) (sym y))))
]

-- what is written, read again, part by part
module _ (v : ℕ) (S : ℕ → Bool) where
  read_left : (j : ℕ) → 1 ≤ j →
      member (suc v) (written (suc v) S) (2 * j) ≡ smod (pivot (full v) S + full v + member v (written v (left (full v) S (pivot (full v) S))) j) (full (suc v))
  read_left j h =
      member-left v (written (suc v) S) j h
      ∙ ap (λ x. smod (pivot (full v) S + full v + x) (full (suc v))) (member-same v (λ k. written (suc v) S (2 * k)) (written v (left (full v) S (pivot (full v) S))) (written-left v S) j h)

  read_right : (j : ℕ) → 1 ≤ j →
      member (suc v) (written (suc v) S) (2 * j + 1) ≡ smod (pivot (full v) S + member v (written v (right (full v) S (pivot (full v) S))) j) (full (suc v))
  read_right j h =
      member_right v (written (suc v) S) j h
      ∙ ap (λ x. smod (pivot (full v) S + x) (full (suc v))) (member-same v (λ k. written (suc v) S (2 * k + 1)) (written v (right (full v) S (pivot (full v) S))) (written-right v S) j h)

-- The pivot

pub pivot-stands : PivotStands
pivot-stands h S some =
    let r = tally-has S 1 (suc (h + h)) some in
    pivot-is h S ((tally S 1 (suc (h + h)) - 1) / 2) r.0 r.1 (omega (arith, r.2)) r.3 (omega arith) (omega arith)

pub record Chosen (h : ℕ) (S : ℕ → Bool) (p : ℕ) : Type 0 where
  pub low : 1 ≤ p
  pub high : p ≤ suc (h + h)
  pub holds : T (S p)
  pub after : tally (round (suc (h + h)) S) (suc p) (h) ≡ (tally S 1 (suc (h + h)) - 1) / 2

chosen : (h : ℕ) (S : ℕ → Bool) → 1 ≤ tally S 1 (suc (h + h)) → Chosen h S (pivot h S)
chosen h S some =
    let r = pivot-stands h S some in
    let m : ℕ = suc (h + h) in
    let k : ℕ = (tally S 1 m - 1) / 2 in
    let t : T (pivots h S r.0) = and_i (S r.0) _ r.3 (subst T (sym (eq-eqb _ _ r.4)) tt) in
    let f = first_finds (pivots h S) 1 m r.0 r.1 (omega (arith, r.2)) t in
    record {
      low = f.0;
      high = omega (arith, f.1);
      holds = and_l (S (pivot h S)) _ f.2;
      after = eqb→eq _ _ (and_r (S (pivot h S)) _ f.2);
    }

-- no member: no pivot
bit-none : (b : Bool) → bit b ≡ 0 → b ≡ false
bit-none true e = absurd (omega arith)
bit-none false e = refl

none_here : (S : ℕ → Bool) (a n t : ℕ) → tally S a n ≡ 0 → a ≤ t → t < a + n → S t ≡ false
none_here S a zero t e l h = absurd (omega arith)
none_here S a (suc n) t e l h = elim (le_or t a) [
  | inl y ↦ ap S (let z : t ≡ a = omega arith in z) ∙ bit-none (S a) (omega arith)
  | inr y ↦ none_here S (suc a) n t (omega arith) y (omega arith)
]

pivot-none : (h : ℕ) (S : ℕ → Bool) → tally S 1 (suc (h + h)) ≡ 0 → pivot h S ≡ 0
pivot-none h S e = first-none (pivots h S) 1 (suc (h + h)) (λ t l u. and_left (S t) _ (none_here S 1 (suc (h + h)) t e l u))

-- how many the two parts have
module _ (h : ℕ) (S : ℕ → Bool) (p : ℕ) where
  right-count : tally (right h S p) 1 (h) ≡ tally (round (suc (h + h)) S) (suc p) (h)
  right-count =
      let f : ℕ → Bool = round (suc (h + h)) S in
      tally_shift f p 1 (h) ∙ tally-at f (p + 1) (suc p) (h) (h) (omega arith) refl

  left-count : tally (left h S p) 1 (h) ≡ tally (round (suc (h + h)) S) (suc p + h) (h)
  left-count =
      let f : ℕ → Bool = round (suc (h + h)) S in
      tally_shift f (p + h) 1 (h) ∙ tally-at f (p + h + 1) (suc p + h) (h) (h) (omega arith) refl

  -- the right part, the left one and p are the whole circle
  sides : tally (right h S p) 1 (h) + tally (left h S p) 1 (h) + bit (S (smod (p + suc (h + h)) (suc (h + h)))) ≡ tally S 1 (suc (h + h))
  sides =
      let f : ℕ → Bool = round (suc (h + h)) S in
      let m : ℕ = suc (h + h) in
      let last : bit (f (suc p + (h + h))) ≡ bit (f (p + m)) = ap (λ x. bit (f x)) (let z : suc p + (h + h) ≡ p + m = omega arith in z) in
      omega (arith, right-count, left-count, whole m S p, tally_more f (suc p) (h + h), tally_split f (suc p) h h, last)

counts :
    (h : ℕ) (S : ℕ → Bool) →
    (tally (right h S (pivot h S)) 1 (h) ≡ (tally S 1 (suc (h + h)) - 1) / 2)
    × (tally (left h S (pivot h S)) 1 (h) ≡ tally S 1 (suc (h + h)) / 2)
counts h S = elim (le_or 1 (tally S 1 (suc (h + h)))) [
  | inl y ↦
      let c = chosen h S y in
      let p : ℕ = pivot h S in
      let m : ℕ = suc (h + h) in
      let one : bit (S (smod (p + m) m)) ≡ 1 = ap (λ x. bit (S x)) (smod-over (p + m) p m refl c.low c.high) ∙ bit_is (S p) c.holds in
      let r : tally (right h S p) 1 (h) ≡ (tally S 1 m - 1) / 2 = right-count h S p ∙ c.after in
      let s = sides h S p in
      (r, omega arith)
  | inr y ↦
      let s = sides h S (pivot h S) in
      (omega arith, omega arith)
]

pub full_pow : (w : ℕ) → suc (full w) ≡ 2 ^ w
full_pow zero = refl
full_pow (suc v) = omega (arith, full_pow v, two-pow-succ v)

tally-pos : (S : ℕ → Bool) (a n t : ℕ) → a ≤ t → t < a + n → T (S t) → 1 ≤ tally S a n
tally-pos S a zero t l h s = absurd (omega arith)
tally-pos S a (suc n) t l h s = elim (le_or t a) [
  | inl y ↦ omega (arith, ap (λ x. bit (S x)) (let z : t ≡ a = omega arith in z), bit_is (S t) s)
  | inr y ↦ omega (arith, tally-pos S (suc a) n t y (omega arith) s)
]

module _ (v : ℕ) (S : ℕ → Bool) (R : Kept v (right (full v) S (pivot (full v) S))) (L : Kept v (left (full v) S (pivot (full v) S))) where
  there' : (i : ℕ) → 1 ≤ i → i ≤ tally S 1 (full (suc v)) → 1 ≤ written (suc v) S i
  there' i l h = elim (placed i l) [
    | at-root y ↦ rw y (chosen (full v) S (omega arith)).low
    | at_left j g y ↦ rw (y, written-left v S j g) (L.there j g (omega (arith, (counts (full v) S).1)))
    | at_right j g y ↦ rw (y, written-right v S j g) (R.there j g (omega (arith, (counts (full v) S).0)))
  ]

  null' : (i : ℕ) → tally S 1 (full (suc v)) < i → written (suc v) S i ≡ 0
  null' i h = elim (placed i (omega arith)) [
    | at-root y ↦ rw y (pivot-none (full v) S (omega arith))
    | at_left j g y ↦ rw (y, written-left v S j g) (L.null j (omega (arith, (counts (full v) S).1)))
    | at_right j g y ↦ rw (y, written-right v S j g) (R.null j (omega (arith, (counts (full v) S).0)))
  ]

  reads' : (i : ℕ) → 1 ≤ i → i ≤ tally S 1 (full (suc v)) → T (S (member (suc v) (written (suc v) S) i))
  reads' i l h =
      let M : ℕ → ℕ = member (suc v) (written (suc v) S) in
      elim (placed i l) [
        | at-root y ↦ subst (λ x. T (S (M x))) (sym y) (chosen (full v) S (omega arith)).holds
        | at_left j g y ↦ subst (λ x. T (S x)) (sym (ap M y ∙ read_left v S j g)) (L.reads j g (omega (arith, (counts (full v) S).1)))
        | at_right j g y ↦ subst (λ x. T (S x)) (sym (ap M y ∙ read_right v S j g)) (R.reads j g (omega (arith, (counts (full v) S).0)))
      ]

  pivot-high : pivot (full v) S ≤ full (suc v)
  pivot-high = elim (le_or 1 (tally S 1 (full (suc v)))) [
    | inl y ↦ (chosen (full v) S y).high
    | inr y ↦ omega (arith, pivot-none (full v) S (omega arith))
  ]

  fits' : (l i : ℕ) → 2 ^ l ≤ i → written (suc v) S i < 2 ^ (suc v - l)
  fits' zero i h =
      let big : 2 ^ (suc v - 0) ≡ 2 ^ v + 2 ^ v = ap (λ x. 2 ^ x) (let z : suc v - 0 ≡ suc v = omega arith in z) ∙ two-pow-succ v in
      let same : 2 ^ (v - 0) ≡ 2 ^ v = ap (λ x. 2 ^ x) (let z : v - 0 ≡ v = omega arith in z) in
      elim (placed i h) [
        | at-root y ↦ omega (arith, pivot-high, full_pow v, ap (written (suc v) S) y)
        | at_left j g y ↦ omega (arith, L.fits 0 j g, ap (written (suc v) S) y ∙ written-left v S j g)
        | at_right j g y ↦ omega (arith, R.fits 0 j g, ap (written (suc v) S) y ∙ written-right v S j g)
      ]
  fits' (suc l) i h =
      let two = two-pow-succ l in
      let pos = pow_pos l in
      let same : 2 ^ (suc v - suc l) ≡ 2 ^ (v - l) = ap (λ x. 2 ^ x) (let z : suc v - suc l ≡ v - l = omega arith in z) in
      elim (placed i (omega arith)) [
        | at-root y ↦ absurd (omega arith)
        | at_left j g y ↦ omega (arith, L.fits l j (omega arith), ap (written (suc v) S) y ∙ written-left v S j g)
        | at_right j g y ↦ omega (arith, R.fits l j (omega arith), ap (written (suc v) S) y ∙ written-right v S j g)
      ]

  Found : ℕ → Type 0
  Found q = (i : ℕ) × (1 ≤ i) × (i ≤ tally S 1 (full (suc v))) × (member (suc v) (written (suc v) S) i ≡ q)

  -- q stands d after the pivot, on the right or on the left
  far : (q d : ℕ) → T (S q) → 1 ≤ d → d ≤ full v + full v → smod (pivot (full v) S + d) (full (suc v)) ≡ q → Found q
  unfolding Found
  far q d t l u e = elim (le_or d (full v)) [
    | inl y ↦
        let r = R.finds d l y (subst (λ x. T (S x)) (sym e) t) in (
          2 * r.0 + 1,
          omega arith,
          omega (arith, r.2, (counts (full v) S).0),
          read_right v S r.0 r.1 ∙ (ap (λ x. smod (pivot (full v) S + x) (full (suc v))) r.3 ∙ e),
        )
    | inr y ↦
        let s : smod (pivot (full v) S + full v + (d - full v)) (full (suc v)) ≡ q =
        ap (λ x. smod x (full (suc v))) (let z : pivot (full v) S + full v + (d - full v) ≡ pivot (full v) S + d = omega arith in z) ∙ e in
        let r = L.finds (d - full v) (omega arith) (omega arith) (subst (λ x. T (S x)) (sym s) t) in (
          2 * r.0,
          omega (arith, r.1),
          omega (arith, r.2, (counts (full v) S).1),
          read_left v S r.0 r.1 ∙ (ap (λ x. smod (pivot (full v) S + full v + x) (full (suc v))) r.3 ∙ s),
        )
  ]

  finds' : (q : ℕ) → 1 ≤ q → q ≤ full (suc v) → T (S q) → 1 ≤ tally S 1 (full (suc v)) → Found q
  unfolding Found
  finds' q l h t some =
      let p : ℕ = pivot (full v) S in
      let m : ℕ = full (suc v) in
      let c = chosen (full v) S some in
      let low : 1 ≤ p = c.low in
      let high : p ≤ m = c.high in
      elim (le_or q p) [
        | inl y ↦ elim (le_or p q) [
          | inl z ↦ (1, omega arith, some, (let e : p ≡ q = omega arith in e))
          | inr z ↦ far q (q + m - p) t (omega arith) (omega arith) (smod-over (p + (q + m - p)) q m (omega arith) l h)
        ]
        | inr y ↦
            far q (q - p) t (omega arith) (omega arith)
            (ap (λ x. smod x m) (let z : p + (q - p) ≡ q = omega arith in z) ∙ smod-at q m l h)
      ]

  step : Kept (suc v) S
  unfolding Found
  step = record {
    there = there';
    null = null';
    fits = fits';
    reads = reads';
    finds = λ q l h t. finds' q l h t (tally-pos S 1 (full (suc v)) q l (omega arith) t);
  }

pub kept : (w : ℕ) (S : ℕ → Bool) → Kept w S
kept zero S = record {
  there = λ i l h. absurd (omega arith);
  null = λ i h. refl;
  fits = λ l i h. pow_pos (0 - l);
  reads = λ i l h. absurd (omega arith);
  finds = λ q l h t. absurd (omega arith);
}
kept (suc v) S = step v S (kept v (right (full v) S (pivot (full v) S))) (kept v (left (full v) S (pivot (full v) S)))
