-- The circle of m numbers: smod, counts round the circle, and a pivot of any set that is not empty.
use Rattle.std.proofs.Common.{◌≡◌, ℕ, zero, suc, ◌+◌, ◌-◌, ◌*◌, ◌%◌, ◌<◌, ◌≤◌, Bool, true, false, cond, not, T, leb, ◌⊎◌, sym, refl, ap, ◌∙◌, subst, ap₂, inl, inr, mod-lt, mod-eq_of_lt, arith, leb→le}
use native.Mathlib.Nat.{add-mod_right}
use lib.Dec.{nleb→lt}
use Rattle.tree.specs.Laws.{Pivot}
use Rattle.tree.specs.Smod.{smod}
use Rattle.tree.specs.Written.{bit, tally, round, first}

-- smod

pub smod-past : (a m : ℕ) → smod (a + m) m ≡ smod a m
smod-past a m =
    let e : (a + m) + (m - 1) ≡ (a + (m - 1)) + m = omega arith in
    ap (λ x. x % m + 1) e ∙ ap (λ x. x + 1) (add-mod_right (a + (m - 1)) m)

pub smod-at : (a m : ℕ) → 1 ≤ a → a ≤ m → smod a m ≡ a
smod-at a m l h =
    let e : a + (m - 1) ≡ (a - 1) + m = omega arith in
    let s : a - 1 < m = omega arith in
    let r : (a - 1) % m ≡ a - 1 = mod-eq_of_lt s in
    let q : (a + (m - 1)) % m ≡ (a - 1) % m = ap (λ x. x % m) e ∙ add-mod_right (a - 1) m in
    omega arith

pub smod-over : (a b m : ℕ) → a ≡ b + m → 1 ≤ b → b ≤ m → smod a m ≡ b
smod-over a b m e l h = ap (λ x. smod x m) e ∙ (smod-past b m ∙ smod-at b m l h)

pub smod-high : (a m : ℕ) → 1 ≤ m → smod a m ≤ m
smod-high a m p = let q : (a + (m - 1)) % m < m = mod-lt (a + (m - 1)) p in omega arith

-- bits

pub bit_le : (b : Bool) → bit b ≤ 1
bit_le true = omega arith
bit_le false = omega arith

pub bit_is : (b : Bool) → T b → bit b ≡ 1
bit_is true t = refl
bit_is false t = absurd t

is_bit : (b : Bool) → 1 ≤ bit b → T b
is_bit true h = tt
is_bit false h = absurd (omega arith)

-- a test, as one of two facts
pub le_or : (m n : ℕ) → (m ≤ n) ⊎ (n < m)
le_or m n = go (leb m n) (λ t. leb→le m n t) (λ t. nleb→lt m n t)
  where
    go : (b : Bool) → (T b → m ≤ n) → (T (not b) → n < m) → (m ≤ n) ⊎ (n < m)
    go true f g = inl (f tt)
    go false f g = inr (g tt)

-- counts

module _ (S : ℕ → Bool) where
  -- the same count, at equal places
  pub tally-at : (a b n k : ℕ) → a ≡ b → n ≡ k → tally S a n ≡ tally S b k
  tally-at a b n k p q = ap₂ (λ x y. tally S x y) p q

  pub tally_split : (a n k : ℕ) → tally S a (n + k) ≡ tally S a n + tally S (a + n) k
  tally_split a zero k = omega (arith, tally-at a (a + 0) (0 + k) k (omega arith) (omega arith))
  tally_split a (suc n) k =
      omega (arith, tally_split (suc a) n k, tally-at a a (suc n + k) (suc (n + k)) refl (omega arith), tally-at (a + suc n) (suc a + n) k k (omega arith) refl)

  pub tally_more : (a n : ℕ) → tally S a (suc n) ≡ tally S a n + bit (S (a + n))
  tally_more a n = omega (arith, tally_split a n 1, tally-at a a (suc n) (n + 1) refl (omega arith))

  pub tally_shift : (c a n : ℕ) → tally (λ q. S (c + q)) a n ≡ tally S (c + a) n
  tally_shift c a zero = refl
  tally_shift c a (suc n) = omega (arith, tally_shift c (suc a) n, tally-at (c + suc a) (suc (c + a)) n n (omega arith) refl)

  pub tally-has : (a n : ℕ) → 0 < tally S a n → (t : ℕ) × (a ≤ t) × (t < a + n) × T (S t)
  tally-has a zero h = absurd (omega arith)
  tally-has a (suc n) h = elim (le_or 1 (bit (S a))) [
    | inl y ↦ (a, omega arith, omega arith, is_bit (S a) y)
    | inr y ↦ let r = tally-has (suc a) n (omega arith) in (r.0, omega (arith, r.1), omega (arith, r.2), r.3)
  ]

-- at most as many members as numbers
pub tally_le : (S : ℕ → Bool) (a n : ℕ) → tally S a n ≤ n
tally_le S a zero = omega arith
tally_le S a (suc n) = omega (arith, bit_le (S a), tally_le S (suc a) n)

pub tally-same : (S R : ℕ → Bool) (a n : ℕ) → ((t : ℕ) → a ≤ t → t < a + n → S t ≡ R t) → tally S a n ≡ tally R a n
tally-same S R a zero e = refl
tally-same S R a (suc n) e =
    omega (arith, ap bit (e a (omega arith) (omega arith)), tally-same S R (suc a) n (λ t l h. e t (omega arith) (omega arith)))

-- the first that passes

pub first_finds : (P : ℕ → Bool) (a n t : ℕ) → a ≤ t → t < a + n → T (P t) → (a ≤ first P a n) × (first P a n < a + n) × T (P (first P a n))
first_finds P a zero t l h q = absurd (omega arith)
first_finds P a (suc n) t l h q = go (P a) refl (λ y. first_finds P (suc a) n t y (omega arith) q)
  where
    later : P a ≡ false → a < t
    later e = elim (le_or t a) [
      | inl y ↦ absurd (subst T (ap P (let z : t ≡ a = omega arith in z) ∙ e) q)
      | inr y ↦ y
    ]

    Rest : Type 0
    Rest = (suc a ≤ first P (suc a) n) × (first P (suc a) n < suc a + n) × T (P (first P (suc a) n))

    go : (b : Bool) → P a ≡ b → (a < t → Rest) → (a ≤ cond b a (first P (suc a) n)) × (cond b a (first P (suc a) n) < a + suc n) × T (P (cond b a (first P (suc a) n)))
    go true e f = (omega arith, omega arith, subst T (sym e) tt)
    go false e f =
        let r = f (later e) in
        (omega (arith, r.0), omega (arith, r.1), r.2)

pub first-none : (P : ℕ → Bool) (a n : ℕ) → ((t : ℕ) → a ≤ t → t < a + n → P t ≡ false) → first P a n ≡ 0
first-none P a zero e = refl
first-none P a (suc n) e =
    ap (λ b. cond b a (first P (suc a) n)) (e a (omega arith) (omega arith))
    ∙ first-none P (suc a) n (λ t l h. e t (omega arith) (omega arith))

-- round the circle

module _ (m : ℕ) (S : ℕ → Bool) where
  tally-past : (a n : ℕ) → tally (round m S) (a + m) n ≡ tally (round m S) a n
  tally-past a zero = refl
  tally-past a (suc n) =
      omega (arith, ap (λ t. bit (S t)) (smod-past a m), tally-past (suc a) n, tally-at (round m S) (suc a + m) (suc (a + m)) n n (omega arith) refl)

  whole-next : (a : ℕ) → tally (round m S) (suc a) m ≡ tally (round m S) a m
  whole-next a =
      omega (arith, tally_more (round m S) a m, ap (λ t. bit (S t)) (smod-past a m))

  -- any m numbers in a row are the whole circle
  pub whole : (a : ℕ) → tally (round m S) (suc a) m ≡ tally S 1 m
  whole zero = tally-same (round m S) S 1 m (λ t l h. ap S (smod-at t m l (omega arith)))
  whole (suc a) = whole-next (suc a) ∙ whole a

-- A pivot: from a place where more than k are in reach to one where at most k are, a member has exactly k after it.
-- f s or not, `tally f s (suc h)` counts with s, and `tally f (suc s) h` without it.

module _ (f : ℕ → Bool) (h k : ℕ) where
  cross :
      (d s t : ℕ) →
      t ≡ s + d →
      k < tally f s (suc h) →
      tally f (suc t) h ≤ k →
      (e : ℕ) × (s ≤ e) × (e ≤ t) × T (f e) × (tally f (suc e) h ≡ k)
  cross zero s t q more less =
      let same : tally f (suc t) h ≡ tally f (suc s) h = tally-at f (suc t) (suc s) h h (omega arith) refl in
      (s, omega arith, omega arith, is_bit (f s) (omega arith), omega (arith, bit_le (f s)))
  cross (suc d) s t q more less = elim (le_or (tally f (suc s) h) k) [
    | inl y ↦ (s, omega arith, omega arith, is_bit (f s) (omega arith), omega (arith, bit_le (f s)))
    | inr y ↦
        let r = cross d (suc s) t (omega arith) (omega (arith, tally_more f (suc s) h)) less in
        (r.0, omega (arith, r.1), r.2, r.3, r.4)
  ]

module _ (h : ℕ) (S : ℕ → Bool) (k : ℕ) where
  -- from a place beyond the circle back into it
  settle :
      (e : ℕ) → 1 ≤ e → e ≤ suc (h + h) + suc (h + h) → T (round (suc (h + h)) S e) →
      tally (round (suc (h + h)) S) (suc e) (h) ≡ k → Pivot h S k
  settle e l u s c =
      let m : ℕ = suc (h + h) in
      elim (le_or e m) [
        | inl y ↦ (e, l, y, subst (λ x. T (S x)) (smod-at e m l y) s, c)
        | inr y ↦ (
          e - m,
          omega arith,
          omega arith,
          subst (λ x. T (S x)) (smod-over e (e - m) m (omega arith) (omega arith) (omega arith)) s,
          omega (arith, c, tally-past m S (suc (e - m)) (h), tally-at (round m S) (suc (e - m) + m) (suc e) (h) (h) (omega arith) refl),
        )
      ]

  pub pivot-is :
      (t : ℕ) → 1 ≤ t → t ≤ suc (h + h) → T (S t) →
      2 * k + 1 ≤ tally S 1 (suc (h + h)) → tally S 1 (suc (h + h)) ≤ 2 * k + 2 → Pivot h S k
  pivot-is t l u s lo hi =
      let m : ℕ = suc (h + h) in
      let f : ℕ → Bool = round m S in
      let here : T (f t) = subst (λ x. T (S x)) (sym (smod-at t m l u)) s in
      let one : bit (f t) ≡ 1 = bit_is (f t) here in
      let n : ℕ = tally S 1 m in
      -- t and the h after it, and the h after those, are the circle; so are the h after t, and the h + 1 after those
      let front : tally f t (suc h) + tally f (suc (t + h)) h ≡ n =
      omega (arith, whole m S t, whole-next m S t, tally_split f t (suc h) h, tally-at f t t (suc h + h) m refl (omega arith), tally-at f (t + suc h) (suc (t + h)) h h (omega arith) refl) in
      let back : tally f (suc t) h + tally f (suc t + h) (suc h) ≡ n =
      omega (arith, whole m S t, tally_split f (suc t) h (suc h), tally-at f (suc t) (suc t) (h + suc h) m refl (omega arith)) in
      let again : tally f (suc (t + m)) h ≡ tally f (suc t) h =
      tally-at f (suc (t + m)) (suc t + m) h h (omega arith) refl ∙ tally-past m S (suc t) h in
      elim (le_or (tally f (suc t) h) k) [
        | inl few ↦ elim (le_or k (tally f (suc t) h)) [
          | inl y ↦ settle t l (omega arith) here (omega arith)
          | inr y ↦
              let r = cross f h k h (suc t + h) (t + m) (omega arith) (omega arith) (omega arith) in
              settle r.0 (omega (arith, r.1)) (omega (arith, r.2)) r.3 r.4
        ]
        | inr many ↦
            let r = cross f h k h t (t + h) refl (omega arith) (omega arith) in
            settle r.0 (omega (arith, r.1)) (omega (arith, r.2)) r.3 r.4
      ]
