-- A set whose members are x 0 < x 1 < .. < x (n - 1), on a circle of m numbers: E goes round the circle twice.
use Rattle.std.proofs.Common.{◌≡◌, ℕ, suc, ◌+◌, ◌-◌, ◌/◌, ◌<◌, ◌≤◌, Bool, true, ◌&&◌, T, eqb, sym, refl, ap, ◌∙◌, subst, ap₂, inl, inr, arith, eqb→eq, eq-eqb}
use lib.Ieee.Fits.{and_i, and_l, and_r}
use Rattle.tree.specs.Laws.{Pivot}
use Rattle.tree.specs.Smod.{smod}
use Rattle.tree.specs.Written.{tally, round, pivots, pivot, right, left}
use Rattle.tree.proofs.Circle.{le_or, smod-at, smod-over}
use Rattle.tree.proofs.Laws.{pigeons}
use Rattle.tree.proofs.Trip.{pivot-stands}
use Rattle.spread.proofs.Counts.{at_least, first_is, is_true, is_false}

-- what the numbers of a part of the circle are, by a list of them
pub record Lists (S : ℕ → Bool) (a b n : ℕ) (e : ℕ → ℕ) : Type 0 where
  pub low : (i : ℕ) → i < n → a ≤ e i
  pub high : (i : ℕ) → i < n → e i ≤ b
  pub rise : (i j : ℕ) → i < j → j < n → e i < e j
  pub at : (i : ℕ) → i < n → T (S (e i))
  pub has : (q : ℕ) → a ≤ q → q ≤ b → T (S q) → (i : ℕ) × (i < n) × (e i ≡ q)

-- it has as many as the list
pub lists-count : (S : ℕ → Bool) (m n : ℕ) (x : ℕ → ℕ) → Lists S 1 m n x → tally S 1 m ≡ n
lists-count S m n x s =
    let a = at_least S m 1 n x s.rise s.low (λ i h. omega (arith, s.high i h)) s.at in
    let b = pigeons n S (λ i. x (i - 1)) 1 m (λ q l u t.
    let r = s.has q l (omega arith) t in
    (r.0 + 1, omega arith, omega (arith, r.1), ap x (let z : r.0 + 1 - 1 ≡ r.0 = omega arith in z) ∙ r.2)) in
    omega arith

-- exactly k are among the h numbers after E j
abbrev pub Splits : (ℕ → ℕ) → ℕ → ℕ → ℕ → Type 0
Splits E h k j = (E (j + k) ≤ E j + h) × (E j + h < E (j + k + 1))

module _ (S : ℕ → Bool) (n m : ℕ) (x E : ℕ → ℕ) (s : Lists S 1 m n x)
    (near : (i : ℕ) → i < n → E i ≡ x i) (far : (i : ℕ) → n ≤ i → i < n + n → E i ≡ x (i - n) + m) where
  up : (i j : ℕ) → i < j → j < n + n → E i < E j
  up i j l h = elim (le_or n j) [
    | inl y ↦ elim (le_or n i) [
      | inl z ↦ omega (arith, far i z (omega arith), far j y h, s.rise (i - n) (j - n) (omega arith) (omega arith))
      | inr z ↦ omega (arith, near i z, far j y h, s.high i z, s.low (j - n) (omega arith))
    ]
    | inr y ↦ omega (arith, near i (omega arith), near j y, s.rise i j l y)
  ]

  up_le : (i j : ℕ) → i ≤ j → j < n + n → E i ≤ E j
  up_le i j l h = elim (le_or j i) [
    | inl y ↦ omega (arith, ap E (let z : i ≡ j = omega arith in z))
    | inr y ↦ omega (arith, up i j y h)
  ]

  over : (i : ℕ) → i < n → E (i + n) ≡ E i + m
  over i h = far (i + n) (omega arith) (omega arith) ∙ ap₂ (λ a b. a + b) (ap x (let z : i + n - n ≡ i = omega arith in z) ∙ sym (near i h)) refl

  round-at : (i : ℕ) → i < n + n → T (round m S (E i))
  round-at i h = elim (le_or n i) [
    | inl y ↦
        let k : i - n < n = omega arith in
        subst (λ t. T (S t)) (sym (smod-over (E i) (x (i - n)) m (far i y h) (s.low (i - n) k) (s.high (i - n) k))) (s.at (i - n) k)
    | inr y ↦
        subst (λ t. T (S t)) (sym (smod-at (x i) m (s.low i y) (s.high i y)) ∙ ap (λ t. smod t m) (sym (near i y))) (s.at i y)
  ]

  round-has : (t : ℕ) → 1 ≤ t → t ≤ m + m → T (round m S t) → (i : ℕ) × (i < n + n) × (E i ≡ t)
  round-has t l u q = elim (le_or t m) [
    | inl y ↦
        let r = s.has t l y (subst (λ a. T (S a)) (smod-at t m l y) q) in
        (r.0, omega (arith, r.1), near r.0 r.1 ∙ r.2)
    | inr y ↦
        let r = s.has (t - m) (omega arith) (omega arith) (subst (λ a. T (S a)) (smod-over t (t - m) m (omega arith) (omega arith) (omega arith)) q) in
        (r.0 + n, omega (arith, r.1), omega (arith, over r.0 r.1, near r.0 r.1, r.2))
  ]

  -- the members of the numbers after E j: those between E j and a number c, which lies between E (j + a) and E (j + b)
  module _ (h : ℕ) (odd : m ≡ suc (h + h)) (j : ℕ) (in-j : j < n) where
    start : (1 ≤ E j) × (E j ≤ m)
    start = (omega (arith, near j in-j, s.low j in-j), omega (arith, near j in-j, s.high j in-j))

    least : (c : ℕ) → j + c < n + n → E (j + c) ≤ E j + h → c ≤ tally (round m S) (suc (E j)) h
    least c l e =
        at_least (round m S) h (suc (E j)) c (λ i. E (suc (j + i)))
        (λ i k a b. up (suc (j + i)) (suc (j + k)) (omega arith) (omega arith))
        (λ i a. up j (suc (j + i)) (omega arith) (omega arith))
        (λ i a. omega (arith, up_le (suc (j + i)) (j + c) (omega arith) l))
        (λ i a. round-at (suc (j + i)) (omega arith))

    -- where a member after E j stands
    after : (t : ℕ) → E j < t → t ≤ m + m → T (round m S t) → (i : ℕ) × (i < n + n) × (j < i) × (E i ≡ t)
    after t l u q =
        let r = round-has t (omega arith) u q in
        (r.0, r.1, elim (le_or r.0 j) [ inl y ↦ absurd (omega (arith, r.2, up_le r.0 j y (omega arith))) | inr y ↦ y ], r.2)

    before : (i c t : ℕ) → i < n + n → c < n + n → E i ≡ t → t < E c → i < c
    before i c t a b e l = elim (le_or c i) [ inl y ↦ absurd (omega (arith, up_le c i y a)) | inr y ↦ y ]

    most : (c : ℕ) → j + c + 1 < n + n → E j + h < E (j + c + 1) → tally (round m S) (suc (E j)) h ≤ c
    most c l e =
        pigeons c (round m S) (λ i. E (j + i)) (suc (E j)) h (λ q a b t.
        let r = after q a (omega (arith, start.1)) t in
        let w = before r.0 (j + c + 1) q r.1 l r.3 (omega arith) in
        (r.0 - j, omega (arith, r.2), omega arith, ap E (let z : j + (r.0 - j) ≡ r.0 = omega (arith, r.2) in z) ∙ r.3))

    module _ (k : ℕ) (room : j + k + 1 < n + n) where
      hit : E (j + k) ≤ E j + h → E j + h < E (j + k + 1) → tally (round m S) (suc (E j)) h ≡ k
      hit a b = omega (arith, least k (omega arith) a, most k room b)

      miss : (E (j + k) ≤ E j + h → E j + h < E (j + k + 1) → ⊥) → tally (round m S) (suc (E j)) h ≡ k → ⊥
      miss f e = elim (le_or (E (j + k)) (E j + h)) [
        | inl y ↦ elim (le_or (E (j + k + 1)) (E j + h)) [
          | inl z ↦ omega (arith, least (k + 1) (omega arith) (subst (λ i. E i ≤ E j + h) (let w : j + k + 1 ≡ j + (k + 1) = omega arith in w) z))
          | inr z ↦ f y z
        ]
        | inr y ↦ elim (le_or k 0) [
          | inl z ↦ omega (arith, ap E (let w : j + k ≡ j = omega arith in w))
          | inr z ↦ omega (arith, most (k - 1) (omega arith) (subst (λ i. E j + h < E i) (let w : j + k ≡ j + (k - 1) + 1 = omega arith in w) y))
        ]
      ]

  -- The pivot

  module _ (h k : ℕ) (odd : m ≡ suc (h + h)) (half : k ≡ (n - 1) / 2) where
    pivots_is : (p : ℕ) → pivots h S p ≡ S p && (eqb (tally (round m S) (suc p) h) k)
    pivots_is p =
        ap₂ (λ a b. S p && (eqb (tally (round a S) (suc p) h) ((b - 1) / 2))) (sym odd) (ap (tally S 1) (sym odd) ∙ lists-count S m n x s)
        ∙ ap (λ a. S p && (eqb (tally (round m S) (suc p) h) a)) (sym half)

    passes : (j : ℕ) → j < n → Splits E h k j → pivots h S (x j) ≡ true
    passes j l y =
        pivots_is (x j)
        ∙ is_true _ (and_i (S (x j)) _ (s.at j l) (subst T (sym (eq-eqb _ _ (ap (λ a. tally (round m S) (suc a) h) (sym (near j l)) ∙ hit h odd j l k (omega arith) y.0 y.1))) tt))

    fails : (j : ℕ) → j < n → (Splits E h k j → ⊥) → tally (round m S) (suc (x j)) h ≡ k → ⊥
    fails j l f e = miss h odd j l k (omega arith) (λ a b. f (a, b)) (ap (λ a. tally (round m S) (suc a) h) (near j l) ∙ e)

    -- the members rise, so the lower one stands before
    order : (i j : ℕ) → i < n → j < n → x i < x j → i < j
    order i j a b l = elim (le_or j i) [
      | inl w ↦ elim (le_or i j) [
        | inl z ↦ absurd (omega (arith, ap x (let g : i ≡ j = omega arith in g)))
        | inr z ↦ absurd (omega (arith, s.rise j i z a))
      ]
      | inr w ↦ w
    ]

    pub pivot-at : (j : ℕ) → j < n → Splits E h k j → ((i : ℕ) → i < j → Splits E h k i → ⊥) → pivot h S ≡ x j
    pivot-at j l y none =
        first_is (pivots h S) (suc (h + h)) 1 (x j) (s.low j l) (omega (arith, s.high j l)) (passes j l y) (λ t a b.
        is_false (pivots h S t) (λ q.
        let c : T (S t && eqb (tally (round m S) (suc t) h) k) = subst T (pivots_is t) q in
        let r = s.has t a (omega (arith, s.high j l)) (and_l (S t) _ c) in
        fails r.0 r.1 (none r.0 (order r.0 j r.1 l (omega (arith, r.2))))
        (ap (λ a. tally (round m S) (suc a) h) r.2 ∙ eqb→eq _ _ (and_r (S t) _ c))))

    -- some member is a pivot
    pub some-splits : 1 ≤ n → ((i : ℕ) → i < n → Splits E h k i → ⊥) → ⊥
    some-splits one none = lost (pivot-stands h S (omega (arith, count)))
      where
        count : tally S 1 (suc (h + h)) ≡ n
        count = ap (tally S 1) (sym odd) ∙ lists-count S m n x s

        lost : Pivot h S ((tally S 1 (suc (h + h)) - 1) / 2) → ⊥
        lost p =
            let r = s.has p.0 p.1 (omega (arith, p.2)) p.3 in
            fails r.0 r.1 (none r.0 r.1)
            (ap (λ a. tally (round m S) (suc a) h) r.2 ∙ (ap (λ a. tally (round a S) (suc p.0) h) odd ∙ (p.4 ∙ (ap (λ a. (a - 1) / 2) count ∙ sym half))))

    -- The parts after the member j, where it splits the others

    module _ (j : ℕ) (in-j : j < n) (y : Splits E h k j) where
      pub right-lists : Lists (right h S (x j)) 1 h k (λ i. E (suc (j + i)) - x j)
      right-lists = record {
        low = λ i l. omega (arith, here, up j (suc (j + i)) (omega arith) (omega arith));
        high = λ i l. omega (arith, here, y.0, up_le (suc (j + i)) (j + k) (omega arith) (omega arith));
        rise = λ i g l u. omega (arith, here, up j (suc (j + i)) (omega arith) (omega arith), up (suc (j + i)) (suc (j + g)) (omega arith) (omega arith));
        at = λ i l.
            subst T (ap (λ a. round a S (E (suc (j + i)))) odd ∙ ap (round (suc (h + h)) S) (let z : E (suc (j + i)) ≡ x j + (E (suc (j + i)) - x j) = omega (arith, here, up j (suc (j + i)) (omega arith) (omega arith)) in z))
            (round-at (suc (j + i)) (omega arith));
        has = λ q l u t.
            let r = after h odd j in-j (x j + q) (omega (arith, here)) (omega (arith, s.high j in-j)) (subst T (ap (λ a. round a S (x j + q)) (sym odd)) t) in
            let w = before h odd j in-j r.0 (j + k + 1) (x j + q) r.1 (omega arith) r.3 (omega (arith, here, y.1)) in
            (r.0 - suc j, omega (arith, r.2), ap (λ a. a - x j) (ap E (let z : suc (j + (r.0 - suc j)) ≡ r.0 = omega (arith, r.2) in z) ∙ r.3) ∙ (let z : x j + q - x j ≡ q = omega arith in z));
      }
        where
          here : E j ≡ x j
          here = near j in-j

      pub left-lists : Lists (left h S (x j)) 1 h (n - 1 - k) (λ i. E (suc (j + k + i)) - x j - h)
      left-lists = record {
        low = λ i l. omega (arith, first i l);
        high = λ i l. omega (arith, here, over j in-j, up (suc (j + k + i)) (j + n) (omega arith) (omega arith));
        rise = λ i g l u. omega (arith, first i (omega arith), up (suc (j + k + i)) (suc (j + k + g)) (omega arith) (omega arith));
        at = λ i l.
            subst T (ap (λ a. round a S (E (suc (j + k + i)))) odd ∙ ap (round (suc (h + h)) S) (let z : E (suc (j + k + i)) ≡ x j + h + (E (suc (j + k + i)) - x j - h) = omega (arith, first i l) in z))
            (round-at (suc (j + k + i)) (omega arith));
        has = λ q l u t.
            let r = after h odd j in-j (x j + h + q) (omega (arith, here)) (omega (arith, s.high j in-j)) (subst T (ap (λ a. round a S (x j + h + q)) (sym odd)) t) in
            let w = before h odd j in-j r.0 (j + n) (x j + h + q) r.1 (omega arith) r.3 (omega (arith, here, over j in-j)) in
            let v : j + k < r.0 = elim (le_or r.0 (j + k)) [
              | inl e ↦ absurd (omega (arith, here, y.0, r.3, up_le r.0 (j + k) e (omega arith)))
              | inr e ↦ e
            ] in
            (r.0 - suc (j + k), omega arith, ap (λ a. a - x j - h) (ap E (let z : suc (j + k + (r.0 - suc (j + k))) ≡ r.0 = omega arith in z) ∙ r.3) ∙ (let z : x j + h + q - x j - h ≡ q = omega arith in z));
      }
        where
          here : E j ≡ x j
          here = near j in-j

          first : (i : ℕ) → i < n - 1 - k → x j + h < E (suc (j + k + i))
          first i l = omega (arith, here, y.1, up_le (j + k + 1) (suc (j + k + i)) (omega arith) (omega arith))
