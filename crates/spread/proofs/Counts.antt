-- Members of a list, and counts of a set whose members are listed in rising order.
use Rattle.std.proofs.Common.{◌≡◌, ℕ, zero, suc, ◌+◌, ◌<◌, ◌≤◌, Bool, true, false, cond, ◌||◌, T, eqb, ◌⊎◌, List, [], ◌∷◌, length, get_or, sym, refl, ap, ◌∙◌, subst, inl, inr, arith, eqb→eq, eq-eqb}
use Rattle.tree.specs.Written.{bit, tally, first}
use Rattle.tree.proofs.Circle.{le_or, bit_is}
use Rattle.spread.specs.Members.{among}

-- Members

either : (a b : Bool) → T (a || b) → T a ⊎ T b
either true b t = inl tt
either false b t = inr t

or_left : (a b : Bool) → T a → T (a || b)
or_left true b t = tt
or_left false b t = absurd t

or_right : (a b : Bool) → T b → T (a || b)
or_right true b t = tt
or_right false b t = t

pub among-has : (xs : List ℕ) (q : ℕ) → T (among xs q) → (i : ℕ) × (i < length xs) × (get_or xs i 0 ≡ q)
among-has [] q t = absurd t
among-has (x ∷ xs) q t = elim (either (eqb x q) (among xs q) t) [
  | inl y ↦ (0, omega arith, eqb→eq x q y)
  | inr y ↦ let r = among-has xs q y in (suc r.0, omega (arith, r.1), r.2)
]

pub among-at : (xs : List ℕ) (i : ℕ) → i < length xs → T (among xs (get_or xs i 0))
among-at [] i h = absurd (omega arith)
among-at (x ∷ xs) zero h = or_left (eqb x x) (among xs x) (subst T (sym (eq-eqb x x refl)) tt)
among-at (x ∷ xs) (suc i) h = or_right (eqb x (get_or xs i 0)) (among xs (get_or xs i 0)) (among-at xs i (omega arith))

-- Bools

pub bool_same : (a b : Bool) → (T a → T b) → (T b → T a) → a ≡ b
bool_same true true f g = refl
bool_same true false f g = absurd (f tt)
bool_same false true f g = absurd (g tt)
bool_same false false f g = refl

pub is_true : (b : Bool) → T b → b ≡ true
is_true true t = refl
is_true false t = absurd t

pub is_false : (b : Bool) → (T b → ⊥) → b ≡ false
is_false true f = absurd (f tt)
is_false false f = refl

-- Counts

-- c members in rising order are counted c times at least
pub at_least :
    (S : ℕ → Bool) (n a c : ℕ) (e : ℕ → ℕ) →
    ((i j : ℕ) → i < j → j < c → e i < e j) → ((i : ℕ) → i < c → a ≤ e i) → ((i : ℕ) → i < c → e i < a + n) →
    ((i : ℕ) → i < c → T (S (e i))) → c ≤ tally S a n
at_least S n a zero e up lo hi is = omega arith
at_least S zero a (suc c) e up lo hi is = absurd (omega (arith, lo 0 (omega arith), hi 0 (omega arith)))
at_least S (suc n) a (suc c) e up lo hi is = elim (le_or (e 0) a) [
  | inl y ↦
      let q : e 0 ≡ a = omega (arith, lo 0 (omega arith)) in
      let one : bit (S a) ≡ 1 = ap (λ t. bit (S t)) (sym q) ∙ bit_is (S (e 0)) (is 0 (omega arith)) in
      let r = at_least S n (suc a) c (λ i. e (suc i)) (λ i j l h. up (suc i) (suc j) (omega arith) (omega arith))
      (λ i h. omega (arith, up 0 (suc i) (omega arith) (omega arith)))
      (λ i h. omega (arith, hi (suc i) (omega arith)))
      (λ i h. is (suc i) (omega arith)) in
      omega arith
  | inr y ↦
      let r = at_least S n (suc a) (suc c) e up
      (λ i h. elim (le_or i 0) [
        | inl z ↦ subst (λ x. suc a ≤ e x) (let w : 0 ≡ i = omega arith in w) y
        | inr z ↦ omega (arith, up 0 i z h)
      ])
      (λ i h. omega (arith, hi i h))
      is in
      omega arith
]

-- the first that passes
pub first_is :
    (P : ℕ → Bool) (n a p : ℕ) → a ≤ p → p < a + n → P p ≡ true → ((t : ℕ) → a ≤ t → t < p → P t ≡ false) → first P a n ≡ p
first_is P zero a p l h e f = absurd (omega arith)
first_is P (suc n) a p l h e f = elim (le_or p a) [
  | inl y ↦
      let q : a ≡ p = omega arith in
      ap (λ b. cond b a (first P (suc a) n)) (ap P q ∙ e) ∙ q
  | inr y ↦
      ap (λ b. cond b a (first P (suc a) n)) (f a (omega arith) y)
      ∙ first_is P n (suc a) p y (omega arith) e (λ t m k. f t (omega arith) k)
]
