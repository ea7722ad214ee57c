-- The places of a table that a node and the two parts below it take.
use Rattle.std.proofs.Common.{◌≡◌, ℕ, ◌+◌, ◌-◌, ◌*◌, ◌/◌, ◌<◌, ◌≤◌, List, length, get_or, set, sym, ap, ◌∙◌, inl, inr, mul-le-mul_right, mul_assoc, add-mul, mul-lt-mul_of_pos_right, one-mul, arith}
use Rattle.std.proofs.lemmas.List.{get_or-set_same, get_or-set_other}
use Rattle.tree.proofs.Circle.{le_or}
use Rattle.tree.proofs.Trip.{at-root, at_left, at_right, placed}
use Rattle.spread.specs.Steps.{Filled, Beside}

-- the place j of the left part is the place 2 j of the whole, and that of the right part 2 j + 1
module _ (s r : ℕ) where
  spot-left : (j : ℕ) → j * (2 * s) + r ≡ 2 * j * s + r
  spot-left j = ap (λ x. x + r) (sym (mul_assoc j 2 s) ∙ ap (λ x. x * s) (let z : j * 2 ≡ 2 * j = omega arith in z))

  spot-right : (j : ℕ) → j * (2 * s) + (s + r) ≡ (2 * j + 1) * s + r
  spot-right j = omega (arith, spot-left j, add-mul (2 * j) 1 s, one-mul s)

  spot-root : s + r ≡ 1 * s + r
  spot-root = omega (arith, one-mul s)

  spot-one : 1 ≤ s → (a b : ℕ) → a * s + r ≡ b * s + r → a ≡ b
  spot-one h a b e = elim (le_or a b) [
    | inl y ↦ elim (le_or b a) [
      | inl z ↦ omega arith
      | inr z ↦ absurd (omega (arith, mul-lt-mul_of_pos_right z h))
    ]
    | inr y ↦ absurd (omega (arith, mul-lt-mul_of_pos_right y h))
  ]

-- the places of the parts are within those of the whole
module _ (n s r b : ℕ) (some : 1 ≤ n) (room : n * s + r < b) where
  pub root-room : s + r < b
  root-room = omega (arith, spot-root s r, mul-le-mul_right s some)

  pub right-room : (n - 1) / 2 * (2 * s) + (s + r) < b
  right-room =
      let k : ℕ = (n - 1) / 2 in
      let le : 2 * k + 1 ≤ n = omega arith in
      omega (arith, spot-right s r k, mul-le-mul_right s le)

  pub left-room : (n - 1 - (n - 1) / 2) * (2 * s) + r < b
  left-room =
      let k : ℕ = n - 1 - (n - 1) / 2 in
      let le : 2 * k ≤ n = omega arith in
      omega (arith, spot-left s r k, mul-le-mul_right s le)

module _ (n k g s r p : ℕ) (some : 1 ≤ n) (hs : 1 ≤ s) (hk : k ≡ (n - 1) / 2) (hg : g ≡ n - 1 - k)
    (t0 t1 : List ℕ) (e1 : t1 ≡ set t0 (s + r) p) (within : s + r < length t0)
    (t2 : List ℕ) (R : ℕ → ℕ) (filled-r : Filled t2 k (2 * s) (s + r) R) (beside-r : Beside t1 t2 k (2 * s) (s + r))
    (t3 : List ℕ) (L : ℕ → ℕ) (filled-l : Filled t3 g (2 * s) r L) (beside-l : Beside t2 t3 g (2 * s) r) where
  one : (a b : ℕ) → a * s + r ≡ b * s + r → a ≡ b
  one = spot-one s r hs

  old : (i : ℕ) → (i ≡ s + r → ⊥) → get_or t1 i 0 ≡ get_or t0 i 0
  old i e = ap (λ t. get_or t i 0) e1 ∙ get_or-set_other t0 (s + r) i p 0 e

  new : get_or t1 (s + r) 0 ≡ p
  new = ap (λ t. get_or t (s + r) 0) e1 ∙ get_or-set_same t0 (s + r) p 0 within

  -- a place with an odd number is not on the left
  odd : (i : ℕ) → get_or t3 ((2 * i + 1) * s + r) 0 ≡ get_or t2 ((2 * i + 1) * s + r) 0
  odd i = beside-l ((2 * i + 1) * s + r) (λ j l u q. omega (arith, one (2 * i + 1) (2 * j) (q ∙ spot-left s r j)))

  pub all-filled :
      (W : ℕ → ℕ) → W 1 ≡ p → ((j : ℕ) → 1 ≤ j → W (2 * j) ≡ L j) → ((j : ℕ) → 1 ≤ j → W (2 * j + 1) ≡ R j) →
      Filled t3 n s r W
  all-filled W w1 wl wr i l u =
      let G : ℕ → ℕ = λ x. get_or t3 (x * s + r) 0 in
      elim (placed i l) [
        | at-root y ↦
            ap G y
            ∙ (beside-l (1 * s + r) (λ j l u q. omega (arith, one 1 (2 * j) (q ∙ spot-left s r j)))
            ∙ (beside-r (1 * s + r) (λ j l u q. omega (arith, one 1 (2 * j + 1) (q ∙ spot-right s r j)))
            ∙ (ap (λ x. get_or t1 x 0) (sym (spot-root s r)) ∙ (new ∙ (sym w1 ∙ ap W (sym y))))))
        | at_left j h y ↦
            ap G y ∙ (ap (λ x. get_or t3 x 0) (sym (spot-left s r j)) ∙ (filled-l j h (omega arith) ∙ (sym (wl j h) ∙ ap W (sym y))))
        | at_right j h y ↦
            ap G y ∙ (odd j ∙ (ap (λ x. get_or t2 x 0) (sym (spot-right s r j)) ∙ (filled-r j h (omega arith) ∙ (sym (wr j h) ∙ ap W (sym y)))))
      ]

  pub all_beside : Beside t0 t3 n s r
  all_beside i e =
      beside-l i (λ j l u q. e (2 * j) (omega arith) (omega arith) (q ∙ spot-left s r j))
      ∙ (beside-r i (λ j l u q. e (2 * j + 1) (omega arith) (omega arith) (q ∙ spot-right s r j))
      ∙ old i (λ q. e 1 (omega arith) some (q ∙ spot-root s r)))

-- one place alone
module _ (n s r p : ℕ) (only : n ≡ 1) (t0 : List ℕ) (within : s + r < length t0) (t1 : List ℕ) (e1 : t1 ≡ set t0 (s + r) p) where
  pub one-filled : (W : ℕ → ℕ) → W 1 ≡ p → Filled t1 n s r W
  one-filled W w1 j l u =
      let e : j ≡ 1 = omega arith in
      ap (λ x. get_or t1 (x * s + r) 0) e
      ∙ (ap (λ x. get_or t1 x 0) (sym (spot-root s r))
      ∙ (ap (λ t. get_or t (s + r) 0) e1 ∙ (get_or-set_same t0 (s + r) p 0 within ∙ (sym w1 ∙ ap W (sym e)))))
