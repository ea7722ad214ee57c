-- The way up by the bits of the place, as the program goes, is the standard's.
use Rattle.std.proofs.Common.{◌≡◌, ℕ, suc, ◌+◌, ◌-◌, ◌*◌, ◌/◌, ◌%◌, ◌^◌, ◌<◌, ◌≤◌, true, ltb, leb, List, length, ℤ, pos, ◌+ℤ◌, ◌-ℤ◌, sym, ap, ◌∙◌, ap₂, inl, inr, mod-lt, mod-eq_of_lt, arith, pow_pos, pow_mono}
use native.Mathlib.Nat.{two-pow-succ, add-mod_right}
use Rattle.std.proofs.lemmas.Nat.{one_shl, mod-pow-add}
use Rattle.std.proofs.lemmas.Bool.{lt-ltb, le-ltb, eq-eqb, ne_eqb, cond-true, cond-false, cases_eq, and_parts, leb-true, ltb-true}
use Rattle.tree.specs.Number.{climb, number, reaches}
use Rattle.tree.specs.Smod.{smodℤ}
use Rattle.tree.specs.Steps.{spot, up}
use Rattle.tree.proofs.Circle.{le_or}
use Rattle.tree.proofs.Climbs.{level-one}

-- a place of the tree is on a level of the tree
pub level-below : (K l i : ℕ) → 2 ^ l ≤ i → i < 2 ^ K → l < K
level-below K l i lo h = elim (le_or K l) [
  | inl y ↦ let m : 2 ^ K ≤ 2 ^ l = pow_mono y in absurd (omega arith)
  | inr y ↦ y
]

-- what `reaches` tells
pub reached : (t : List ℕ) (K i : ℕ) → reaches t K i ≡ true → (K ≤ 10) × (i < 2 ^ K) × (i < length t)
reached t K i e =
    let a = and_parts (leb K 10) _ e in
    let b = and_parts (ltb i (2 ^ K)) _ a.1 in
    (leb-true K 10 a.0, ltb-true i (2 ^ K) b.0, ltb-true i (length t) b.1)

-- the size at the level l, as the program has it
pub size_is : (k l : ℕ) → l < k → k ≤ 10 → ((1 * 2 ^ (k - 1 - l)) % 65536 ≡ 2 ^ (k - suc l)) × (2 ^ (k - suc l) ≤ 512)
size_is k l h f =
    let a : k - 1 - l ≡ k - suc l = omega arith in
    let b : k - suc l ≤ 9 = omega arith in
    let m : 2 ^ (k - suc l) ≤ 2 ^ 9 = pow_mono b in
    (one_shl (k - 1 - l) 16 (omega arith) ∙ ap (λ x. 2 ^ x) a, m)

-- one step up, from what the program adds up
module _ (K : ℕ) (W : ℕ → ℕ) (l i n r s : ℕ) (sum : ℤ) (fit : l < K) (is : s ≡ 2 ^ (K - suc l)) (e : r ≡ smodℤ sum (2 * s - 1)) where
  wide : 2 * s - 1 ≡ 2 ^ (K - l) - 1
  wide =
      let e : 2 ^ (K - l) ≡ 2 ^ suc (K - suc l) = ap (λ x. 2 ^ x) (let z : K - l ≡ suc (K - suc l) = omega arith in z) in
      omega (arith, two-pow-succ (K - suc l))

  pub step_left : i / 2 ^ l % 2 ≡ 0 → sum ≡ pos (W (spot l i)) -ℤ pos s +ℤ pos n → r ≡ up K W l i n
  step_left z f =
      e ∙ (ap₂ smodℤ (f ∙ ap (λ x. pos (W (spot l i)) -ℤ pos x +ℤ pos n) is) wide ∙ sym (cond-true _ _ _ (eq-eqb (i / 2 ^ l % 2) 0 z)))

  pub step_right : (i / 2 ^ l % 2 ≡ 0 → ⊥) → sum ≡ pos (W (spot l i)) +ℤ pos n → r ≡ up K W l i n
  step_right z f = e ∙ (ap₂ smodℤ f wide ∙ sym (cond-false _ _ _ (ne_eqb (i / 2 ^ l % 2) 0 z)))

-- a place is the spot of its own level
spot_own : (l i : ℕ) → 2 ^ l ≤ i → i < 2 ^ suc l → spot l i ≡ i
spot_own l i lo hi =
    let lt : i - 2 ^ l < 2 ^ l = omega (arith, two-pow-succ l) in
    let e : i % 2 ^ l ≡ i - 2 ^ l = ap (λ x. x % 2 ^ l) (let z : i ≡ i - 2 ^ l + 2 ^ l = omega arith in z) ∙ (add-mod_right (i - 2 ^ l) (2 ^ l) ∙ mod-eq_of_lt lt) in
    omega (arith, e)

-- so the way up from there is all of it
pub climb_own : (K : ℕ) (W : ℕ → ℕ) (l i : ℕ) → 2 ^ l ≤ i → i < 2 * 2 ^ l → i < 2 ^ K → climb K W l (spot l i) (W i) ≡ number K W i
climb_own K W l i lo hi h =
    ap₂ (λ x y. climb K W x y (W i)) (sym (level-one K i l lo hi h)) (spot_own l i lo (omega (arith, two-pow-succ l)))

-- the way up by bits of the place is the standard's
climb-up : (K : ℕ) (W : ℕ → ℕ) (l i n : ℕ) → climb K W (suc l) (spot (suc l) i) n ≡ climb K W l (spot l i) (up K W l i n)
climb-up K W l i n =
    let two = two-pow-succ l in
    let low : i % 2 ^ l < 2 ^ l = mod-lt i (pow_pos l) in
    let cut : i % 2 ^ suc l ≡ (i / 2 ^ l % 2) * 2 ^ l + i % 2 ^ l =
    ap (λ x. i % 2 ^ x) (let z : suc l ≡ 1 + l = omega arith in z) ∙ mod-pow-add i 1 l in
    elim (cases_eq (i / 2 ^ l % 2) 0) [
      | inl z ↦
          let e : spot (suc l) i - 2 ^ l ≡ spot l i = omega (arith, ap (λ x. x * 2 ^ l) z) in
          rw (lt-ltb (2 * spot (suc l) i) (3 * 2 ^ suc l) (omega (arith, ap (λ x. x * 2 ^ l) z)), eq-eqb (i / 2 ^ l % 2) 0 z)
          (ap (λ x. climb K W l x (smodℤ (pos (W x) -ℤ pos (2 ^ (K - suc l)) +ℤ pos n) (2 ^ (K - l) - 1))) e)
      | inr z ↦
          let one : i / 2 ^ l % 2 ≡ 1 = omega arith in
          let e : spot (suc l) i - 2 ^ suc l ≡ spot l i = omega (arith, ap (λ x. x * 2 ^ l) one) in
          rw (le-ltb (2 * spot (suc l) i) (3 * 2 ^ suc l) (omega (arith, ap (λ x. x * 2 ^ l) one)), ne_eqb (i / 2 ^ l % 2) 0 z)
          (ap (λ x. climb K W l x (smodℤ (pos (W x) +ℤ pos n) (2 ^ (K - l) - 1))) e)
    ]

-- one level more, as the program counts down
pub climb-down :
    (K : ℕ) (W : ℕ → ℕ) (l i n r f : ℕ) → 1 ≤ l → r ≡ up K W (l - 1) i n →
    climb K W l (spot l i) n ≡ f → climb K W (l - 1) (spot (l - 1) i) r ≡ f
climb-down K W l i n r f some e q =
    ap (climb K W (l - 1) (spot (l - 1) i)) e
    ∙ (sym (climb-up K W (l - 1) i n)
    ∙ (ap (λ x. climb K W x (spot x i) n) (let z : suc (l - 1) ≡ l = omega arith in z) ∙ q))
