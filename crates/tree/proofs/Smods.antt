-- smod on signed numbers.
use Rattle.std.proofs.Common.{◌≡◌, ℕ, zero, suc, ◌+◌, ◌-◌, ◌*◌, ◌/◌, ◌%◌, ◌<◌, ◌≤◌, ◌⊎◌, ℤ, pos, negsuc, ◌+ℤ◌, ◌-ℤ◌, ◌*ℤ◌, nat_abs, ◌≤ℤ◌, ◌<ℤ◌, sym, refl, ap, ◌∙◌, inl, inr, mod-lt, mod-eq_of_lt, suc-mul, div-add-mod', arith}
use native.Mathlib.Nat.{mod_self, mod-add-mod, add-mod_right, suc-mod}
use Rattle.std.proofs.lemmas.Int.{ints}
use Rattle.std.specs.Int.{int_rem_euclid}
use Rattle.tree.specs.Smod.{smod, smodℤ}
use Rattle.tree.specs.Laws.{SmodStands}
use Rattle.tree.proofs.Circle.{smod-past, smod-at, smod-over, smod-high, le_or}

-- the negative numbers down to -m
smod-below : (a m : ℕ) → suc a ≤ m → smodℤ (negsuc a) m ≡ smod (m - suc a) m
smod-below a m h = elim (le_or m (suc a)) [
  | inl y ↦
      let e : suc a ≡ m = omega arith in
      let z : suc a % m ≡ 0 = ap (λ x. x % m) e ∙ mod_self m in
      let w : smod (m - suc a) m ≡ smod 0 m = ap (λ x. smod x m) (let q : m - suc a ≡ 0 = omega arith in q) in
      let t : (0 + (m - 1)) % m ≡ m - 1 = ap (λ x. x % m) (let q : 0 + (m - 1) ≡ m - 1 = omega arith in q) ∙ mod-eq_of_lt (let q : m - 1 < m = omega arith in q) in
      omega (arith, z, w, t)
  | inr y ↦ omega (arith, mod-eq_of_lt y, smod-at (m - suc a) m (omega arith) (omega arith))
]

-- taking b away is adding c, round a circle of b + c numbers
pub smod_away : (a b c n m : ℕ) → m ≡ b + c → 1 ≤ m → smodℤ ((pos a -ℤ pos b) +ℤ pos n) m ≡ smod (a + c + n) m
smod_away a b c n m e h = elim (le_or b (a + n)) [
  | inl y ↦
      let z : (pos a -ℤ pos b) +ℤ pos n ≡ pos (a + n - b) = omega (arith, ints) in
      ap (λ x. smodℤ x m) z ∙ (sym (smod-past (a + n - b) m) ∙ ap (λ x. smod x m) (let q : a + n - b + m ≡ a + c + n = omega arith in q))
  | inr y ↦
      let z : (pos a -ℤ pos b) +ℤ pos n ≡ negsuc (b - suc (a + n)) = omega (arith, ints) in
      ap (λ x. smodℤ x m) z ∙ (smod-below (b - suc (a + n)) m (omega arith) ∙ ap (λ x. smod x m) (let q : m - suc (b - suc (a + n)) ≡ a + c + n = omega arith in q))
]

-- what the Euclidean remainder says of it

module _ (m : ℕ) (h : 1 ≤ m) where
  smod-rest : (a : ℕ) → 1 ≤ a % m → smod a m ≡ a % m
  smod-rest a p =
      let lt : a % m < m = mod-lt a h in
      let e : (a + (m - 1)) % m ≡ (a % m + (m - 1)) % m = sym (mod-add-mod a m (m - 1)) in
      let f : (a % m + (m - 1)) % m ≡ a % m - 1 =
      ap (λ x. x % m) (let z : a % m + (m - 1) ≡ (a % m - 1) + m = omega arith in z)
      ∙ (add-mod_right (a % m - 1) m ∙ mod-eq_of_lt (let z : a % m - 1 < m = omega arith in z)) in
      omega arith

  smod-none : (a : ℕ) → a % m ≡ 0 → smod a m ≡ m
  smod-none a p =
      let e : (a + (m - 1)) % m ≡ (a % m + (m - 1)) % m = sym (mod-add-mod a m (m - 1)) in
      let f : (a % m + (m - 1)) % m ≡ m - 1 =
      ap (λ x. x % m) (let z : a % m + (m - 1) ≡ m - 1 = omega arith in z) ∙ mod-eq_of_lt (let z : m - 1 < m = omega arith in z) in
      omega arith

  rest-suc : (a : ℕ) → a % m < m - 1 → suc a % m ≡ suc (a % m)
  rest-suc a p = suc-mod a m ∙ mod-eq_of_lt (let z : suc (a % m) < m = omega arith in z)

  rest_over : (a : ℕ) → a % m ≡ m - 1 → suc a % m ≡ 0
  rest_over a p = suc-mod a m ∙ (ap (λ x. x % m) (let z : suc (a % m) ≡ m = omega arith in z) ∙ mod_self m)

pub rem_none : (z d : ℤ) → 1 ≤ nat_abs d → int_rem_euclid z d ≡ pos 0 → smodℤ z (nat_abs d) ≡ nat_abs d
rem_none (pos a) d h e = smod-none (nat_abs d) h a (omega (arith, ints))
rem_none (negsuc a) d h e =
    let m : ℕ = nat_abs d in
    let lt : a % m < m = mod-lt a h in
    let z : m - 1 - a % m ≡ 0 = omega (arith, ints) in
    omega (arith, rest_over m h a (omega arith))

pub rem_some : (z d : ℤ) → 1 ≤ nat_abs d → (int_rem_euclid z d ≡ pos 0 → ⊥) → int_rem_euclid z d ≡ pos (smodℤ z (nat_abs d))
rem_some (pos a) d h e =
    let m : ℕ = nat_abs d in
    elim (le_or 1 (a % m)) [
      | inl y ↦ ap pos (sym (smod-rest m h a y))
      | inr y ↦ absurd (e (ap pos (let z : a % m ≡ 0 = omega arith in z)))
    ]
rem_some (negsuc a) d h e =
    let m : ℕ = nat_abs d in
    let lt : a % m < m = mod-lt a h in
    elim (le_or (m - 1) (a % m)) [
      | inl y ↦ absurd (e (ap pos (let z : m - 1 - a % m ≡ 0 = omega arith in z)))
      | inr y ↦ ap pos (let z : m - 1 - a % m ≡ m - suc a % m = omega (arith, rest-suc m h a y) in z)
    ]

pub smod-stands : SmodStands
smod-stands (pos a) m h = record {
  low = omega arith;
  high = smod-high a m h;
  apart = turns ((a + (m - 1)) / m) (div-add-mod' (a + (m - 1)) m);
}
  where
    turns : (q : ℕ) → q * m + (a + (m - 1)) % m ≡ a + (m - 1) → (k : ℤ) × (pos a ≡ k *ℤ pos m +ℤ pos (smod a m))
    turns zero e = (negsuc 0, omega (arith, ints, smod-high a m h))
    turns (suc q) e = (pos q, ap pos (let z : a ≡ q * m + smod a m = omega (arith, suc-mul q m) in z))
smod-stands (negsuc a) m h =
    let lt : suc a % m < m = mod-lt (suc a) h in
    record {
      low = omega arith;
      high = omega arith;
      apart = (negsuc (suc a / m), omega (arith, ints, suc-mul (suc a / m) m, div-add-mod' (suc a) m));
    }

-- at most one turn away: r is n, one turn up from it or one turn down
smod-near :
    (n : ℤ) (m r : ℕ) → 1 ≤ r → r ≤ m → (n ≡ pos r) ⊎ ((n +ℤ pos m ≡ pos r) ⊎ (n ≡ pos (r + m))) → smodℤ n m ≡ r
smod-near n m r l h (inl e) = ap (λ x. smodℤ x m) e ∙ smod-at r m l h
smod-near n m r l h (inr (inr e)) = ap (λ x. smodℤ x m) e ∙ smod-over (r + m) r m refl l h
smod-near (pos a) m r l h (inr (inl e)) =
    let z : a ≡ 0 = omega (arith, ints) in
    let t : (0 + (m - 1)) % m ≡ m - 1 = mod-eq_of_lt (let q : 0 + (m - 1) < m = omega arith in q) ∙ (let q : 0 + (m - 1) ≡ m - 1 = omega arith in q) in
    ap (λ x. smod x m) z ∙ (let q : smod 0 m ≡ r = omega (arith, ints) in q)
smod-near (negsuc a) m r l h (inr (inl e)) =
    let z : suc a < m = omega (arith, ints) in
    omega (arith, ints, mod-eq_of_lt z)

-- the same of signed numbers, as the program has them
pub smod-turned :
    (n m t : ℤ) → pos 0 <ℤ m → pos 0 <ℤ t → t ≤ℤ m → (t ≡ n) ⊎ ((t ≡ n +ℤ m) ⊎ (t ≡ n -ℤ m)) → t ≡ pos (smodℤ n (nat_abs m))
smod-turned n m t pm pt tm way =
    let e : t ≡ pos (nat_abs t) = omega (arith, ints) in
    e ∙ ap pos (sym (smod-near n (nat_abs m) (nat_abs t) (omega (arith, ints)) (omega (arith, ints)) (turn way)))
  where
    turn : (t ≡ n) ⊎ ((t ≡ n +ℤ m) ⊎ (t ≡ n -ℤ m)) → (n ≡ pos (nat_abs t)) ⊎ ((n +ℤ pos (nat_abs m) ≡ pos (nat_abs t)) ⊎ (n ≡ pos (nat_abs t + nat_abs m)))
    turn (inl q) = inl (omega (arith, ints))
    turn (inr (inl q)) = inr (inl (omega (arith, ints)))
    turn (inr (inr q)) = inr (inr (omega (arith, ints)))
