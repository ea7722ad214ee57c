-- Laws of levels, widths and what they add up to.
use Rattle.std.proofs.Common.{◌≡◌, ℕ, zero, suc, ◌+◌, ◌-◌, ◌*◌, ◌^◌, ◌<◌, ◌≤◌, leb, sym, refl, ap, subst, ⊎_elim, arith, pow_mono}
use Rattle.std.proofs.lemmas.Bool.{cases_lt, le-leb, lt-leb, cond-true, cond-false}
use Rattle.bits.proofs.Digits.{pow_more}
use Rattle.packing.specs.Fields.{Level, level, width, before}

level-hit : (k i : ℕ) → 2 ^ k ≤ i → level (suc k) i ≡ k
unfolding level
level-hit k i h = cond-true (leb (2 ^ k) i) k (level k i) (le-leb (2 ^ k) i h)

level-miss : (k i : ℕ) → i < 2 ^ k → level (suc k) i ≡ level k i
unfolding level
level-miss k i h = cond-false (leb (2 ^ k) i) k (level k i) (lt-leb (2 ^ k) i h)

pub level_is : (K i : ℕ) → 1 ≤ i → i < 2 ^ K → Level K i (level K i)
level_is zero i l h = absurd (omega arith)
level_is (suc k) i l h =
    ⊎_elim
    (λ less. let r = level_is k i l less in
    subst (λ m. Level (suc k) i m) (sym (level-miss k i less)) (record { low = r.low; high = r.high; below = omega (arith, r.below) }))
    (λ more. subst (λ m. Level (suc k) i m) (sym (level-hit k i more)) (record { low = more; high = h; below = omega arith }))
    (cases_lt i (2 ^ k))

-- only one level fits
pub level-one : (K i l : ℕ) → 1 ≤ i → i < 2 ^ K → 2 ^ l ≤ i → i < 2 * 2 ^ l → level K i ≡ l
level-one K i l a h lo hi =
    let r = level_is K i a h in
    ⊎_elim
    (λ less. let m : 2 ^ suc (level K i) ≤ 2 ^ l = pow_mono less in absurd (omega (arith, r.high)))
    (λ more. ⊎_elim
    (λ less. let m : 2 ^ suc l ≤ 2 ^ level K i = pow_mono less in absurd (omega (arith, r.low, pow_more l)))
    (λ same. omega arith)
    (cases_lt l (level K i)))
    (cases_lt (level K i) l)

pub width_one : (K i l : ℕ) → 1 ≤ i → i < 2 ^ K → 2 ^ l ≤ i → i < 2 * 2 ^ l → K - l ≡ width K i
unfolding width
width_one K i l a h lo hi = ap (λ m. K - m) (sym (level-one K i l a h lo hi))

-- a number of the tree is at least one bit wide, and no wider than the first
pub width_bounds : (K i : ℕ) → 1 ≤ i → i < 2 ^ K → (1 ≤ width K i) × (width K i ≤ K)
unfolding width
width_bounds K i a h = let r = level_is K i a h in (omega (arith, r.below), omega arith)

pub width_le : (K i : ℕ) → width K i ≤ K
unfolding width
width_le K i = omega arith

pub before-none : (K : ℕ) → before K 0 ≡ 0
unfolding before
before-none K = refl

pub before_more : (K n : ℕ) → before K (suc n) ≡ before K n + width K (suc n)
unfolding before
before_more K n = refl

pub before_mono : (K m n : ℕ) → m ≤ n → before K m ≤ before K n
before_mono K m zero h = let e : m ≡ 0 = omega arith in omega (arith, ap (before K) e)
before_mono K m (suc n) h =
    ⊎_elim
    (λ less. omega (arith, before_mono K m n (omega arith), before_more K n))
    (λ same. let e : m ≡ suc n = omega arith in omega (arith, ap (before K) e))
    (cases_lt m (suc n))

pub before_le : (K n : ℕ) → K ≤ 10 → before K n ≤ 10 * n
before_le K zero h = omega (arith, before-none K)
before_le K (suc n) h = omega (arith, before_more K n, before_le K n h, width_le K (suc n))
