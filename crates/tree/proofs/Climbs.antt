-- From the place up, as the standard has it, and from the root down: the same number.
use Rattle.std.proofs.Common.{◌≡◌, ℕ, zero, suc, ◌+◌, ◌-◌, ◌*◌, ◌^◌, ◌<◌, ◌≤◌, pos, ◌+ℤ◌, ◌-ℤ◌, sym, refl, ap, ◌∙◌, ap₂, inl, inr, arith, pow_pos, pow_mono}
use native.Mathlib.Nat.{two-pow-succ}
use Rattle.std.proofs.lemmas.Bool.{lt-ltb, le-ltb, lt-leb, le-leb}
use Rattle.tree.specs.Laws.{PrefixStands}
use Rattle.tree.specs.Smod.{smod, smodℤ}
use Rattle.tree.specs.Number.{climb, level, number}
use Rattle.tree.specs.Written.{full}
use Rattle.tree.proofs.Circle.{le_or}
use Rattle.tree.proofs.Smods.{smod_away}
use Rattle.tree.proofs.Trip.{member, at-root, at_left, at_right, placed, member-left, member_right, full_pow}

-- one step up, from a child on the side b (0 left, 1 right) of width w: a stands at the parent, x at the child
abbrev rise : ℕ → ℕ → ℕ → ℕ → ℕ
rise zero w a x = smodℤ (pos a -ℤ pos (2 ^ w) +ℤ pos x) (2 ^ suc w - 1)
rise (suc b) w a x = smodℤ (pos a +ℤ pos x) (2 ^ suc w - 1)

module _ (K : ℕ) (W : ℕ → ℕ) (l i n p w : ℕ) (width : K - suc l ≡ w) (wide : K - l ≡ suc w) where
  climb-left : i - 2 ^ l ≡ p → 2 * i < 3 * 2 ^ suc l → climb K W (suc l) i n ≡ climb K W l p (rise 0 w (W p) n)
  climb-left e h =
      rw (lt-ltb (2 * i) (3 * 2 ^ suc l) h)
      (ap (λ x. climb K W l x (smodℤ (pos (W x) -ℤ pos (2 ^ (K - suc l)) +ℤ pos n) (2 ^ (K - l) - 1))) e
      ∙ ap₂ (λ x y. climb K W l p (smodℤ (pos (W p) -ℤ pos (2 ^ x) +ℤ pos n) (2 ^ y - 1))) width wide)

  climb-right : i - 2 ^ suc l ≡ p → 3 * 2 ^ suc l ≤ 2 * i → climb K W (suc l) i n ≡ climb K W l p (rise 1 w (W p) n)
  climb-right e h =
      rw (le-ltb (2 * i) (3 * 2 ^ suc l) h)
      (ap (λ x. climb K W l x (smodℤ (pos (W x) +ℤ pos n) (2 ^ (K - l) - 1))) e
      ∙ ap (λ y. climb K W l p (smodℤ (pos (W p) +ℤ pos n) (2 ^ y - 1))) wide)

-- the tree V is the part of W on the side b
climb-part :
    (v : ℕ) (W V : ℕ → ℕ) (b : ℕ) → b ≤ 1 → ((k : ℕ) → V k ≡ W (2 * k + b)) →
    (l j n : ℕ) → 2 ^ l ≤ j → j < 2 ^ suc l → l ≤ v →
    climb (suc v) W (suc l) (2 * j + b) n ≡ rise b v (W 1) (climb v V l j n)
climb-part v W V zero hb e zero j n lo hi fit =
    climb-left (suc v) W 0 (2 * j + 0) n 1 v (omega arith) (omega arith) (omega arith) (omega arith)
climb-part v W V (suc zero) hb e zero j n lo hi fit =
    climb-right (suc v) W 0 (2 * j + 1) n 1 v (omega arith) (omega arith) (omega arith) (omega arith)
climb-part v W V (suc (suc b)) hb e zero j n lo hi fit = absurd (omega arith)
climb-part v W V b hb e (suc l) j n lo hi fit =
    let p1 = two-pow-succ l in
    let p2 = two-pow-succ (suc l) in
    let w : ℕ = v - suc l in
    elim (le_or (3 * 2 ^ suc l) (2 * j)) [
      | inl y ↦
          let q : ℕ = j - 2 ^ suc l in
          climb-right (suc v) W (suc l) (2 * j + b) n (2 * q + b) w (omega arith) (omega arith) (omega arith) (omega arith)
          ∙ (climb-part v W V b hb e l q (rise 1 w (W (2 * q + b)) n) (omega arith) (omega arith) (omega arith)
          ∙ ap (rise b v (W 1))
          (ap (λ x. climb v V l q (rise 1 w x n)) (sym (e q))
          ∙ sym (climb-right v V l j n q w (omega arith) (omega arith) refl y)))
      | inr y ↦
          let q : ℕ = j - 2 ^ l in
          let z : j < 3 * 2 ^ l = omega arith in
          climb-left (suc v) W (suc l) (2 * j + b) n (2 * q + b) w (omega arith) (omega arith) (omega arith) (omega arith)
          ∙ (climb-part v W V b hb e l q (rise 0 w (W (2 * q + b)) n) (omega arith) (omega arith) (omega arith)
          ∙ ap (rise b v (W 1))
          (ap (λ x. climb v V l q (rise 0 w x n)) (sym (e q))
          ∙ sym (climb-left v V l j n q w (omega arith) (omega arith) refl y)))
    ]

up_left : (v a x : ℕ) → rise 0 v a x ≡ smod (a + full v + x) (full (suc v))
up_left v a x =
    let p = full_pow v in
    let q = full_pow (suc v) in
    ap (λ m. smodℤ ((pos a -ℤ pos (2 ^ v)) +ℤ pos x) m) (let z : 2 ^ suc v - 1 ≡ full (suc v) = omega arith in z)
    ∙ smod_away a (2 ^ v) (full v) x (full (suc v)) (omega arith) (omega arith)

up_right : (v a x : ℕ) → rise 1 v a x ≡ smod (a + x) (full (suc v))
up_right v a x =
    let q = full_pow (suc v) in
    ap (λ m. smod (a + x) m) (let z : 2 ^ suc v - 1 ≡ full (suc v) = omega arith in z)

climbs : (K : ℕ) (W : ℕ → ℕ) (l i : ℕ) → 2 ^ l ≤ i → i < 2 ^ suc l → l < K → climb K W l i (W i) ≡ member K W i
climbs zero W l i lo hi fit = absurd (omega arith)
climbs (suc v) W zero i lo hi fit = let e : i ≡ 1 = omega arith in ap W e ∙ ap (member (suc v) W) (sym e)
climbs (suc v) W (suc l) i lo hi fit =
    let p1 = two-pow-succ l in
    let p2 = two-pow-succ (suc l) in
    let pos = pow_pos l in
    elim (placed i (omega arith)) [
      | at-root y ↦ absurd (omega arith)
      | at_left j g y ↦
          let V : ℕ → ℕ = λ k. W (2 * k) in
          let y0 : i ≡ 2 * j + 0 = omega arith in
          ap (λ x. climb (suc v) W (suc l) x (W x)) y0
          ∙ (climb-part v W V 0 (omega arith) (λ k. ap W (let z : 2 * k ≡ 2 * k + 0 = omega arith in z)) l j (W (2 * j + 0)) (omega arith) (omega arith) (omega arith)
          ∙ (ap (λ x. rise 0 v (W 1) (climb v V l j (W x))) (let z : 2 * j + 0 ≡ 2 * j = omega arith in z)
          ∙ (ap (rise 0 v (W 1)) (climbs v V l j (omega arith) (omega arith) (omega arith))
          ∙ (up_left v (W 1) (member v V j) ∙ (sym (member-left v W j g) ∙ ap (member (suc v) W) (sym y))))))
      | at_right j g y ↦
          let V : ℕ → ℕ = λ k. W (2 * k + 1) in
          ap (λ x. climb (suc v) W (suc l) x (W x)) y
          ∙ (climb-part v W V 1 (omega arith) (λ k. refl) l j (W (2 * j + 1)) (omega arith) (omega arith) (omega arith)
          ∙ (ap (rise 1 v (W 1)) (climbs v V l j (omega arith) (omega arith) (omega arith))
          ∙ (up_right v (W 1) (member v V j) ∙ (sym (member_right v W j g) ∙ ap (member (suc v) W) (sym y)))))
    ]

-- the level of a place
level_is : (K i : ℕ) → 1 ≤ i → i < 2 ^ K → (2 ^ level K i ≤ i) × (i < 2 ^ suc (level K i)) × (level K i < K)
level_is zero i l h = absurd (omega arith)
level_is (suc k) i l h = elim (le_or (2 ^ k) i) [
  | inl y ↦ rw (le-leb (2 ^ k) i y) (y, h, omega arith)
  | inr y ↦ let r = level_is k i l y in rw (lt-leb (2 ^ k) i y) (r.0, r.1, omega (arith, r.2))
]

pub number_is : (K : ℕ) (W : ℕ → ℕ) (i : ℕ) → 1 ≤ i → i < 2 ^ K → number K W i ≡ member K W i
number_is K W i l h = let r = level_is K i l h in climbs K W (level K i) i r.0 r.1 r.2

-- the level is the only one that fits
pub level-one : (K i l : ℕ) → 2 ^ l ≤ i → i < 2 * 2 ^ l → i < 2 ^ K → level K i ≡ l
level-one K i l lo hi h =
    let r = level_is K i (omega (arith, pow_pos l)) h in
    elim (le_or (suc (level K i)) l) [
      | inl y ↦ let m : 2 ^ suc (level K i) ≤ 2 ^ l = pow_mono y in absurd (omega (arith, r.1))
      | inr y ↦ elim (le_or (suc l) (level K i)) [
        | inl z ↦ let m : 2 ^ suc l ≤ 2 ^ level K i = pow_mono z in absurd (omega (arith, r.0, two-pow-succ l))
        | inr z ↦ omega arith
      ]
    ]

-- F(i) is worked out from W(1) .. W(i) alone

climb-same :
    (K : ℕ) (V W : ℕ → ℕ) (l i n : ℕ) → 2 ^ l ≤ i → ((j : ℕ) → 1 ≤ j → j < i → V j ≡ W j) → climb K V l i n ≡ climb K W l i n
climb-same K V W zero i n lo e = refl
climb-same K V W (suc l) i n lo e =
    let p = two-pow-succ l in
    let one = pow_pos l in
    elim (le_or (3 * 2 ^ suc l) (2 * i)) [
      | inl y ↦
          let b : ℕ = i - 2 ^ suc l in
          rw (le-ltb (2 * i) (3 * 2 ^ suc l) y)
          (ap (λ x. climb K V l b (smodℤ (pos x +ℤ pos n) (2 ^ (K - l) - 1))) (e b (omega arith) (omega arith))
          ∙ climb-same K V W l b _ (omega arith) (λ j f g. e j f (omega arith)))
      | inr y ↦
          let b : ℕ = i - 2 ^ l in
          rw (lt-ltb (2 * i) (3 * 2 ^ suc l) y)
          (ap (λ x. climb K V l b (smodℤ (pos x -ℤ pos (2 ^ (K - suc l)) +ℤ pos n) (2 ^ (K - l) - 1))) (e b (omega arith) (omega arith))
          ∙ climb-same K V W l b _ (omega arith) (λ j f g. e j f (omega arith)))
    ]

pub prefix-stands : PrefixStands
prefix-stands K V W i l h e =
    climb-same K V W (level K i) i (V i) (level_is K i l h).0 (λ j f g. e j f (omega arith))
    ∙ ap (climb K W (level K i) i) (e i l (omega arith))
