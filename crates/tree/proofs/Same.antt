-- The same set is written as the same tree.
use Rattle.std.proofs.Common.{◌≡◌, ℕ, zero, suc, ◌+◌, ◌-◌, ◌/◌, ◌<◌, ◌≤◌, Bool, cond, ◌&&◌, eqb, sym, refl, ap, ◌∙◌, ap₂, arith}
use Rattle.tree.specs.Laws.{SameStands}
use Rattle.tree.specs.Smod.{smod}
use Rattle.tree.specs.Written.{full, round, first, pivots, pivot, right, left, written}
use Rattle.tree.proofs.Circle.{smod-high, tally-same}
use Rattle.tree.proofs.Trip.{at-root, at_left, at_right, placed, written-left, written-right}

first-same : (P Q : ℕ → Bool) (a n : ℕ) → ((t : ℕ) → a ≤ t → t < a + n → P t ≡ Q t) → first P a n ≡ first Q a n
first-same P Q a zero e = refl
first-same P Q a (suc n) e =
    ap₂ (λ b x. cond b a x) (e a (omega arith) (omega arith)) (first-same P Q (suc a) n (λ t l h. e t (omega arith) (omega arith)))

module _ (h : ℕ) (S R : ℕ → Bool) (e : (q : ℕ) → 1 ≤ q → q ≤ suc (h + h) → S q ≡ R q) where
  round_same : (t : ℕ) → S (smod t (suc (h + h))) ≡ R (smod t (suc (h + h)))
  round_same t = e (smod t (suc (h + h))) (omega arith) (smod-high t (suc (h + h)) (omega arith))

  pivot-same : pivot h S ≡ pivot h R
  pivot-same =
      first-same (pivots h S) (pivots h R) 1 (suc (h + h)) (λ p l u.
      ap₂ ◌&&◌ (e p l (omega arith))
      (ap₂ (λ x y. eqb x ((y - 1) / 2))
      (tally-same (round (suc (h + h)) S) (round (suc (h + h)) R) (suc p) h (λ t a b. round_same t))
      (tally-same S R 1 (suc (h + h)) (λ t a b. e t a (omega arith)))))

  left-same : (q : ℕ) → left h S (pivot h S) q ≡ left h R (pivot h R) q
  left-same q = round_same (pivot h S + h + q) ∙ ap (λ p. R (smod (p + h + q) (suc (h + h)))) pivot-same

  right-same : (q : ℕ) → right h S (pivot h S) q ≡ right h R (pivot h R) q
  right-same q = round_same (pivot h S + q) ∙ ap (λ p. R (smod (p + q) (suc (h + h)))) pivot-same

pub same-stands : SameStands
same-stands zero S R e i l = refl
same-stands (suc v) S R e i l = elim (placed i l) [
  | at-root y ↦ rw y (pivot-same (full v) S R e)
  | at_left j g y ↦
      ap (written (suc v) S) y ∙ (written-left v S j g
      ∙ (same-stands v (left (full v) S (pivot (full v) S)) (left (full v) R (pivot (full v) R)) (λ q a b. left-same (full v) S R e q) j g
      ∙ (sym (written-left v R j g) ∙ ap (written (suc v) R) (sym y))))
  | at_right j g y ↦
      ap (written (suc v) S) y ∙ (written-right v S j g
      ∙ (same-stands v (right (full v) S (pivot (full v) S)) (right (full v) R (pivot (full v) R)) (λ q a b. right-same (full v) S R e q) j g
      ∙ (sym (written-right v R j g) ∙ ap (written (suc v) R) (sym y))))
]
