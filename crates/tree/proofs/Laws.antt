-- The laws of the tree, in the standard's words.
use Rattle.std.proofs.Common.{◌≡◌, ℕ, zero, suc, ◌+◌, ◌*◌, ◌^◌, ◌<◌, ◌≤◌, Bool, not, ◌&&◌, T, eqb, sym, ap, ◌∙◌, subst, inl, inr, arith, eq-eqb, ne_eqb}
use Rattle.std.proofs.lemmas.Bool.{cases_eq}
use Rattle.tree.specs.Number.{number}
use Rattle.tree.specs.Written.{full, bit, tally, written}
use Rattle.tree.specs.Laws.{TreeStands, FewStands, WithinStands, Reading, Writing}
use Rattle.tree.proofs.Circle.{le_or, smod-high, tally-same, tally-has, tally_le, bit_le}
use Rattle.tree.proofs.Climbs.{number_is, prefix-stands}
use Rattle.tree.proofs.Prints.{printed}
use Rattle.tree.proofs.Same.{same-stands}
use Rattle.tree.proofs.Smods.{smod-stands}
use Rattle.tree.proofs.Trip.{member, kept, at-root, at_left, at_right, placed, member-left, member_right, full_pow, pivot-stands}

-- a place of the tree is below 2 ^ K
place-below : (K : ℕ) (S : ℕ → Bool) (i : ℕ) → i ≤ tally S 1 (full K) → i < 2 ^ K
place-below K S i h = omega (arith, tally_le S 1 (full K), full_pow K)

pub tree-stands : TreeStands
tree-stands K S =
    let k = kept K S in
    record {
      there = k.there;
      null = k.null;
      fits = k.fits;
      reads = λ i l h. subst (λ x. T (S x)) (sym (number_is K (written K S) i l (place-below K S i h))) (k.reads i l h);
      finds = λ q l h t.
          let r = k.finds q l h t in
          (r.0, r.1, r.2, number_is K (written K S) r.0 r.1 (place-below K S r.0 r.2) ∙ r.3);
    }

-- S without x
without : ℕ → (ℕ → Bool) → ℕ → Bool
without x S q = not (eqb q x) && S q

other : (x : ℕ) (S : ℕ → Bool) (q : ℕ) → (q ≡ x → ⊥) → without x S q ≡ S q
unfolding without
other x S q n = ap (λ b. not b && S q) (ne_eqb q x n)

gone : (x : ℕ) (S : ℕ → Bool) (q : ℕ) → T (without x S q) → (q ≡ x → ⊥) × T (S q)
unfolding without
gone x S q t = elim (cases_eq q x) [
  | inl y ↦ absurd (subst (λ b. T (not b && S q)) (eq-eqb q x y) t)
  | inr n ↦ (n, subst T (other x S q n) t)
]

tally-without : (x : ℕ) (S : ℕ → Bool) (a n : ℕ) → tally S a n ≤ tally (without x S) a n + 1
tally-without x S a zero = omega arith
tally-without x S a (suc n) = elim (cases_eq a x) [
  | inl y ↦
      let e = tally-same (without x S) S (suc a) n (λ t l h. other x S t (λ q. omega arith)) in
      omega (arith, bit_le (S a))
  | inr m ↦ omega (arith, ap bit (other x S a m), tally-without x S (suc a) n)
]

-- c numbers have at most c members among them
pub pigeons :
    (c : ℕ) (S : ℕ → Bool) (f : ℕ → ℕ) (a n : ℕ) →
    ((q : ℕ) → a ≤ q → q < a + n → T (S q) → (i : ℕ) × (1 ≤ i) × (i ≤ c) × (f i ≡ q)) → tally S a n ≤ c
pigeons zero S f a n has = elim (le_or (tally S a n) 0) [
  | inl y ↦ y
  | inr y ↦
      let m = tally-has S a n y in
      let r = has m.0 m.1 m.2 m.3 in
      absurd (omega (arith, r.1, r.2))
]
pigeons (suc c) S f a n has =
    let fewer = pigeons c (without (f (suc c)) S) f a n (λ q l h t.
    let g = gone (f (suc c)) S q t in
    let r = has q l h g.1 in
    (r.0, r.1, elim (le_or r.0 c) [ inl y ↦ y | inr y ↦ absurd (g.0 (sym r.3 ∙ ap f (let z : r.0 ≡ suc c = omega (arith, r.2) in z))) ], r.3)) in
    omega (arith, tally-without (f (suc c)) S a n)

pub few-stands : FewStands
few-stands K S W c has = pigeons c S (number K W) 1 (full K) (λ q l h t. has q l (omega arith) t)

pub within-stands : WithinStands
within-stands zero W i l h low high = absurd (omega arith)
within-stands (suc v) W i l h low high =
    let e = number_is (suc v) W i l h in
    elim (placed i l) [
      | at-root y ↦ let r : member (suc v) W i ≡ W 1 = ap (member (suc v) W) y in (omega arith, omega arith)
      | at_left j g y ↦
          let m : ℕ = W 1 + full v + member v (λ k. W (2 * k)) j in
          let r = ap (member (suc v) W) y ∙ member-left v W j g in
          (omega arith, omega (arith, smod-high m (full (suc v)) (omega arith)))
      | at_right j g y ↦
          let m : ℕ = W 1 + member v (λ k. W (2 * k + 1)) j in
          let r = ap (member (suc v) W) y ∙ member_right v W j g in
          (omega arith, omega (arith, smod-high m (full (suc v)) (omega arith)))
    ]

pub reading : Reading
reading = record { printed = printed; offset = smod-stands; prefix = prefix-stands; within = within-stands; few = few-stands }

pub writing : Writing
writing = record { pivot = pivot-stands; trip = tree-stands; same = same-stands }
