-- What the octets of a range say of the set that they are read as.
use Rattle.std.specs.Prelude.{◌≡◌, ℕ, suc, ◌-◌, ◌^◌, ◌<◌, ◌≤◌, true, false, List, length, replicate, is_some, Some, None, Ok, Option, ◌==◌, ◌≢◌, nat_eq}
use Rattle.std.proofs.Math.Path.{refl}
use Rattle.std.proofs.Common.{sym, ◌∙◌, ap, subst, ⊎_elim, pow_mono}
use native.Mathlib.Omega.{arith}
use Rattle.std.proofs.lemmas.List.{length-replicate}
use Rattle.std.proofs.lemmas.Bool.{cases_eq, eq-eqb, ne_eqb, eqb-true, both_ways}
use Rattle.bits.specs.Lowest.{lowest}
use Rattle.bits.proofs.Lows.{lowest-none, lowest-some, lowest_is_none}
use Rattle.packing.specs.declared.Range.{Range}
use Rattle.packing.specs.declared.Range.TheVariants.{R1024, R512, R256, R128}
use Rattle.packing.specs.Ranges.{width_of}
use Rattle.packing.specs.Fields.{width}
use Rattle.packing.specs.Reading.{number_in, slots_in, first_null, is_null, count_to, unpacked, leading, filled, Read, Unpacked}
use Rattle.packing.proofs.Counts.{slots-few, slots_small}
use Rattle.packing.proofs.Readings.{leading_ok, filled_means, number_is}
use Rattle.packing.proofs.Fields.{field_below}
use Rattle.packing.proofs.Widths.{width_le}
use Rattle.tree.specs.Number.{number}
use Rattle.tree.specs.Written.{full}
use Rattle.tree.proofs.Laws.{within-stands}
use Rattle.tree.proofs.Trip.{full_pow}
use Rattle.ranges.specs.Ranges.{stands_for}

-- some F(i) is q, and none is
pub stands-some : (K : ℕ) (W : ℕ → ℕ) (n q : ℕ) → stands_for K W n q ≡ true → (i : ℕ) × (1 ≤ i) × (i ≤ n) × (number K W i ≡ q)
stands-some K W n q = go (lowest (λ i. nat_eq (number K W (suc i)) q) n) refl
  where
    go : (o : Option ℕ) → lowest (λ i. nat_eq (number K W (suc i)) q) n ≡ o → is_some o ≡ true → (i : ℕ) × (1 ≤ i) × (i ≤ n) × (number K W i ≡ q)
    go None e t = absurd (both_ways false refl t)
    go (Some k) e t = let f = lowest-some (λ i. nat_eq (number K W (suc i)) q) n k e in (suc k, omega arith, omega (arith, f.below), eqb-true (number K W (suc k)) q f.passes)

pub stands_at : (K : ℕ) (W : ℕ → ℕ) (n q i : ℕ) → 1 ≤ i → i ≤ n → number K W i ≡ q → stands_for K W n q ≡ true
stands_at K W n q i a b e = go (lowest (λ i. nat_eq (number K W (suc i)) q) n) refl
  where
    go : (o : Option ℕ) → lowest (λ i. nat_eq (number K W (suc i)) q) n ≡ o → is_some o ≡ true
    go (Some k) p = refl
    go None p =
        let same : suc (i - 1) ≡ i = omega arith in
        absurd (both_ways (number K W (suc (i - 1)) == q) (lowest-none (λ i. nat_eq (number K W (suc i)) q) n p (i - 1) (omega arith)) (eq-eqb (number K W (suc (i - 1))) q (ap (number K W) same ∙ e)))

pub stands-none : (K : ℕ) (W : ℕ → ℕ) (n q : ℕ) → ((i : ℕ) → 1 ≤ i → i ≤ n → number K W i ≢ q) → stands_for K W n q ≡ false
stands-none K W n q h = ap is_some (lowest_is_none (λ i. nat_eq (number K W (suc i)) q) n (λ k l. ne_eqb (number K W (suc k)) q (h (suc k) (omega arith) (omega arith))))

module _ (r : Range) (os : List ℕ) (n : ℕ) (ok : unpacked r os ≡ Ok n) where
  abbrev K : ℕ
  K = width_of r

  leading-few : leading r os ≤ slots_in r os
  unfolding leading
  leading-few = go (first_null r os) refl
    where
      go : (o : Option ℕ) → first_null r os ≡ o → count_to (slots_in r os) o ≤ slots_in r os
      go None e = omega arith
      go (Some k) e = omega (arith, (lowest-some (is_null r os) (slots_in r os) k e).below)

  pub few : n ≤ slots_in r os
  few = let e = leading_ok r os n ok in omega (arith, leading-few)

  abbrev table : List ℕ
  table = filled (number_in r os) n (replicate 512 0)

  pub read : Read r os table n
  read =
      subst (Unpacked r os table) ok
      (filled_means r os table (replicate 512 0) n (sym (leading_ok r os n ok)) (omega (arith, few, slots_small r (length os), length-replicate {A = ℕ} 512 0)) refl)

  pub places : (i : ℕ) → i ≤ n → i < 2 ^ K
  places i l = omega (arith, few, slots-few r (length os))

  -- each F(i) is a number of the circle
  pub on_circle : (i : ℕ) → 1 ≤ i → i ≤ n → (1 ≤ number K (number_in r os) i) × (number K (number_in r os) i ≤ full K)
  on_circle i a b =
      let root : number_in r os 1 < 2 ^ width K 1 = subst (λ v. v < 2 ^ width K 1) (sym (number_is r os 1)) (field_below os _ (width K 1)) in
      let p : 2 ^ width K 1 ≤ 2 ^ K = pow_mono (width_le K 1) in
      let some : number_in r os 1 ≡ 0 → ⊥ = read.some 1 (omega arith) (omega arith) in
      within-stands K (number_in r os) i a (places i b)
      (⊎_elim (λ z. absurd (some z)) (λ z. omega arith) (cases_eq (number_in r os 1) 0)) (omega (arith, full_pow K))

pub full-below : (r : Range) → full (width_of r) < 1024
full-below R1024 = omega arith
full-below R512 = omega arith
full-below R256 = omega arith
full-below R128 = omega arith
