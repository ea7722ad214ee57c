-- What `lowest` finds.
use Rattle.std.proofs.Common.{◌≡◌, ℕ, zero, suc, ◌<◌, Bool, true, false, Some, None, Option, sym, refl, ap, ◌∙◌, ⊎_elim, arith}
use Rattle.std.proofs.lemmas.Bool.{cases_eq}
use Rattle.bits.specs.Lowest.{lowest, or_else}

-- a found one is below the limit and passes, and none below it does
pub record Found (p : ℕ → Bool) (n k : ℕ) : Type 0 where
  pub below : k < n
  pub passes : p k ≡ true
  pub first : (j : ℕ) → j < k → p j ≡ false

none-step : (o : Option ℕ) (b : Bool) (n : ℕ) → or_else o b n ≡ None → (o ≡ None) × (b ≡ false)
none-step (Some k) b n e = let z : ◌≡◌ {A = ℕ} 0 1 = cc in absurd (omega arith)
none-step None true n e = let z : ◌≡◌ {A = ℕ} 0 1 = cc in absurd (omega arith)
none-step None false n e = (refl, refl)

pub lowest-none : (p : ℕ → Bool) (n : ℕ) → lowest p n ≡ None → (k : ℕ) → k < n → p k ≡ false
unfolding lowest
lowest-none p zero e k h = absurd (omega arith)
lowest-none p (suc n) e k h =
    let s = none-step (lowest p n) (p n) n e in
    ⊎_elim (λ same. ap p same ∙ s.1) (λ other. lowest-none p n s.0 k (omega arith)) (cases_eq k n)

pub lowest_is_none : (p : ℕ → Bool) (n : ℕ) → ((k : ℕ) → k < n → p k ≡ false) → lowest p n ≡ None
unfolding lowest
lowest_is_none p zero h = refl
lowest_is_none p (suc n) h = rw (lowest_is_none p n (λ k l. h k (omega arith)), h n (omega arith)) refl

pub lowest-same : (p q : ℕ → Bool) (n : ℕ) → ((k : ℕ) → k < n → p k ≡ q k) → lowest p n ≡ lowest q n
unfolding lowest
lowest-same p q zero h = refl
lowest-same p q (suc n) h = rw (lowest-same p q n (λ k l. h k (omega arith)), h n (omega arith)) refl

pub lowest_is_some : (p : ℕ → Bool) (n k : ℕ) → k < n → p k ≡ true → ((j : ℕ) → j < k → p j ≡ false) → lowest p n ≡ Some k
unfolding lowest
lowest_is_some p zero k l t h = absurd (omega arith)
lowest_is_some p (suc n) k l t h =
    ⊎_elim (λ same. let e : p n ≡ true = ap p (sym same) ∙ t in rw (lowest_is_none p n (λ j m. h j (omega arith)), e) (ap Some (sym same)))
    (λ other. rw (lowest_is_some p n k (omega arith) t h) refl)
    (cases_eq k n)

pub lowest-some : (p : ℕ → Bool) (n k : ℕ) → lowest p n ≡ Some k → Found p n k
unfolding lowest
lowest-some p zero k e = let z : ◌≡◌ {A = ℕ} 0 1 = cc in absurd (omega arith)
lowest-some p (suc n) k e = go (lowest p n) refl (p n) refl e (lowest-some p n k)
  where
    go : (o : Option ℕ) → lowest p n ≡ o → (b : Bool) → p n ≡ b → or_else o b n ≡ Some k → (lowest p n ≡ Some k → Found p n k) → Found p (suc n) k
    go (Some j) q b r e ih = let same : j ≡ k = cc in let f = ih (q ∙ ap Some same) in record { below = omega (arith, f.below); passes = f.passes; first = f.first }
    go None q true r e ih = let same : n ≡ k = cc in record { below = omega arith; passes = ap p (sym same) ∙ r; first = λ j l. lowest-none p n q j (omega arith) }
    go None q false r e ih = let z : ◌≡◌ {A = ℕ} 0 1 = cc in absurd (omega arith)
