-- Two functions of an octet that agree, by one computed test over all octets.
use Rattle.std.proofs.Common.{◌≡◌, ℕ, ◌<◌, Bool, true, false, not, eqb, None, sym, refl}
use Rattle.std.proofs.lemmas.Bool.{eqb-true}
use Rattle.bits.specs.Lowest.{lowest}
use Rattle.bits.proofs.Lows.{lowest-none}

abbrev pub differ : Bool → Bool → Bool
differ true b = not b
differ false b = b

same : (a b : Bool) → differ a b ≡ false → a ≡ b
same true true e = refl
same true false e = e
same false b e = sym e

not-false : (b : Bool) → not b ≡ false → b ≡ true
not-false true e = refl
not-false false e = sym e

pub agree : (f g : ℕ → Bool) (n : ℕ) → lowest (λ o. differ (f o) (g o)) n ≡ None → (o : ℕ) → o < n → f o ≡ g o
agree f g n e o l = same (f o) (g o) (lowest-none (λ o. differ (f o) (g o)) n e o l)

pub agree-numbers : (f g : ℕ → ℕ) (n : ℕ) → lowest (λ o. not (eqb (f o) (g o))) n ≡ None → (o : ℕ) → o < n → f o ≡ g o
agree-numbers f g n e o l = eqb-true (f o) (g o) (not-false (eqb (f o) (g o)) (lowest-none (λ o. not (eqb (f o) (g o))) n e o l))
