-- What two piles share, by what their claims tell.
use Rattle.std.proofs.Common.{◌≡◌, ℕ, ◌<◌, refl}
use Rattle.bits.proofs.Lows.{lowest-same}
use Rattle.claims.specs.declared.Claims.{Claims}
use Rattle.claims.specs.Views.{claims, both, shared}
use Rattle.piles.specs.Laws.{Claim}

pub shared-told : (f g : Claim) (x y : Claims) → ((o : ℕ) → o < 256 → claims x o ≡ f o) → ((o : ℕ) → o < 256 → claims y o ≡ g o) → shared (claims x) (claims y) ≡ shared f g
shared-told f g x y h k = lowest-same (both (claims x) (claims y)) (both f g) 256 (λ o l. rw (h o l, k o l) refl)
