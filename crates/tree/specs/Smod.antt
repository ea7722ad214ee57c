-- The offset remainder: n smod m is the number from 1 to m that differs from n by a multiple of m.
use Rattle.std.specs.Prelude.{◌≡◌, ℕ, suc, ◌+◌, ◌-◌, ◌%◌, ◌≤◌, ℤ, pos, negsuc, ◌+ℤ◌, ◌*ℤ◌}

-- on natural numbers
abbrev pub smod : ℕ → ℕ → ℕ
smod n m = (n + (m - 1)) % m + 1

-- on signed numbers
abbrev pub smodℤ : ℤ → ℕ → ℕ
smodℤ (pos n) m = smod n m
smodℤ (negsuc n) m = m - suc n % m

-- The standard's words: 1 ≤ (n smod m) ≤ m, and there exists k such that n = (k * m) + (n smod m)
pub record IsSmod (n : ℤ) (m r : ℕ) : Type 0 where
  pub low : 1 ≤ r
  pub high : r ≤ m
  pub apart : (k : ℤ) × (n ≡ k *ℤ pos m +ℤ pos r)
