-- The front of a list.
use Rattle.std.proofs.Common.{◌≡◌, ℕ, ◌≤◌, List, length, take, ap, arith}
use Rattle.std.proofs.lemmas.List.{length-take}

-- a front that is a list of this length lies within
pub front-within : (n : ℕ) (xs ms : List ℕ) → take n xs ≡ ms → length ms ≡ n → n ≤ length xs
front-within n xs ms e l = omega (arith, length-take n xs, ap length e)
