-- What the steps of the reader do.
use Rattle.std.specs.Prelude.{◌≡◌, ℕ, suc, ◌+◌, ◌-◌, ◌/◌, ◌%◌, ◌^◌, ◌<◌, cond, List, length, pos, ◌+ℤ◌, ◌-ℤ◌, ◌==◌, nat_lt, slice_index}
use Rattle.tree.specs.Smod.{smodℤ}

-- The place of the level l on the way from the place i to the root
abbrev pub spot : ℕ → ℕ → ℕ
spot l i = 2 ^ l + i % 2 ^ l

-- One step up to it, from n, which is what the place i below it has come to: from a left child where the bit l of i is 0
abbrev pub up : ℕ → (ℕ → ℕ) → ℕ → ℕ → ℕ → ℕ
up K W l i n =
    cond (i / 2 ^ l % 2 == 0)
    (smodℤ (pos (W (spot l i)) -ℤ pos (2 ^ (K - suc l)) +ℤ pos n) (2 ^ (K - l) - 1))
    (smodℤ (pos (W (spot l i)) +ℤ pos n) (2 ^ (K - l) - 1))

-- The list has the places 1, 2, .., and those below the level l are one step up
abbrev pub Lifted : ℕ → (ℕ → ℕ) → ℕ → List ℕ → List ℕ → Type 0
Lifted K W l before after =
    (j : ℕ) → j < length before →
    slice_index after j ≡ cond (nat_lt (j + 1) (2 ^ suc l)) (slice_index before j) (up K W l (j + 1) (slice_index before j))
