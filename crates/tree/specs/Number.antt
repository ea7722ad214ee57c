-- F(i), the number that the place i of a tree stands for: worked out from W(i) up to the root, as GSM 04.08's program does it.
-- A tree of width K has the places 1 .. 2 ^ K - 1, and its numbers W(i) are a function of the place.
use Rattle.std.specs.Prelude.{◌≡◌, ℕ, zero, suc, ◌+◌, ◌-◌, ◌*◌, ◌^◌, ◌<◌, Bool, cond, ◌&&◌, if◌then◌else◌, List, length, pos, ◌+ℤ◌, ◌-ℤ◌, Some, None, Ok, Err, Option, Result, nat_le, nat_lt, slice_index}
use Rattle.tree.specs.declared.TreeFault.{TreeFault}
use Rattle.tree.specs.declared.TreeFault.TheVariants.{Wide, Beyond, Short}
use Rattle.tree.specs.Smod.{smodℤ}

-- The way up from the place i, where n is what has been worked out so far. The place is on the level l: J, the greatest power of two
-- that is no more than i, is 2 ^ l. From a left child, which 2 * i < 3 * J tells, the parent is i - J / 2, and else it is i - J.
-- A child has the width K - l, and its parent a circle of 2 ^ (K - l + 1) - 1 numbers. W(parent) - 2 ^ (K - l) + n may go below zero.
abbrev pub climb : ℕ → (ℕ → ℕ) → ℕ → ℕ → ℕ → ℕ
climb K W zero i n = n
climb K W (suc l) i n =
    cond (nat_lt (2 * i) (3 * 2 ^ suc l))
    (climb K W l (i - 2 ^ l) (smodℤ (pos (W (i - 2 ^ l)) -ℤ pos (2 ^ (K - suc l)) +ℤ pos n) (2 ^ (K - l) - 1)))
    (climb K W l (i - 2 ^ suc l) (smodℤ (pos (W (i - 2 ^ suc l)) +ℤ pos n) (2 ^ (K - l) - 1)))

-- the level of the place i: of those below k the greatest l with 2 ^ l ≤ i
abbrev pub level : ℕ → ℕ → ℕ
level zero i = 0
level (suc k) i = let r = level k i in cond (nat_le (2 ^ k) i) k r

-- F(i) of the tree W of width K
abbrev pub number : ℕ → (ℕ → ℕ) → ℕ → ℕ
number K W i = climb K W (level K i) i (W i)

-- A table holds W(i) at its index i
abbrev pub entries : List ℕ → ℕ → ℕ
entries t i = slice_index t i

-- whether the places up to i are in the tree of width K, no wider than that of range 1024, and in the table
abbrev pub reaches : List ℕ → ℕ → ℕ → Bool
reaches t K i = nat_le K 10 && (nat_lt i (2 ^ K) && nat_lt i (length t))

-- what is lacking where they are not: the first of these
abbrev pub lack : List ℕ → ℕ → ℕ → TreeFault
lack t K i = if nat_le K 10 then (if nat_lt i (2 ^ K) then Short else Beyond) else Wide

-- whether the numbers up to F(i) are read, or what is lacking
abbrev pub answer : List ℕ → ℕ → ℕ → Result (Unit {0}) TreeFault
answer t K i = if reaches t K i then Ok tt else Err (lack t K i)

-- F(i) of the tree of width K in the table, if it has the place
abbrev pub number_at : List ℕ → ℕ → ℕ → Option ℕ
number_at t K i = cond (nat_le 1 i && reaches t K i) (Some (number K (entries t) i)) None

-- us are F(1), F(2), .. of the tree of width K in the table
abbrev pub Read : List ℕ → ℕ → List ℕ → Type 0
Read t K us = (j : ℕ) → j < length us → slice_index us j ≡ number K (entries t) (j + 1)
