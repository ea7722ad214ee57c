-- The numbers W(i) that a set is written as. A set of the numbers 1 .. 2 ^ w - 1, on a circle, is its characteristic function.
use Rattle.std.specs.Prelude.{ℕ, zero, suc, ◌+◌, ◌-◌, ◌/◌, ◌%◌, Bool, true, false, cond, ◌&&◌, ◌==◌, nat_le}
use Rattle.tree.specs.Smod.{smod}

-- 2 ^ w - 1, the size of the circle of width w
abbrev pub full : ℕ → ℕ
full zero = 0
full (suc v) = suc (full v + full v)

abbrev pub bit : Bool → ℕ
bit true = 1
bit false = 0

-- how many of the n numbers from a on are in S
abbrev pub tally : (ℕ → Bool) → ℕ → ℕ → ℕ
tally S a zero = 0
tally S a (suc n) = bit (S a) + tally S (suc a) n

-- S round the circle of m numbers, at any number from 1 on
abbrev pub round : ℕ → (ℕ → Bool) → ℕ → Bool
round m S t = S (smod t m)

-- the first of the n numbers from a on that passes, or 0
abbrev pub first : (ℕ → Bool) → ℕ → ℕ → ℕ
first P a zero = 0
first P a (suc n) = let r = first P (suc a) n in cond (P a) a r

-- On a circle of 2 h + 1 numbers p is a pivot of S: a member with exactly ⌊(n − 1)/2⌋ of the n members among the h numbers after it
abbrev pub pivots : ℕ → (ℕ → Bool) → ℕ → Bool
pivots h S p = S p && tally (round (suc (h + h)) S) (suc p) h == (tally S 1 (suc (h + h)) - 1) / 2

-- the lowest pivot, or 0
abbrev pub pivot : ℕ → (ℕ → Bool) → ℕ
pivot h S = first (pivots h S) 1 (suc (h + h))

-- The right members of p are those among the h numbers after it, and the left ones those among the h after these, in numbers from 1 to h
abbrev pub right : ℕ → (ℕ → Bool) → ℕ → ℕ → Bool
right h S p q = S (smod (p + q) (suc (h + h)))

abbrev pub left : ℕ → (ℕ → Bool) → ℕ → ℕ → Bool
left h S p q = S (smod (p + h + q) (suc (h + h)))

-- By the place i in the tree: a at the root, and below it b in the left part, at the even places, and c in the right one
abbrev pub place : ℕ → ℕ → ℕ → ℕ → ℕ
place i a b c = cond (nat_le i 1) a (cond (i % 2 == 0) b c)

-- W(i) of the tree of width w that S is written as: the root is the lowest pivot, and the parts are the trees of its left and its right
-- members, of a width one smaller. The place j of the left part is the place 2 j of the tree, and that of the right part 2 j + 1.
abbrev pub written : ℕ → (ℕ → Bool) → ℕ → ℕ
written zero S i = 0
written (suc v) S i =
    let l = written v (left (full v) S (pivot (full v) S)) (i / 2) in
    let r = written v (right (full v) S (pivot (full v) S)) (i / 2) in
    place i (pivot (full v) S) l r
