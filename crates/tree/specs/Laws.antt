-- What a set S of the numbers 1 .. 2 ^ K - 1 and the tree that it is written as have to do with one another, at any width.
use Rattle.std.specs.Prelude.{◌≡◌, ℕ, suc, ◌+◌, ◌-◌, ◌/◌, ◌^◌, ◌<◌, ◌≤◌, Bool, T, ℤ}
use Rattle.tree.specs.Number.{number}
use Rattle.tree.specs.Printed.{Printed}
use Rattle.tree.specs.Smod.{IsSmod, smodℤ}
use Rattle.tree.specs.Written.{full, round, tally, written}

-- Reading

-- n smod m is what the standard says that it is
abbrev pub SmodStands : Type 0
SmodStands = (n : ℤ) (m : ℕ) → 1 ≤ m → IsSmod n m (smodℤ n m)

-- F(i) is worked out from W(1) .. W(i) alone
abbrev pub PrefixStands : Type 0
PrefixStands =
    (K : ℕ) (V W : ℕ → ℕ) (i : ℕ) → 1 ≤ i → i < 2 ^ K → ((j : ℕ) → 1 ≤ j → j ≤ i → V j ≡ W j) →
    number K V i ≡ number K W i

-- What is read of a tree whose root is a number of the circle is a number of the circle
abbrev pub WithinStands : Type 0
WithinStands =
    (K : ℕ) (W : ℕ → ℕ) (i : ℕ) → 1 ≤ i → i < 2 ^ K → 1 ≤ W 1 → W 1 ≤ full K →
    (1 ≤ number K W i) × (number K W i ≤ full K)

-- A tree that is read as S has no fewer numbers than S has members, whoever wrote it
abbrev pub FewStands : Type 0
FewStands =
    (K : ℕ) (S : ℕ → Bool) (W : ℕ → ℕ) (c : ℕ) →
    ((q : ℕ) → 1 ≤ q → q ≤ full K → T (S q) → (i : ℕ) × (1 ≤ i) × (i ≤ c) × (number K W i ≡ q)) →
    tally S 1 (full K) ≤ c

-- All of it, with the formulas that the standard prints
pub record Reading : Type 0 where
  pub printed : Printed
  pub offset : SmodStands
  pub prefix : PrefixStands
  pub within : WithinStands
  pub few : FewStands

-- Writing

-- Any set on a circle of 2 h + 1 numbers that is not empty has a pivot: a member with exactly ⌊(n − 1)/2⌋ of the n members among the h
-- numbers after it
abbrev pub Pivot : ℕ → (ℕ → Bool) → ℕ → Type 0
Pivot h S k =
    (p : ℕ) × (1 ≤ p) × (p ≤ suc (h + h)) × T (S p) × (tally (round (suc (h + h)) S) (suc p) h ≡ k)

abbrev pub PivotStands : Type 0
PivotStands =
    (h : ℕ) (S : ℕ → Bool) → 1 ≤ tally S 1 (suc (h + h)) → Pivot h S ((tally S 1 (suc (h + h)) - 1) / 2)

-- What is written of the set S at the width K, and read as the standard says
pub record Trip (K : ℕ) (S : ℕ → Bool) : Type 0 where
  -- as many numbers are written as S has members, and nulls after them
  pub there : (i : ℕ) → 1 ≤ i → i ≤ tally S 1 (full K) → 1 ≤ written K S i
  pub null : (i : ℕ) → tally S 1 (full K) < i → written K S i ≡ 0
  -- those from the level l on have K - l bits
  pub fits : (l i : ℕ) → 2 ^ l ≤ i → written K S i < 2 ^ (K - l)
  -- each is read as a member, and each member is read
  pub reads : (i : ℕ) → 1 ≤ i → i ≤ tally S 1 (full K) → T (S (number K (written K S) i))
  pub finds :
      (q : ℕ) → 1 ≤ q → q ≤ full K → T (S q) →
      (i : ℕ) × (1 ≤ i) × (i ≤ tally S 1 (full K)) × (number K (written K S) i ≡ q)

abbrev pub TreeStands : Type 0
TreeStands = (K : ℕ) (S : ℕ → Bool) → Trip K S

-- The tree has to do with the numbers 1 .. 2 ^ K - 1 alone
abbrev pub SameStands : Type 0
SameStands =
    (K : ℕ) (S R : ℕ → Bool) → ((q : ℕ) → 1 ≤ q → q ≤ full K → S q ≡ R q) →
    (i : ℕ) → 1 ≤ i → written K S i ≡ written K R i

-- All of it
pub record Writing : Type 0 where
  pub pivot : PivotStands
  pub trip : TreeStands
  pub same : SameStands
