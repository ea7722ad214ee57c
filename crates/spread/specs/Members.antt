-- The set that a list of numbers in rising order is, and what a table holds once its tree is written.
use Rattle.std.specs.Prelude.{◌≡◌, ℕ, ◌-◌, ◌^◌, ◌<◌, ◌≤◌, Bool, false, ◌||◌, T, List, [], ◌∷◌, length, Ok, Err, Result, ◌==◌, slice_index}
use Rattle.spread.specs.declared.SpreadFault.{SpreadFault}
use Rattle.spread.specs.declared.SpreadFault.TheVariants.{Wide, Short, Unlisted}
use Rattle.tree.specs.Number.{entries, number}
use Rattle.tree.specs.Written.{full, written}

-- whether q is in the list
abbrev pub among : List ℕ → ℕ → Bool
among [] q = false
among (x ∷ xs) q = x == q || among xs q

-- the list rises, and has numbers from 1 to m alone
pub record Listed (m : ℕ) (xs : List ℕ) : Type 0 where
  pub low : (i : ℕ) → i < length xs → 1 ≤ slice_index xs i
  pub high : (i : ℕ) → i < length xs → slice_index xs i ≤ m
  pub rise : (i j : ℕ) → i < j → j < length xs → slice_index xs i < slice_index xs j

-- The members may be written: the width is that of range 1024 at most, they rise within 1 .. 2 ^ K - 1, and the table is longer
pub record Fit (K : ℕ) (members table : List ℕ) : Type 0 where
  pub width : K ≤ 10
  pub listed : Listed (full K) members
  pub room : length members < length table

-- The members are written: W(i) stands at the index i, from 1 to their number, and the rest of the table is as it was
pub record Wrote (K : ℕ) (members before after : List ℕ) : Type 0 where
  pub here : (i : ℕ) → 1 ≤ i → i ≤ length members → slice_index after i ≡ written K (among members) i
  pub rest : (i : ℕ) → (1 ≤ i → i ≤ length members → ⊥) → slice_index after i ≡ slice_index before i
  -- no W(i) is null, and those from the level l on have K - l bits
  pub some : (i : ℕ) → 1 ≤ i → i ≤ length members → 1 ≤ slice_index after i
  pub fits : (l i : ℕ) → 2 ^ l ≤ i → i ≤ length members → slice_index after i < 2 ^ (K - l)
  -- F(i) is a member for each of these i, and each member is one of them
  pub reads : (i : ℕ) → 1 ≤ i → i ≤ length members → T (among members (number K (entries after) i))
  pub finds : (q : ℕ) → T (among members q) → (i : ℕ) × (1 ≤ i) × (i ≤ length members) × (number K (entries after) i ≡ q)

-- The members may not be written, and why: the first of these that holds
abbrev pub Unfit : SpreadFault → ℕ → List ℕ → List ℕ → Type 0
Unfit Wide K members table = 10 < K
Unfit Short K members table = (K ≤ 10) × (length table ≤ length members)
Unfit Unlisted K members table = (K ≤ 10) × (length members < length table) × (Listed (full K) members → ⊥)

-- What `write` leaves, by its answer: the members hold nothing of use once they are written, and nothing has changed where it refuses
abbrev pub Outcome : Result (Unit {0}) SpreadFault → ℕ → List ℕ → List ℕ → List ℕ → List ℕ → Type 0
Outcome (Ok _) K members members' table table' = Fit K members table × Wrote K members table table'
Outcome (Err f) K members members' table table' =
    (Fit K members table → ⊥) × Unfit f K members table × (members' ≡ members) × (table' ≡ table)
