-- What the steps of the writer do, on a list of members in rising order.
use Rattle.std.specs.Prelude.{◌≡◌, ℕ, suc, ◌+◌, ◌-◌, ◌*◌, ◌/◌, ◌<◌, ◌≤◌, Bool, cond, ◌&&◌, List, length, ◌≢◌, nat_le, nat_lt, slice_index}
use Rattle.tree.specs.Written.{left, right}
use Rattle.spread.specs.Members.{Listed, among}

-- how many numbers a circle has: one, and h on either side of it
abbrev pub around : ℕ → ℕ
around h = suc (h + h)

-- the member t, counted on round the circle of m numbers a second time
abbrev pub turn : ℕ → List ℕ → ℕ → ℕ
turn m xs t = cond (nat_lt t (length xs)) (slice_index xs t) (slice_index xs (t - length xs) + m)

-- of the members after the one at j exactly k are among the next h numbers, round the circle of m numbers
abbrev pub splits : ℕ → ℕ → List ℕ → ℕ → ℕ → Bool
splits m h xs k j = nat_le (turn m xs (j + k)) (slice_index xs j + h) && nat_lt (slice_index xs j + h) (turn m xs (j + k + 1))

-- how far x is after p, round the circle of m numbers
abbrev pub ahead : ℕ → ℕ → ℕ → ℕ
ahead m p x = cond (nat_lt p x) (x - p) (x + m - p)

-- The right and the left members of the pivot p, on a circle of 2 h + 1 numbers, in numbers of their own
pub record Parted (h p : ℕ) (members rights lefts : List ℕ) : Type 0 where
  pub rsize : length rights ≡ (length members - 1) / 2
  pub lsize : length lefts ≡ length members - 1 - (length members - 1) / 2
  pub rlisted : Listed h rights
  pub llisted : Listed h lefts
  pub rsame : (q : ℕ) → 1 ≤ q → q ≤ h → right h (among members) p q ≡ among rights q
  pub lsame : (q : ℕ) → 1 ≤ q → q ≤ h → left h (among members) p q ≡ among lefts q

-- a part has the numbers of how far each is after p, round the circle of m numbers, less b
abbrev pub Renumbered : ℕ → ℕ → ℕ → List ℕ → List ℕ → Type 0
Renumbered m p b rs us = (i : ℕ) → i < length rs → slice_index us i ≡ ahead m p (slice_index rs i) - b

-- The members after the pivot, which stands at j, cut in two: they are the parts, once they have numbers of their own
pub record Halves (h j : ℕ) (members rights lefts : List ℕ) : Type 0 where
  pub rhigh : (i : ℕ) → i < length rights → slice_index rights i ≤ around h
  pub lhigh : (i : ℕ) → i < length lefts → slice_index lefts i ≤ around h
  pub lfar : (i : ℕ) → i < length lefts → h ≤ ahead (around h) (slice_index members j) (slice_index lefts i)
  pub parted :
      (us vs : List ℕ) → length us ≡ length rights → length vs ≡ length lefts →
      Renumbered (around h) (slice_index members j) 0 rights us → Renumbered (around h) (slice_index members j) h lefts vs →
      Parted h (slice_index members j) members us vs

-- The places j * stride + rest of a table, for 1 ≤ j ≤ n, hold W
abbrev pub Filled : List ℕ → ℕ → ℕ → ℕ → (ℕ → ℕ) → Type 0
Filled t n stride rest W = (j : ℕ) → 1 ≤ j → j ≤ n → slice_index t (j * stride + rest) ≡ W j

-- and those places aside, two tables are the same
abbrev pub Beside : List ℕ → List ℕ → ℕ → ℕ → ℕ → Type 0
Beside t u n stride rest =
    (i : ℕ) → ((j : ℕ) → 1 ≤ j → j ≤ n → i ≢ j * stride + rest) → slice_index u i ≡ slice_index t i
