-- The octets that numbers are written as.
use Rattle.std.specs.Prelude.{◌≡◌, ℕ, zero, suc, ◌+◌, ◌-◌, ◌*◌, ◌^◌, ◌<◌, ◌≤◌, Bool, false, ◌&&◌, ◌||◌, List, map, length, nat_le, nat_lt}
use Rattle.std.specs.List.{range_with_len}
use Rattle.bits.specs.Bits.{bit, number_of}
use Rattle.packing.specs.declared.Range.{Range}
use Rattle.packing.specs.declared.Range.TheVariants.{R1024, R512, R256, R128}
use Rattle.packing.specs.Ranges.{HasLength, width_of, start_of}
use Rattle.packing.specs.Fields.{Octets, bit_at, field, width, before}
use Rattle.packing.specs.Slots.{slots_of}
use Rattle.packing.specs.Reading.{number_in}

-- the bit at position x, where the w bits of v stand from position p on and nothing else is set
unfoldable pub stands : ℕ → ℕ → ℕ → ℕ → Bool
stands p w v x = (nat_le p x && nat_lt x (p + w)) && bit v (p + w - suc x)

-- the same, where W(1) .. W(n) stand from the position start on, over bits that were set before
unfoldable pub laid : ℕ → ℕ → (ℕ → Bool) → (ℕ → ℕ) → ℕ → ℕ → Bool
laid K start f W zero x = f x
laid K start f W (suc n) x = laid K start f W n x || stands (start + before K n) (width K (suc n)) (W (suc n)) x

-- len octets by their bits
unfoldable pub octets_of : (ℕ → Bool) → ℕ → List ℕ
octets_of f len = map (λ k. number_of (λ b. f (8 * k + (7 - b))) 8) (range_with_len 0 len)

-- the len octets of a range with h in front and the numbers W(1) .. W(n)
unfoldable pub packed : Range → ℕ → (ℕ → ℕ) → ℕ → ℕ → List ℕ
packed r h W n len = octets_of (laid (width_of r) (start_of r) (stands 0 (start_of r) h) W n) len

-- the numbers fit their widths, and the octets hold so many
pub record Packable (r : Range) (h : ℕ) (W : ℕ → ℕ) (n len : ℕ) : Type 0 where
  pub held : HasLength r len
  pub few : n ≤ slots_of r len
  pub front : h < 2 ^ start_of r
  pub narrow : (i : ℕ) → 1 ≤ i → i ≤ n → W i < 2 ^ width (width_of r) i

-- the octets that have h in front, W(1) .. W(n) at their places, and nothing behind them
pub record Holds (r : Range) (h : ℕ) (W : ℕ → ℕ) (n len : ℕ) (os : List ℕ) : Type 0 where
  pub long : length os ≡ len
  pub octets : Octets os
  pub head : field os 0 (start_of r) ≡ h
  pub numbers : (i : ℕ) → 1 ≤ i → i ≤ n → number_in r os i ≡ W i
  pub rest : (x : ℕ) → start_of r + before (width_of r) n ≤ x → bit_at os x ≡ false

-- What stands before W(1): a mark of the range and, behind it, F0 in range 1024 and the origin in the others.
abbrev pub mark_of : Range → ℕ
mark_of R1024 = 16
mark_of R512 = 68
mark_of R256 = 69
mark_of R128 = 70

-- the width of what stands behind the mark
abbrev pub tail_of : Range → ℕ
tail_of R1024 = 1
tail_of R512 = 10
tail_of R256 = 10
tail_of R128 = 10

abbrev pub head_of : Range → ℕ → ℕ
head_of r tail = mark_of r * 2 ^ tail_of r + tail
