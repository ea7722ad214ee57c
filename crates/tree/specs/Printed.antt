-- The formulas that GSM 04.08 prints for the first places of the tree of each range, as they stand there: F1 = W1, F2 = (W1 - 512 + W2) smod
-- 1023 and so on. F and W are signed here, since W1 - 512 + W2 may go below zero.
-- In the ranges 512, 256 and 128 the print goes on to add the origin W0, mod 1024: F is the number that it is added to.
use Rattle.std.specs.Prelude.{◌≡◌, ℕ, ℤ, pos, ◌+ℤ◌, ◌-ℤ◌}
use Rattle.tree.specs.Number.{number}
use Rattle.tree.specs.Smod.{smodℤ}

infixl 7 ◌smod◌
abbrev pub ◌smod◌ : ℤ → ℕ → ℤ
n smod m = pos (smodℤ n m)

pub record Range1024 (F W : ℕ → ℤ) : Type 0 where
  pub F1 : F 1 ≡ W 1
  pub F2 : F 2 ≡ (W 1 -ℤ pos 512 +ℤ W 2) smod 1023
  pub F3 : F 3 ≡ (W 1 +ℤ W 3) smod 1023
  pub F4 : F 4 ≡ (W 1 -ℤ pos 512 +ℤ (W 2 -ℤ pos 256 +ℤ W 4) smod 511) smod 1023
  pub F5 : F 5 ≡ (W 1 +ℤ (W 3 -ℤ pos 256 +ℤ W 5) smod 511) smod 1023
  pub F6 : F 6 ≡ (W 1 -ℤ pos 512 +ℤ (W 2 +ℤ W 6) smod 511) smod 1023
  pub F7 : F 7 ≡ (W 1 +ℤ (W 3 +ℤ W 7) smod 511) smod 1023
  pub F8 : F 8 ≡ (W 1 -ℤ pos 512 +ℤ (W 2 -ℤ pos 256 +ℤ (W 4 -ℤ pos 128 +ℤ W 8) smod 255) smod 511) smod 1023
  pub F9 : F 9 ≡ (W 1 +ℤ (W 3 -ℤ pos 256 +ℤ (W 5 -ℤ pos 128 +ℤ W 9) smod 255) smod 511) smod 1023
  pub F10 : F 10 ≡ (W 1 -ℤ pos 512 +ℤ (W 2 +ℤ (W 6 -ℤ pos 128 +ℤ W 10) smod 255) smod 511) smod 1023
  pub F11 : F 11 ≡ (W 1 +ℤ (W 3 +ℤ (W 7 -ℤ pos 128 +ℤ W 11) smod 255) smod 511) smod 1023
  pub F12 : F 12 ≡ (W 1 -ℤ pos 512 +ℤ (W 2 -ℤ pos 256 +ℤ (W 4 +ℤ W 12) smod 255) smod 511) smod 1023
  pub F13 : F 13 ≡ (W 1 +ℤ (W 3 -ℤ pos 256 +ℤ (W 5 +ℤ W 13) smod 255) smod 511) smod 1023
  pub F14 : F 14 ≡ (W 1 -ℤ pos 512 +ℤ (W 2 +ℤ (W 6 +ℤ W 14) smod 255) smod 511) smod 1023
  pub F15 : F 15 ≡ (W 1 +ℤ (W 3 +ℤ (W 7 +ℤ W 15) smod 255) smod 511) smod 1023
  pub F16 : F 16 ≡ (W 1 -ℤ pos 512 +ℤ (W 2 -ℤ pos 256 +ℤ (W 4 -ℤ pos 128 +ℤ (W 8 -ℤ pos 64 +ℤ W 16) smod 127) smod 255) smod 511) smod 1023

pub record Range512 (F W : ℕ → ℤ) : Type 0 where
  pub F1 : F 1 ≡ W 1
  pub F2 : F 2 ≡ (W 1 -ℤ pos 256 +ℤ W 2) smod 511
  pub F3 : F 3 ≡ (W 1 +ℤ W 3) smod 511
  pub F4 : F 4 ≡ (W 1 -ℤ pos 256 +ℤ (W 2 -ℤ pos 128 +ℤ W 4) smod 255) smod 511
  pub F5 : F 5 ≡ (W 1 +ℤ (W 3 -ℤ pos 128 +ℤ W 5) smod 255) smod 511
  pub F6 : F 6 ≡ (W 1 -ℤ pos 256 +ℤ (W 2 +ℤ W 6) smod 255) smod 511
  pub F7 : F 7 ≡ (W 1 +ℤ (W 3 +ℤ W 7) smod 255) smod 511
  pub F8 : F 8 ≡ (W 1 -ℤ pos 256 +ℤ (W 2 -ℤ pos 128 +ℤ (W 4 -ℤ pos 64 +ℤ W 8) smod 127) smod 255) smod 511
  pub F9 : F 9 ≡ (W 1 +ℤ (W 3 -ℤ pos 128 +ℤ (W 5 -ℤ pos 64 +ℤ W 9) smod 127) smod 255) smod 511
  pub F10 : F 10 ≡ (W 1 -ℤ pos 256 +ℤ (W 2 +ℤ (W 6 -ℤ pos 64 +ℤ W 10) smod 127) smod 255) smod 511
  pub F11 : F 11 ≡ (W 1 +ℤ (W 3 +ℤ (W 7 -ℤ pos 64 +ℤ W 11) smod 127) smod 255) smod 511
  pub F12 : F 12 ≡ (W 1 -ℤ pos 256 +ℤ (W 2 -ℤ pos 128 +ℤ (W 4 +ℤ W 12) smod 127) smod 255) smod 511
  pub F13 : F 13 ≡ (W 1 +ℤ (W 3 -ℤ pos 128 +ℤ (W 5 +ℤ W 13) smod 127) smod 255) smod 511
  pub F14 : F 14 ≡ (W 1 -ℤ pos 256 +ℤ (W 2 +ℤ (W 6 +ℤ W 14) smod 127) smod 255) smod 511
  pub F15 : F 15 ≡ (W 1 +ℤ (W 3 +ℤ (W 7 +ℤ W 15) smod 127) smod 255) smod 511
  pub F16 : F 16 ≡ (W 1 -ℤ pos 256 +ℤ (W 2 -ℤ pos 128 +ℤ (W 4 -ℤ pos 64 +ℤ (W 8 -ℤ pos 32 +ℤ W 16) smod 63) smod 127) smod 255) smod 511
  pub F17 : F 17 ≡ (W 1 +ℤ (W 3 -ℤ pos 128 +ℤ (W 5 -ℤ pos 64 +ℤ (W 9 -ℤ pos 32 +ℤ W 17) smod 63) smod 127) smod 255) smod 511

pub record Range256 (F W : ℕ → ℤ) : Type 0 where
  pub F1 : F 1 ≡ W 1
  pub F2 : F 2 ≡ (W 1 -ℤ pos 128 +ℤ W 2) smod 255
  pub F3 : F 3 ≡ (W 1 +ℤ W 3) smod 255
  pub F4 : F 4 ≡ (W 1 -ℤ pos 128 +ℤ (W 2 -ℤ pos 64 +ℤ W 4) smod 127) smod 255
  pub F5 : F 5 ≡ (W 1 +ℤ (W 3 -ℤ pos 64 +ℤ W 5) smod 127) smod 255
  pub F6 : F 6 ≡ (W 1 -ℤ pos 128 +ℤ (W 2 +ℤ W 6) smod 127) smod 255
  pub F7 : F 7 ≡ (W 1 +ℤ (W 3 +ℤ W 7) smod 127) smod 255
  pub F8 : F 8 ≡ (W 1 -ℤ pos 128 +ℤ (W 2 -ℤ pos 64 +ℤ (W 4 -ℤ pos 32 +ℤ W 8) smod 63) smod 127) smod 255
  pub F9 : F 9 ≡ (W 1 +ℤ (W 3 -ℤ pos 64 +ℤ (W 5 -ℤ pos 32 +ℤ W 9) smod 63) smod 127) smod 255
  pub F10 : F 10 ≡ (W 1 -ℤ pos 128 +ℤ (W 2 +ℤ (W 6 -ℤ pos 32 +ℤ W 10) smod 63) smod 127) smod 255
  pub F11 : F 11 ≡ (W 1 +ℤ (W 3 +ℤ (W 7 -ℤ pos 32 +ℤ W 11) smod 63) smod 127) smod 255
  pub F12 : F 12 ≡ (W 1 -ℤ pos 128 +ℤ (W 2 -ℤ pos 64 +ℤ (W 4 +ℤ W 12) smod 63) smod 127) smod 255
  pub F13 : F 13 ≡ (W 1 +ℤ (W 3 -ℤ pos 64 +ℤ (W 5 +ℤ W 13) smod 63) smod 127) smod 255
  pub F14 : F 14 ≡ (W 1 -ℤ pos 128 +ℤ (W 2 +ℤ (W 6 +ℤ W 14) smod 63) smod 127) smod 255
  pub F15 : F 15 ≡ (W 1 +ℤ (W 3 +ℤ (W 7 +ℤ W 15) smod 63) smod 127) smod 255
  pub F16 : F 16 ≡ (W 1 -ℤ pos 128 +ℤ (W 2 -ℤ pos 64 +ℤ (W 4 -ℤ pos 32 +ℤ (W 8 -ℤ pos 16 +ℤ W 16) smod 31) smod 63) smod 127) smod 255
  pub F17 : F 17 ≡ (W 1 +ℤ (W 3 -ℤ pos 64 +ℤ (W 5 -ℤ pos 32 +ℤ (W 9 -ℤ pos 16 +ℤ W 17) smod 31) smod 63) smod 127) smod 255
  pub F18 : F 18 ≡ (W 1 -ℤ pos 128 +ℤ (W 2 +ℤ (W 6 -ℤ pos 32 +ℤ (W 10 -ℤ pos 16 +ℤ W 18) smod 31) smod 63) smod 127) smod 255
  pub F19 : F 19 ≡ (W 1 +ℤ (W 3 +ℤ (W 7 -ℤ pos 32 +ℤ (W 11 -ℤ pos 16 +ℤ W 19) smod 31) smod 63) smod 127) smod 255
  pub F20 : F 20 ≡ (W 1 -ℤ pos 128 +ℤ (W 2 -ℤ pos 64 +ℤ (W 4 +ℤ (W 12 -ℤ pos 16 +ℤ W 20) smod 31) smod 63) smod 127) smod 255
  pub F21 : F 21 ≡ (W 1 +ℤ (W 3 -ℤ pos 64 +ℤ (W 5 +ℤ (W 13 -ℤ pos 16 +ℤ W 21) smod 31) smod 63) smod 127) smod 255

pub record Range128 (F W : ℕ → ℤ) : Type 0 where
  pub F1 : F 1 ≡ W 1
  pub F2 : F 2 ≡ (W 1 -ℤ pos 64 +ℤ W 2) smod 127
  pub F3 : F 3 ≡ (W 1 +ℤ W 3) smod 127
  pub F4 : F 4 ≡ (W 1 -ℤ pos 64 +ℤ (W 2 -ℤ pos 32 +ℤ W 4) smod 63) smod 127
  pub F5 : F 5 ≡ (W 1 +ℤ (W 3 -ℤ pos 32 +ℤ W 5) smod 63) smod 127
  pub F6 : F 6 ≡ (W 1 -ℤ pos 64 +ℤ (W 2 +ℤ W 6) smod 63) smod 127
  pub F7 : F 7 ≡ (W 1 +ℤ (W 3 +ℤ W 7) smod 63) smod 127
  pub F8 : F 8 ≡ (W 1 -ℤ pos 64 +ℤ (W 2 -ℤ pos 32 +ℤ (W 4 -ℤ pos 16 +ℤ W 8) smod 31) smod 63) smod 127
  pub F9 : F 9 ≡ (W 1 +ℤ (W 3 -ℤ pos 32 +ℤ (W 5 -ℤ pos 16 +ℤ W 9) smod 31) smod 63) smod 127
  pub F10 : F 10 ≡ (W 1 -ℤ pos 64 +ℤ (W 2 +ℤ (W 6 -ℤ pos 16 +ℤ W 10) smod 31) smod 63) smod 127
  pub F11 : F 11 ≡ (W 1 +ℤ (W 3 +ℤ (W 7 -ℤ pos 16 +ℤ W 11) smod 31) smod 63) smod 127
  pub F12 : F 12 ≡ (W 1 -ℤ pos 64 +ℤ (W 2 -ℤ pos 32 +ℤ (W 4 +ℤ W 12) smod 31) smod 63) smod 127
  pub F13 : F 13 ≡ (W 1 +ℤ (W 3 -ℤ pos 32 +ℤ (W 5 +ℤ W 13) smod 31) smod 63) smod 127
  pub F14 : F 14 ≡ (W 1 -ℤ pos 64 +ℤ (W 2 +ℤ (W 6 +ℤ W 14) smod 31) smod 63) smod 127
  pub F15 : F 15 ≡ (W 1 +ℤ (W 3 +ℤ (W 7 +ℤ W 15) smod 31) smod 63) smod 127
  pub F16 : F 16 ≡ (W 1 -ℤ pos 64 +ℤ (W 2 -ℤ pos 32 +ℤ (W 4 -ℤ pos 16 +ℤ (W 8 -ℤ pos 8 +ℤ W 16) smod 15) smod 31) smod 63) smod 127
  pub F17 : F 17 ≡ (W 1 +ℤ (W 3 -ℤ pos 32 +ℤ (W 5 -ℤ pos 16 +ℤ (W 9 -ℤ pos 8 +ℤ W 17) smod 15) smod 31) smod 63) smod 127
  pub F18 : F 18 ≡ (W 1 -ℤ pos 64 +ℤ (W 2 +ℤ (W 6 -ℤ pos 16 +ℤ (W 10 -ℤ pos 8 +ℤ W 18) smod 15) smod 31) smod 63) smod 127
  pub F19 : F 19 ≡ (W 1 +ℤ (W 3 +ℤ (W 7 -ℤ pos 16 +ℤ (W 11 -ℤ pos 8 +ℤ W 19) smod 15) smod 31) smod 63) smod 127
  pub F20 : F 20 ≡ (W 1 -ℤ pos 64 +ℤ (W 2 -ℤ pos 32 +ℤ (W 4 +ℤ (W 12 -ℤ pos 8 +ℤ W 20) smod 15) smod 31) smod 63) smod 127
  pub F21 : F 21 ≡ (W 1 +ℤ (W 3 -ℤ pos 32 +ℤ (W 5 +ℤ (W 13 -ℤ pos 8 +ℤ W 21) smod 15) smod 31) smod 63) smod 127
  pub F22 : F 22 ≡ (W 1 -ℤ pos 64 +ℤ (W 2 +ℤ (W 6 +ℤ (W 14 -ℤ pos 8 +ℤ W 22) smod 15) smod 31) smod 63) smod 127
  pub F23 : F 23 ≡ (W 1 +ℤ (W 3 +ℤ (W 7 +ℤ (W 15 -ℤ pos 8 +ℤ W 23) smod 15) smod 31) smod 63) smod 127
  pub F24 : F 24 ≡ (W 1 -ℤ pos 64 +ℤ (W 2 -ℤ pos 32 +ℤ (W 4 -ℤ pos 16 +ℤ (W 8 +ℤ W 24) smod 15) smod 31) smod 63) smod 127
  pub F25 : F 25 ≡ (W 1 +ℤ (W 3 -ℤ pos 32 +ℤ (W 5 -ℤ pos 16 +ℤ (W 9 +ℤ W 25) smod 15) smod 31) smod 63) smod 127
  pub F26 : F 26 ≡ (W 1 -ℤ pos 64 +ℤ (W 2 +ℤ (W 6 -ℤ pos 16 +ℤ (W 10 +ℤ W 26) smod 15) smod 31) smod 63) smod 127
  pub F27 : F 27 ≡ (W 1 +ℤ (W 3 +ℤ (W 7 -ℤ pos 16 +ℤ (W 11 +ℤ W 27) smod 15) smod 31) smod 63) smod 127
  pub F28 : F 28 ≡ (W 1 -ℤ pos 64 +ℤ (W 2 -ℤ pos 32 +ℤ (W 4 +ℤ (W 12 +ℤ W 28) smod 15) smod 31) smod 63) smod 127
  pub F29 : F 29 ≡ (W 1 +ℤ (W 3 -ℤ pos 32 +ℤ (W 5 +ℤ (W 13 +ℤ W 29) smod 15) smod 31) smod 63) smod 127

-- F(i) of any tree is what the print says
abbrev pub Printed : Type 0
Printed =
    (W : ℕ → ℕ) →
    Range1024 (λ i. pos (number 10 W i)) (λ i. pos (W i))
    × Range512 (λ i. pos (number 9 W i)) (λ i. pos (W i))
    × Range256 (λ i. pos (number 8 W i)) (λ i. pos (W i))
    × Range128 (λ i. pos (number 7 W i)) (λ i. pos (W i))
