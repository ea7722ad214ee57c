-- The sizes at a part of width w.
use Rattle.std.proofs.Common.{◌≡◌, ℕ, suc, ◌+◌, ◌-◌, ◌*◌, ◌%◌, ◌^◌, ◌<◌, ◌≤◌, Bool, true, false, ltb, MatchBool, List, length, get_or, sym, ap, ◌∙◌, inl, inr, arith}
use Rattle.std.proofs.lemmas.Nat.{one_shl}
use Rattle.std.proofs.lemmas.Bool.{ltb-true, lt-ltb, both_ways}
use Rattle.std.specs.List.{IsAllAdjacentAnswer}
use Rattle.std.proofs.lemmas.List.Kept.{AllPairs-from_increasing}
use Rattle.tree.specs.Written.{full}
use Rattle.tree.proofs.Circle.{le_or}
use Rattle.tree.proofs.Trip.{full_pow}
use Rattle.spread.specs.Members.{Listed}
use Rattle.spread.specs.Steps.{around}
use Rattle.spread.proofs.Turned.{listed-length}

-- half the circle of width w, less one, as the program has it
pub half_is : (w : ℕ) → 1 ≤ w → w ≤ 10 → (1 * 2 ^ (w - 1)) % 65536 - 1 ≡ full (w - 1)
half_is w some ten = omega (arith, one_shl (w - 1) 16 (omega arith), full_pow (w - 1))

-- What a part has that has members
pub record Node (w : ℕ) (xs : List ℕ) : Type 0 where
  pub some : 1 ≤ length xs
  pub wide : 1 ≤ w
  pub width : suc (w - 1) ≡ w
  pub all : full w ≡ around (full (w - 1))

pub node : (w : ℕ) (xs : List ℕ) → Listed (full w) xs → (length xs ≡ 0 → ⊥) → Node w xs
node w xs li nz =
    let wide : 1 ≤ w = elim (le_or 1 w) [
      | inl y ↦ y
      | inr y ↦ absurd (omega (arith, listed-length (full w) xs li, ap full (let z : w ≡ 0 = omega arith in z)))
    ] in
    let width : suc (w - 1) ≡ w = omega arith in
    record { some = omega arith; wide = wide; width = width; all = ap full (sym width) }

-- Members that rise, by neighbours

module _ (m : ℕ) (xs : List ℕ) (low : 1 ≤ get_or xs 0 0) (high : get_or xs (length xs - 1) 0 ≤ m) where
  risen : ((k : ℕ) → k + 1 < length xs → get_or xs k 0 < get_or xs (k + 1) 0) → Listed m xs
  risen up =
      let rise : (i j : ℕ) → i < j → j < length xs → get_or xs i 0 < get_or xs j 0 = λ i j. AllPairs-from_increasing xs up i j 0 in
      record {
        low = λ i l. elim (le_or i 0) [
          | inl z ↦ omega (arith, ap (λ a. get_or xs a 0) (let e : i ≡ 0 = omega arith in e))
          | inr z ↦ omega (arith, rise 0 i z l)
        ];
        high = λ i l. elim (le_or (length xs - 1) i) [
          | inl z ↦ omega (arith, ap (λ a. get_or xs a 0) (let e : i ≡ length xs - 1 = omega arith in e))
          | inr z ↦ omega (arith, rise i (length xs - 1) z (omega arith))
        ];
        rise = rise;
      }

  -- the program asks whether each is above the one before it
  pub rises_is : (b : Bool) → IsAllAdjacentAnswer (λ x y r. r ≡ ltb x y) xs b → MatchBool b (Listed m xs) (Listed m xs → ⊥)
  rises_is true h = risen (λ k l. ltb-true _ _ (sym (h k 0 l)))
  rises_is false h = λ li. both_ways _ (sym (h.2 0)) (lt-ltb _ _ (li.rise h.0 (h.0 + 1) (omega arith) h.1))

-- the numbers below 2 ^ k, as the program has it
pub end_is : (k : ℕ) → k ≤ 10 → (1 * 2 ^ k) % 65536 ≡ suc (full k)
end_is k h = one_shl k 16 (omega arith) ∙ sym (full_pow k)
