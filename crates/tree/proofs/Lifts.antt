-- The places 1 .. n of a tree, taken up together, level by level.
use Rattle.std.proofs.Common.{◌≡◌, ℕ, suc, ◌+◌, ◌-◌, ◌^◌, ◌<◌, ◌≤◌, List, ◌++◌, length, get_or, take, drop, sym, ap, ◌∙◌, ap₂, inl, inr, arith, pow_pos}
use native.Mathlib.Nat.{two-pow-succ}
use Rattle.std.proofs.lemmas.List.{get_or_append_left, get_or-append_right, get_or-take, get_or-drop, length-take-le}
use borrow.Rule.Slice.PartMut.{put_mid, post_of}
use Rattle.std.proofs.lemmas.Bool.{lt-ltb, le-ltb, cond-true, cond-false}
use Rattle.tree.specs.Number.{climb, number}
use Rattle.tree.specs.Steps.{Lifted, spot, up}
use Rattle.tree.proofs.Circle.{le_or}
use Rattle.tree.proofs.Spots.{climb_own, climb-down}

module _ (K : ℕ) (W : ℕ → ℕ) where
  -- One level: the places from f on, which are below it, are lifted, and those before them are as they were
  pub lifted-part :
      (l f : ℕ) (xs ys : List ℕ) → f ≡ 2 ^ suc l → f - 1 ≤ length xs → length ys ≡ length xs - (f - 1) →
      ((i : ℕ) → i < length ys → get_or ys i 0 ≡ up K W l (f + i) (get_or (take (length xs - (f - 1)) (drop (f - 1) xs)) i 0)) →
      Lifted K W l xs (put_mid (f - 1) (length xs - (f - 1)) xs ys)
  lifted-part l f xs ys e in-a long is j h =
      let a : ℕ = f - 1 in
      let n : ℕ = length xs - a in
      let one : 1 ≤ f = omega (arith, pow_pos (suc l)) in
      elim (le_or a j) [
        | inl y ↦
            let i : ℕ = j - a in
            let at : get_or (take n (drop a xs)) i 0 ≡ get_or xs j 0 =
            get_or-take n (drop a xs) i 0 (omega arith) ∙ (get_or-drop a xs i 0 ∙ ap (λ x. get_or xs x 0) (let z : a + i ≡ j = omega arith in z)) in
            get_or-append_right (take a xs) (ys ++ post_of a n xs) a j 0 (length-take-le a xs in-a) y
            ∙ (get_or_append_left ys (post_of a n xs) 0 i (omega arith)
            ∙ (is i (omega arith)
            ∙ (ap₂ (up K W l) (let z : f + i ≡ j + 1 = omega arith in z) at
            ∙ sym (cond-false _ _ _ (le-ltb (j + 1) (2 ^ suc l) (omega arith))))))
        | inr y ↦
            get_or_append_left (take a xs) (ys ++ post_of a n xs) 0 j (omega (arith, length-take-le a xs in-a))
            ∙ (get_or-take a xs j 0 y ∙ sym (cond-true _ _ _ (lt-ltb (j + 1) (2 ^ suc l) (omega arith))))
      ]

  -- All of them: the places below the level b have come up to it, and the others are as they were

  abbrev pub Risen : ℕ → List ℕ → Type 0
  Risen b ys =
      (j : ℕ) → j < length ys →
      (j + 1 < 2 ^ suc b → get_or ys j 0 ≡ W (j + 1)) × (2 ^ b ≤ j + 1 → climb K W b (spot b (j + 1)) (get_or ys j 0) ≡ number K W (j + 1))

  pub risen_none : (b : ℕ) (ys : List ℕ) → ((j : ℕ) → j < length ys → get_or ys j 0 ≡ W (j + 1)) → length ys < 2 ^ suc b → length ys < 2 ^ K → Risen b ys
  risen_none b ys e top h j l = (
    λ lo. e j l,
    λ hi. ap (climb K W b (spot b (j + 1))) (e j l) ∙ climb_own K W b (j + 1) hi (omega (arith, two-pow-succ b)) (omega arith),
  )

  pub risen_more : (b : ℕ) (xs ys : List ℕ) → Risen b xs → 1 ≤ b → length xs < 2 ^ K → length ys ≡ length xs → Lifted K W (b - 1) xs ys → Risen (b - 1) ys
  risen_more b xs ys s some h same up_to_lem j l =
      let a : ℕ = b - 1 in
      let eb : 2 ^ suc a ≡ 2 ^ b = ap (λ x. 2 ^ x) (let z : suc a ≡ b = omega arith in z) in
      let lx : j < length xs = omega arith in
      elim (le_or (2 ^ suc a) (j + 1)) [
        | inl y ↦ (
          λ lo. absurd (omega arith),
          λ hi.
              climb-down K W b (j + 1) (get_or xs j 0) (get_or ys j 0) (number K W (j + 1)) some
              (up_to_lem j lx ∙ cond-false _ _ _ (le-ltb (j + 1) (2 ^ suc a) y))
              ((s j lx).1 (omega arith)),
        )
        | inr y ↦
            let e : get_or ys j 0 ≡ W (j + 1) =
            up_to_lem j lx ∙ (cond-true _ _ _ (lt-ltb (j + 1) (2 ^ suc a) y) ∙ (s j lx).0 (omega (arith, two-pow-succ b))) in (
              λ lo. e,
              λ hi. ap (climb K W a (spot a (j + 1))) e ∙ climb_own K W a (j + 1) hi (omega (arith, two-pow-succ a)) (omega arith),
            )
      ]

  pub risen_all : (b : ℕ) (ys : List ℕ) → b ≤ 0 → Risen b ys → (j : ℕ) → j < length ys → get_or ys j 0 ≡ number K W (j + 1)
  risen_all b ys z s j l =
      let e : b ≡ 0 = omega arith in
      ap (λ x. climb K W x (spot x (j + 1)) (get_or ys j 0)) (sym e) ∙ (s j l).1 (omega (arith, ap (λ x. 2 ^ x) e))
