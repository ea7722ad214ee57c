use Rattle.std.proofs.Common.{◌≡◌, ℕ, ◌-◌, ◌/◌, ◌<◌, ◌≤◌, true, false, T, List, length, Some, None, sym, refl, subst, arith, rules, tests}
use Rattle.std.proofs.lemmas.Iterator.{first_from_Range}
use Rattle.spread.specs.Steps.{around, splits}
use Rattle.spread.proofs.Turned.{pivot-found, pivot-lost}
use Rattle.spread.proofs.Ring.lowest.Goals as goal

pub unreachable-requires : goal.unreachable-requires
unreachable-requires c =
    let h : ℕ = c.args.self.now.circle.half in
    let xs : List ℕ = c.args.self.now.members.now in
    let k : ℕ = (length xs - 1) / 2 in
    let none : (i : ℕ) → 0 ≤ i → i < length xs → splits (around h) h xs k i ≡ false =
    first_from_Range _ _ _ None (λ i. splits (around h) h xs k i ≡ true) (λ i. splits (around h) h xs k i ≡ false) c.in-None.ensures.ran
    (λ i q e. search (rules, tests)) (λ i q e. search (rules, tests)) in
    pivot-lost (around h) h k xs c.args.self.now.listed refl refl c.requires (λ i l. none i (omega arith) l)

pub returns-clause-pivot : goal.returns-clause-pivot
returns-clause-pivot c =
    let h : ℕ = c.args.self.now.circle.half in
    let xs : List ℕ = c.args.self.now.members.now in
    let k : ℕ = (length xs - 1) / 2 in
    let j : ℕ = c.in-Some.j in
    let some : (0 ≤ j) × (j < length xs) × (splits (around h) h xs k j ≡ true) × ((i : ℕ) → 0 ≤ i → i < j → splits (around h) h xs k i ≡ false) =
    first_from_Range _ _ _ (Some j) (λ i. splits (around h) h xs k i ≡ true) (λ i. splits (around h) h xs k i ≡ false) c.in-Some.ensures.ran
    (λ i q e. search (rules, tests)) (λ i q e. search (rules, tests)) in
    pivot-found (around h) h k xs c.args.self.now.listed refl refl j some.1 (subst T (sym some.2) tt) (λ i l. some.3 i (omega arith) l)
