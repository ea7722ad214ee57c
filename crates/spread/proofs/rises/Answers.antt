use Rattle.std.proofs.Common.{◌-◌, ◌*◌, ◌%◌, ◌^◌, ◌<◌, ◌≤◌, Bool, ltb, MatchBool, length, sym, subst, arith, rules, tests}
use Rattle.std.proofs.lemmas.Fn.{always_returns_same}
use Rattle.tree.specs.Written.{full}
use Rattle.spread.specs.Members.{Listed}
use Rattle.spread.proofs.Sizes.{rises_is, end_is}
use Rattle.spread.proofs.rises.Goals as goal
use Rattle.spread.proofs.rises.Goals.{then-contains, else-contains}

pub returns-then-contains-2 : goal.returns-then-contains-2
returns-then-contains-2 c =
    let first = c.in-Some-Some.first.now in
    let last = c.in-Some-Some.last.now in
    elim c.if-contains.branch [
      | then-contains w ↦
          let low : 1 ≤ first = grind (arith, tests, c.contains.ensures.value, w.if-contains.true) in
          let high : last < (1 * 2 ^ c.args.k) % 65536 = grind (arith, tests, w.contains-then-contains.ensures.value, w.value-is, c.if-contains-2.true) in
          rises_is (full c.args.k) c.args.members.now (omega (arith, c.in-Some-Some.ensures.item.3.1 0))
          (omega (arith, c.in-Some-Some.ensures'.item.3.1 0, end_is c.args.k c.requires))
          c.is_sorted_by.result (c.is_sorted_by.ensures.cases ltb (always_returns_same _ _ _ (λ a r f e. search (rules, tests))))
      | else-contains w ↦ absurd (grind (arith, tests, w.if-contains.false, w.value-is, c.if-contains-2.true))
    ]

pub returns-else-contains-2 : goal.returns-else-contains-2
returns-else-contains-2 c =
    let xs = c.args.members.now in
    let m = full c.args.k in
    let first = c.in-Some-Some.first.now in
    let last = c.in-Some-Some.last.now in
    let first_is = c.in-Some-Some.ensures.item.3 in
    let last_is = c.in-Some-Some.ensures'.item.3 in
    let end = end_is c.args.k c.requires in
    subst (λ (b : Bool). MatchBool b (Listed m xs) (Listed m xs → ⊥)) (sym c.if-contains-2.false)
    (λ li.
    let at : length xs - 1 < length xs = omega (arith, first_is.0) in
    let low : 1 ≤ first = omega (arith, first_is.1 0, li.low 0 first_is.0) in
    let high : first < (1 * 2 ^ c.args.k) % 65536 = omega (arith, first_is.1 0, li.high 0 first_is.0, end) in
    let low' : 1 ≤ last = omega (arith, last_is.1 0, li.low (length xs - 1) at) in
    let high' : last < (1 * 2 ^ c.args.k) % 65536 = omega (arith, last_is.1 0, li.high (length xs - 1) at, end) in
    elim c.if-contains.branch [
      | then-contains w ↦ grind (arith, tests, w.contains-then-contains.ensures.value, w.value-is, c.if-contains-2.false, low', high')
      | else-contains w ↦ grind (arith, tests, c.contains.ensures.value, w.if-contains.false, low, high)
    ])
