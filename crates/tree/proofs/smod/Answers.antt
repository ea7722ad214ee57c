use Rattle.std.proofs.Common.{◌≡◌, ◌⊎◌, ℤ, pos, ◌+ℤ◌, ◌-ℤ◌, nat_abs, sym, ap, ◌∙◌, ap₂, inl, inr, arith, w32, SFits, to_z, of_z}
use Rattle.std.specs.Int.{int_rem_euclid}
use Rattle.std.proofs.lemmas.Int.{ints, to_z-of_z}
use Rattle.tree.proofs.Smods.{smod-turned, rem_none, rem_some}
use Rattle.tree.proofs.smod.Goals as goal
use Rattle.tree.proofs.smod.Goals.{then-n-le0, else-n-le0+then-m-n, else-n-le0+else-m-n}

pub returns-then-t-m : goal.returns-then-t-m
returns-then-t-m c =
    let n = c.args.n in
    let m = c.args.m in
    let t = c.if-n-le0.t in
    let way : (t ≡ n) ⊎ ((t ≡ n +ℤ m) ⊎ (t ≡ n -ℤ m)) =
    elim c.if-n-le0.branch [
      | then-n-le0 w ↦ inr (inl (omega (arith, ints, w.t-is)))
      | else-n-le0+then-m-n w ↦ inr (inr (omega (arith, ints, w.t-is)))
      | else-n-le0+else-m-n w ↦ inl (omega (arith, ints, w.t-is))
    ] in
    c.if-n-le0.t-is ∙ smod-turned n m t c.requires (omega (arith, ints)) (omega (arith, ints)) way

-- the remainder, as the callee has it
module _ (n m r : ℤ) (fn : SFits w32 n) (fm : SFits w32 m) (e : r ≡ int_rem_euclid (to_z w32 (of_z w32 n)) (to_z w32 (of_z w32 m))) where
  rest : r ≡ int_rem_euclid n m
  rest = e ∙ ap₂ int_rem_euclid (to_z-of_z w32 n fn) (to_z-of_z w32 m fm)

pub returns-then-r-eq0 : goal.returns-then-r-eq0
returns-then-r-eq0 c =
    let n = c.args.n in
    let m = c.args.m in
    let r = c.rem_euclid-r.result in
    let none : r ≡ pos 0 = omega (arith, ints) in
    let some : m ≡ pos (nat_abs m) = omega (arith, ints) in
    let e = rest n m r c.ranges.n c.ranges.m c.rem_euclid-r.ensures.value in
    to_z-of_z w32 m c.ranges.m ∙ (some ∙ ap pos (sym (rem_none n m (omega (arith, ints)) (sym e ∙ none))))

pub returns-else-r-eq0 : goal.returns-else-r-eq0
returns-else-r-eq0 c =
    let n = c.args.n in
    let m = c.args.m in
    let r = c.rem_euclid-r.result in
    let e = rest n m r c.ranges.n c.ranges.m c.rem_euclid-r.ensures.value in
    to_z-of_z w32 r (record { sfits = c.rem_euclid-r.type_inv })
    ∙ (e ∙ rem_some n m (omega (arith, ints)) (λ z. c.if-r-eq0.false (ap (of_z w32) (e ∙ z))))
