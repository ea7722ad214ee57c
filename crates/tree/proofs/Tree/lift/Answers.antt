use Rattle.std.proofs.Common.{◌≡◌, ℕ, suc, ◌-◌, ◌*◌, ◌%◌, ◌^◌, length, ap, ◌∙◌, arith}
use native.Mathlib.Nat.{two-pow-succ}
use borrow.Author.Count.{below_more}
use Rattle.std.proofs.lemmas.List.{get_or-set_same, get_or-set_other, length-take-le, length-drop}
use Rattle.std.proofs.lemmas.Nat.{shl_whole}
use Rattle.tree.specs.Number.{entries}
use Rattle.tree.specs.Steps.{up}
use Rattle.tree.proofs.Lifts.{lifted-part}
use Rattle.tree.proofs.Tree.lift.Goals as goal

pub loop-j-preserved : goal.loop-j-preserved
loop-j-preserved c =
    let inv = c.loop-j.invariant in
    let j = c.loop-j.j in
    let xs = c.loop-j.n-items in
    let t = c.args.self.now in
    record {
      lifted =
          below_more _ j (λ i l. get_or-set_other xs j i c.up.result 0 (omega arith) ∙ inv.lifted i l)
          (get_or-set_same xs j c.up.result 0 (omega arith) ∙ (c.up.ensures ∙ ap (up t.width (entries t.table.now) c.args.l _) (inv.left j (omega arith))));
      left = λ i l. get_or-set_other xs j i c.up.result 0 (omega arith) ∙ inv.left i (omega arith);
    }

pub returns : goal.returns
returns c =
    let l = c.args.l in
    let t = c.args.self.now in
    let first : (2 * 2 ^ l) % 18446744073709551616 ≡ 2 ^ suc l = shl_whole 2 2 l 64 (omega arith) (omega arith) ∙ (let z : 2 * 2 ^ l ≡ 2 ^ suc l = omega (arith, two-pow-succ l) in z) in
    let long : length c.loop-j.n-items ≡ length c.args.out.now - ((2 * 2 ^ l) % 18446744073709551616 - 1) = omega (arith, length-take-le {A = ℕ}, length-drop {A = ℕ}) in
    lifted-part t.width (entries t.table.now) l _ c.args.out.now c.loop-j.n-items first (omega arith) long (λ i h. c.loop-j.invariant.lifted i (omega arith))
