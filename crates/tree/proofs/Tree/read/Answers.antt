use Rattle.std.proofs.Common.{◌≡◌, suc, ◌+◌, ◌-◌, ◌^◌, ◌≤◌, length, get_or, drop, ap, ◌∙◌, arith, pow_mono}
use native.Mathlib.Nat.{two-pow-succ}
use Rattle.std.proofs.lemmas.List.{get_or-drop, get_or-take}
use Rattle.tree.specs.Number.{entries}
use Rattle.tree.proofs.Spots.{level-below, reached}
use Rattle.tree.proofs.Lifts.{risen_none, risen_more, risen_all}
use Rattle.tree.proofs.Tree.read.Goals as goal

pub loop-l-init : goal.loop-l-init
loop-l-init c =
    let ys = c.copy_from_slice.new.self in
    let z = reached c.args.self.now.table.now c.args.self.now.width (length c.args.out.now) c.requires in
    let len : length ys ≡ length c.args.out.now = c.copy_from_slice.ensures.len in
    risen_none c.args.self.now.width (entries c.args.self.now.table.now) c.ilog2-l.result ys
    (λ j l.
    ap (λ t. get_or t j 0) c.copy_from_slice.ensures.after
    ∙ (get_or-take (length c.args.out.now + 1 - 1) (drop 1 c.args.self.now.table.now) j 0 (omega arith)
    ∙ (get_or-drop 1 c.args.self.now.table.now j 0 ∙ ap (entries c.args.self.now.table.now) (let q : 1 + j ≡ j + 1 = omega arith in q))))
    (omega (arith, two-pow-succ c.ilog2-l.result)) (omega (arith, z.1))

pub lift-requires : goal.lift-requires
lift-requires c =
    let z = reached c.args.self.now.table.now c.args.self.now.width (length c.args.out.now) c.requires in
    let top = level-below (suc c.args.self.now.width) c.ilog2-l.result (length c.args.out.now + 1) c.ilog2-l.ensures.power_le (omega (arith, z.1, two-pow-succ c.args.self.now.width)) in
    let l = c.loop-l.l in
    let e : 2 ^ suc (l - 1) ≡ 2 ^ l = ap (λ x. 2 ^ x) (let z : suc (l - 1) ≡ l = omega arith in z) in
    let m : 2 ^ l ≤ 2 ^ c.ilog2-l.result = pow_mono c.loop-l.auto.l in
    record { level = omega arith; below = omega (arith, c.copy_from_slice.ensures.len); there = omega (arith, z.2, c.copy_from_slice.ensures.len) }

pub loop-l-preserved : goal.loop-l-preserved
loop-l-preserved c =
    let z = reached c.args.self.now.table.now c.args.self.now.width (length c.args.out.now) c.requires in
    risen_more c.args.self.now.width (entries c.args.self.now.table.now) c.loop-l.l c.loop-l.out c.lift.new.out c.loop-l.invariant c.loop-l-test.true (omega (arith, z.1, c.copy_from_slice.ensures.len)) c.lift.auto.out c.lift.ensures

pub returns : goal.returns
returns c = risen_all c.args.self.now.width (entries c.args.self.now.table.now) c.loop-l.l c.loop-l.out c.loop-l-test.false c.loop-l.invariant
