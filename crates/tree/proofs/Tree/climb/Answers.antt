use Rattle.std.proofs.Common.{◌≡◌, ℕ, suc, ◌-◌, ◌^◌, ◌≤◌, ap, arith, pow_mono}
use Rattle.tree.specs.Number.{entries, number}
use Rattle.tree.proofs.Spots.{climb_own, climb-down, level-below, reached}
use Rattle.tree.proofs.Tree.climb.Goals as goal

pub loop-l-init : goal.loop-l-init
loop-l-init c =
    let r = reached c.args.self.now.table.now c.args.self.now.width c.args.place c.requires.there in
    climb_own c.args.self.now.width (entries c.args.self.now.table.now) c.ilog2-l.result c.args.place c.ilog2-l.ensures.power_le c.ilog2-l.ensures.next_power_gt r.1

pub up-n-requires : goal.up-n-requires
up-n-requires c =
    let r = reached c.args.self.now.table.now c.args.self.now.width c.args.place c.requires.there in
    let l = c.loop-l.l in
    let top = level-below c.args.self.now.width c.ilog2-l.result c.args.place c.ilog2-l.ensures.power_le r.1 in
    let e : 2 ^ suc (l - 1) ≡ 2 ^ l = ap (λ x. 2 ^ x) (let z : suc (l - 1) ≡ l = omega arith in z) in
    let m : 2 ^ l ≤ 2 ^ c.ilog2-l.result = pow_mono c.loop-l.auto.l in
    record { level = omega arith; below = omega arith; there = r.2 }

pub loop-l-preserved : goal.loop-l-preserved
loop-l-preserved c =
    let k = c.args.self.now.width in
    let W : ℕ → ℕ = entries c.args.self.now.table.now in
    climb-down k W c.loop-l.l c.args.place c.loop-l.n c.up-n.result (number k W c.args.place) c.loop-l-test.true c.up-n.ensures c.loop-l.invariant
