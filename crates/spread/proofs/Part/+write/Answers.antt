use Rattle.std.proofs.Common.{◌≡◌, ℕ, suc, ◌+◌, ◌-◌, ◌*◌, Bool, List, length, get_or, set, sym, refl, ap, ◌∙◌, subst, ap₂, arith}
use Rattle.std.proofs.lemmas.List.{length-set}
use Rattle.tree.specs.Written.{full, pivot, written}
use Rattle.spread.specs.Members.{Listed, among}
use Rattle.spread.specs.Steps.{Beside, Filled, Parted, around}
use Rattle.spread.proofs.Turned.{alone, left-written, right-written}
use Rattle.spread.proofs.Sizes.{node}
use Rattle.spread.proofs.Tables.{all-filled, all_beside, one-filled, root-room, left-room, right-room}
use Rattle.spread.proofs.Part.+write.Goals as goal

pub returns-then-n-eq1-clause-here : goal.returns-then-n-eq1-clause-here
returns-then-n-eq1-clause-here t c =
    let xs = c.args.members.now in
    let w = c.args.self.width in
    let s = c.args.self.stride in
    let r = c.args.self.rest in
    let z = node w xs c.requires.listed c.if-n-eq0.false in
    let S : ℕ → Bool = among xs in
    let p : ℕ = get_or xs 0 0 in
    one-filled (length xs) s r p c.if-n-eq1.true c.args.table.now (root-room (length xs) s r _ z.some c.requires.long) _
    (ap (λ x. set c.args.table.now x p) c.root-at.ensures) (written w S)
    (ap (λ x. written x S 1) (sym z.width) ∙ sym (alone (full w) (full (w - 1)) _ xs c.requires.listed z.all refl c.if-n-eq1.true))

pub invariant_of-lowest : goal.invariant_of-lowest
invariant_of-lowest t c =
    let xs = c.args.members.now in
    let z = node c.args.self.width xs c.requires.listed c.if-n-eq0.false in
    record { listed = subst (λ m. Listed m xs) (z.all ∙ ap around (sym c.circle-circle.ensures)) c.requires.listed }

pub write-requires : goal.write-requires
write-requires t c =
    let xs = c.args.members.now in
    let z = node c.args.self.width xs c.requires.listed c.if-n-eq0.false in
    let q = c.parts-right.ensures in
    let e = c.right.ensures in (
      omega (arith, c.decreases, z.wide, e.width),
      (
        subst (λ h. Listed h c.parts-right.result.0.now) (c.circle-circle.ensures ∙ ap full (sym e.width)) q.rlisted,
        omega (arith, right-room (length xs) c.args.self.stride c.args.self.rest _ z.some c.requires.long, ap₂ ◌*◌ q.rsize e.stride, e.rest, length-set {A = ℕ}),
      ),
    )

pub write-requires-2 : goal.write-requires-2
write-requires-2 t c =
    let xs = c.args.members.now in
    let z = node c.args.self.width xs c.requires.listed c.if-n-eq0.false in
    let q = c.parts-right.ensures in
    let e = c.left.ensures in (
      omega (arith, c.decreases, z.wide, e.width),
      (
        subst (λ h. Listed h c.parts-right.result.1.now) (c.circle-circle.ensures ∙ ap full (sym e.width)) q.llisted,
        omega (arith, left-room (length xs) c.args.self.stride c.args.self.rest _ z.some c.requires.long, ap₂ ◌*◌ q.lsize e.stride, e.rest, c.write.auto.table, length-set {A = ℕ}),
      ),
    )

pub returns : goal.returns
returns t c =
    let xs = c.args.members.now in
    let w = c.args.self.width in
    let s = c.args.self.stride in
    let r = c.args.self.rest in
    let z = node w xs c.requires.listed c.if-n-eq0.false in
    let v : ℕ = w - 1 in
    let p : ℕ = get_or xs c.lowest-j.result 0 in
    let us : List ℕ = c.parts-right.result.0.now in
    let vs : List ℕ = c.parts-right.result.1.now in
    let q : Parted (full v) p xs us vs = subst (λ h. Parted h p xs us vs) c.circle-circle.ensures c.parts-right.ensures in
    let root : p ≡ pivot (full v) (among xs) = c.lowest-j.ensures.pivot ∙ ap (λ h. pivot h (among xs)) c.circle-circle.ensures in
    let t0 = c.args.table.now in
    let t1 : List ℕ = set t0 c.root-at.result p in
    let t2 : List ℕ = c.write.new.table in
    let t3 : List ℕ = c.write-2.new.table in
    let er = c.right.ensures in
    let el = c.left.ensures in
    let here-r : Filled t2 (length us) (2 * s) (s + r) (written v (among us)) = rw (← er.width, ← er.stride, ← er.rest) c.write.ensures.here in
    let beside-r : Beside t1 t2 (length us) (2 * s) (s + r) = rw (← er.stride, ← er.rest) c.write.ensures.beside in
    let here-l : Filled t3 (length vs) (2 * s) r (written v (among vs)) = rw (← el.width, ← el.stride, ← el.rest) c.write-2.ensures.here in
    let beside-l : Beside t2 t3 (length vs) (2 * s) r = rw (← el.stride, ← el.rest) c.write-2.ensures.beside in
    let ve : length vs ≡ length xs - 1 - length us = q.lsize ∙ ap (λ a. length xs - 1 - a) (sym q.rsize) in
    let t1e : t1 ≡ set t0 (s + r) p = ap (λ x. set t0 x p) c.root-at.ensures in
    let within = root-room (length xs) s r (length t0) z.some c.requires.long in
    record {
      here =
          subst (λ x. Filled t3 (length xs) s r (written x (among xs))) z.width
          (all-filled (length xs) (length us) (length vs) s r p z.some (omega arith) q.rsize ve t0 t1 t1e within t2 (written v (among us)) here-r beside-r t3 (written v (among vs)) here-l beside-l
          (written (suc v) (among xs)) (sym root) (left-written v p xs us vs q root) (right-written v p xs us vs q root));
      beside = all_beside (length xs) (length us) (length vs) s r p z.some (omega arith) q.rsize ve t0 t1 t1e within t2 (written v (among us)) here-r beside-r t3 (written v (among vs)) here-l beside-l;
    }
