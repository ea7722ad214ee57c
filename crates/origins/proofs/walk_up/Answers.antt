use Rattle.std.proofs.Common.{◌≡◌, ℕ, Bool, true, false, Some, None, Option, sym, refl, ap, ◌∙◌, ap₂, arith}
use Rattle.std.specs.Option.{option_or}
use Rattle.std.specs.Bool.{then_some}
use Rattle.bits.specs.Lowest.{or_else}
use Rattle.bits.proofs.Lows.{lowest-some}
use Rattle.channels.specs.Sets.{holds}
use Rattle.origins.specs.Origins.{or_lowest}
use Rattle.origins.proofs.Reach.{member_below}
use Rattle.origins.proofs.Walks.{next_is, later-none, later_more, later-all}
use Rattle.origins.proofs.walk_up.Goals as goal

either : (o : Option ℕ) (b : Bool) (c : ℕ) → option_or o (then_some b c) ≡ or_else o b c
either (Some k) b c = refl
either None true c = refl
either None false c = refl

pub loop-c-init : goal.loop-c-init
loop-c-init c =
    let s = c.args.set.now in
    record { held = (lowest-some (holds s) 1024 c.args.lowest c.requires).passes; up = omega arith; later = sym (later-none s c.args.reach c.args.lowest) }

pub loop-c-smaller : goal.loop-c-smaller
loop-c-smaller c =
    let s = c.args.set.now in
    let n = next_is s c.loop-c.highest c.in-Some.c (sym c.in-Some.ensures) in
    omega (arith, n.up, n.below)

pub loop-c-preserved : goal.loop-c-preserved
loop-c-preserved c =
    let s = c.args.set.now in
    let p = c.loop-c.highest in
    let at = c.in-Some.c in
    let v = c.loop-c.invariant in
    let e = sym c.in-Some.ensures in
    let n = next_is s p at e in
    record {
      held = n.held;
      up = omega (arith, n.up, v.up);
      later = c.or-later.ensures ∙ ap (option_or c.loop-c.later) c.then_some.ensures ∙ either c.loop-c.later c.serves.result at
          ∙ ap₂ (λ o b. or_else o b at) v.later c.serves.ensures ∙ sym (later_more s c.args.reach c.args.lowest p at v.up e);
    }

pub returns : goal.returns
returns c =
    let s = c.args.set.now in
    let p = c.loop-c.highest in
    let v = c.loop-c.invariant in
    let e = sym c.in_default.ensures in
    record {
      last = record { held = v.held; next = ap (or_lowest s) e ∙ c.requires };
      later = v.later ∙ later-all s c.args.reach c.args.lowest p (member_below s p v.held) e;
    }
