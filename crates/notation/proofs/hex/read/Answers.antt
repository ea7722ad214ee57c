use Rattle.std.proofs.Common.{◌<◌, ◌-◌, [], ◌∷◌, length, take, drop, length-drop, vec_items, sym, refl, ap, ◌∙◌, arith}
use Rattle.std.proofs.lemmas.Slice.{pushed}
use Rattle.std.proofs.lemmas.List.{take_rest}
use Rattle.notation.specs.Octets.{before, octets_from}
use Rattle.notation.proofs.Hexes.{end_next, after_blank, end_last, after_pair}
use Rattle.notation.proofs.hex.read.Goals as goal

pub loop-first-preserved-then-is_blank : goal.loop-first-preserved-then-is_blank
loop-first-preserved-then-is_blank c =
    let text = c.args.text.now in
    let rest = c.loop-first.rest.now in
    let first = c.in-Some.first.now in
    let behind = c.in-Some.behind.now in
    let told = c.loop-first.invariant in
    let is = c.in-Some.ensures.cases.0 in
    record {
      short = omega (arith, ap length is);
      end = end_next text rest behind first told.short told.end is;
      octets = after_blank text rest behind first told.short told.end is (vec_items c.loop-first.octets) (sym c.if-is_blank.ensures) ∙ told.octets;
    }

pub loop-first-preserved : goal.loop-first-preserved
loop-first-preserved c =
    let text = c.args.text.now in
    let rest = c.loop-first.rest.now in
    let first = c.in-Some.first.now in
    let behind = c.in-Some.behind.now in
    let told = c.loop-first.invariant in
    let is = c.in-Some.ensures.cases.0 in
    let some : 0 < length behind = omega (arith, ap length is, c.in_ok-octet_at.ensures.whole) in
    let put = pushed (c.in_ok-octet_at.field-0 ∷ []) refl c.in_ok-push.was c.push.ensures.items in
    let new = take (length behind - 1) (drop 1 behind) in
    record {
      short = omega (arith, ap length is, ap length (take_rest behind 1), length-drop 1 behind);
      end = end_last text rest behind first told.short told.end is new (take_rest behind 1) some;
      octets =
          ap (λ l. before l (octets_from (length text - length new) new)) put
          ∙ after_pair text rest behind first told.short told.end is new (take_rest behind 1) some (vec_items c.loop-first.octets) c.in_ok-octet_at.field-0 (sym c.if-is_blank.ensures) c.in_ok-octet_at.ensures.value ∙ told.octets;
    }
