use Rattle.std.proofs.Common.{◌≡◌, ℕ, ◌+◌, ◌-◌, ◌<◌, eqb, List, length, if◌then◌else◌, Ok, Err, Some, Result, suc, sym, ap, ◌∙◌, subst, ⊎_elim, arith}
use Rattle.faults.specs.declared.FormatFault.{FormatFault}
use Rattle.faults.specs.declared.FormatFault.TheVariants.{NumberAfterNull}
use Rattle.std.specs.List.{list_all}
use Rattle.packing.specs.declared.Range.{Range}
use Rattle.std.proofs.lemmas.Bool.{cases_eq}
use Rattle.packing.specs.Reading.{number_in, numbers_from, slots_in, first_null, unpacked, leading, filled, Unpacked}
use Rattle.packing.proofs.Counts.{slots_small}
use Rattle.packing.proofs.Readings.{front_is, none-left, behind-null, first_is, first-none, unpacked-first, unpacked-all, leading-first, leading-all, filled_means, filled_none, filled_more}
use Rattle.packing.proofs.Trips.{trip, only, heads, reads, again, behind}
use Rattle.packing.proofs.Widths.{level_is}
use Rattle.packing.proofs.reading.unpack.Goals as goal

pub loop-number-init : goal.loop-number-init
loop-number-init c =
    let r = c.args.range in
    let os = c.args.contents.now in
    let e : slots_in r os ≡ slots_in r os - 0 = omega arith in
    record {
      few = omega arith;
      left = c.of-rest.ensures ∙ ap (numbers_from r os 1) e;
      table = filled_none (number_in r os) c.args.numbers.now;
      some = λ m a b z. omega arith;
    }

-- what the first null says
module _ (r : Range) (os xs ys : List ℕ) (n : ℕ) (a : Result ℕ FormatFault) where
  record Answered : Type 0 where
    value : a ≡ unpacked r os
    table : ys ≡ filled (number_in r os) (leading r os) xs
    meaning : Unpacked r os ys a

  answered : a ≡ unpacked r os → n ≡ leading r os → ys ≡ filled (number_in r os) n xs → n < length xs → Answered
  answered e l q h = record {
    value = e;
    table = q ∙ ap (λ m. filled (number_in r os) m xs) l;
    meaning = subst (λ x. Unpacked r os ys x) (sym e) (filled_means r os ys xs n l h q);
  }

pub behind_null-requires : goal.behind_null-requires
behind_null-requires c = omega (arith, slots_small c.args.range (length c.args.contents.now), c.loop-number.invariant.few)

pub returns-then-number-eq0 : goal.returns-then-number-eq0
returns-then-number-eq0 c =
    let r = c.args.range in
    let os = c.args.contents.now in
    let n = c.loop-number.n in
    let v = c.loop-number.invariant in
    let f = front_is r os (n + 1) (slots_in r os - n) c.in-Some.number _ (sym v.left ∙ c.in-Some.ensures.steps) in
    let s = f.some in
    let t : n + 1 - 1 ≡ n = omega arith in
    let found : first_null r os ≡ Some n = first_is r os (n + 1) (omega arith) (omega arith) (sym f.first ∙ c.if-number-eq0.true) (λ j a b. v.some j a (omega arith)) ∙ ap Some t in
    let e : c.behind_null.result ≡ unpacked r os =
    c.behind_null.ensures ∙ ap (λ ws. if list_all (λ w. eqb w 0) ws then Ok n else Err (NumberAfterNull (suc n))) f.others
    ∙ behind-null r os n (slots_in r os - n - 1) (omega arith) ∙ unpacked-first r os n found in
    let d = answered r os c.args.numbers.now c.loop-number.numbers n c.behind_null.result e (leading-first r os n found) v.table (omega (arith, slots_small r (length os))) in
    record { value = d.value; table = d.table; meaning = d.meaning; trip = trip; levels = level_is; only = only; heads = heads; reads = reads; again = again; behind = behind }

pub overflow_add-n : goal.overflow_add-n
overflow_add-n c = record { fits = omega (arith, slots_small c.args.range (length c.args.contents.now), c.loop-number.invariant.few) }

pub bounds-numbers-n : goal.bounds-numbers-n
bounds-numbers-n c =
    let v = c.loop-number.invariant in
    let f = front_is c.args.range c.args.contents.now (c.loop-number.n + 1) (slots_in c.args.range c.args.contents.now - c.loop-number.n) c.in-Some.number _ (sym v.left ∙ c.in-Some.ensures.steps) in
    omega (arith, slots_small c.args.range (length c.args.contents.now), f.some)

pub loop-number-smaller : goal.loop-number-smaller
loop-number-smaller c =
    let v = c.loop-number.invariant in
    let f = front_is c.args.range c.args.contents.now (c.loop-number.n + 1) (slots_in c.args.range c.args.contents.now - c.loop-number.n) c.in-Some.number _ (sym v.left ∙ c.in-Some.ensures.steps) in
    omega (arith, f.some)

pub loop-number-preserved : goal.loop-number-preserved
loop-number-preserved c =
    let r = c.args.range in
    let os = c.args.contents.now in
    let n = c.loop-number.n in
    let v = c.loop-number.invariant in
    let f = front_is r os (n + 1) (slots_in r os - n) c.in-Some.number _ (sym v.left ∙ c.in-Some.ensures.steps) in
    let m : slots_in r os - n - 1 ≡ slots_in r os - (n + 1) = omega arith in
    record {
      few = omega (arith, f.some);
      left = f.others ∙ ap (numbers_from r os (n + 1 + 1)) m;
      table = filled_more (number_in r os) n c.in-Some.number c.args.numbers.now c.loop-number.numbers v.table f.first;
      some = λ m a b z. ⊎_elim (λ same. c.if-number-eq0.false (f.first ∙ ap (number_in r os) (sym same) ∙ z)) (λ other. v.some m a (omega arith) z) (cases_eq m (n + 1));
    }

pub returns : goal.returns
returns c =
    let r = c.args.range in
    let os = c.args.contents.now in
    let n = c.loop-number.n in
    let v = c.loop-number.invariant in
    let z = none-left r os (n + 1) (slots_in r os - n) (sym v.left ∙ c.in_default.ensures.steps.0) in
    let t : n ≡ slots_in r os = omega (arith, v.few) in
    let f = first-none r os (λ j a b. v.some j a (omega arith)) in
    let d = answered r os c.args.numbers.now c.loop-number.numbers n (Ok n) (ap Ok t ∙ unpacked-all r os f) (t ∙ leading-all r os f) v.table (omega (arith, slots_small r (length os))) in
    record { value = d.value; table = d.table; meaning = d.meaning; trip = trip; levels = level_is; only = only; heads = heads; reads = reads; again = again; behind = behind }
