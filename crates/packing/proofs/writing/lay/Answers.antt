use Rattle.std.proofs.Common.{◌≡◌, ℕ, ◌-◌, ◌+◌, ◌||◌, length, get_or, sym, ap, subst, arith}
use Rattle.packing.specs.Ranges.{width_of, start_of}
use Rattle.packing.specs.Fields.{bit_at}
use Rattle.packing.specs.Writing.{stands, laid}
use Rattle.packing.proofs.Widths.{before-none}
use Rattle.packing.proofs.Counts.{place-near, slots-few, slots_small}
use Rattle.packing.proofs.Readings.{step_on}
use Rattle.packing.proofs.Packings.{packs, laid_none, laid-step}
use Rattle.packing.proofs.writing.lay.Goals as goal

pub loop-k-init : goal.loop-k-init
loop-k-init c =
    record {
      octets = c.put.ensures.octets;
      place = omega (arith, c.start-at.ensures, before-none (width_of c.args.range));
      bits = λ x h. sym (laid_none (width_of c.args.range) (start_of c.args.range) (bit_at c.put.new.out) (λ i. get_or c.args.numbers.now (i - 1) 0) x);
    }

pub width_at-wide-requires-clause-inside : goal.width_at-wide-requires-clause-inside
width_at-wide-requires-clause-inside c = omega (arith, slots-few c.args.range (length c.args.out.now), c.requires.packable.few)

-- the number of a turn is W(k + 1)
at-turn : (k : ℕ) → k + 1 - 1 ≡ k
at-turn k = omega arith

pub overflow_add-at : goal.overflow_add-at
overflow_add-at c =
    let r = c.args.range in
    record { fits = omega (arith, c.loop-k.invariant.place, place-near r c.loop-k.k (omega (arith, slots_small r (length c.args.out.now), c.requires.packable.few))) }

pub loop-k-preserved : goal.loop-k-preserved
loop-k-preserved c =
    let r = c.args.range in
    let k = c.loop-k.k in
    let ns = c.args.numbers.now in
    let v = c.loop-k.invariant in
    let w = c.width_at-wide.ensures in
    record {
      octets = c.put-in-loop-k.ensures.octets;
      place = step_on r k c.loop-k.at c.width_at-wide.result.bits v.place w;
      bits = λ x h.
          laid-step r (bit_at c.put.new.out) (λ i. get_or ns (i - 1) 0) k c.loop-k.at c.width_at-wide.result.bits (get_or ns k 0) x (bit_at c.loop-k.out x) (bit_at c.put-in-loop-k.new.out x)
          v.place w (ap (λ j. get_or ns j 0) (sym (at-turn k))) (v.bits x (omega arith)) (c.put-in-loop-k.ensures.bits x (omega arith));
    }

pub returns : goal.returns
returns c =
    let r = c.args.range in
    let n = length c.args.numbers.now in
    let len = length c.args.out.now in
    let W : ℕ → ℕ = λ i. get_or c.args.numbers.now (i - 1) 0 in
    let t : c.loop-k.k ≡ n = omega arith in
    let v = c.loop-k.invariant in
    packs r c.args.head W n len c.args.out.now c.put.new.out c.loop-k.out (omega arith) v.octets c.requires.zeros
    (λ x h. subst (λ w. bit_at c.put.new.out x ≡ (bit_at c.args.out.now x || stands 0 w c.args.head x)) c.start-at.ensures (c.put.ensures.bits x h))
    (λ x h. subst (λ m. bit_at c.loop-k.out x ≡ laid (width_of r) (start_of r) (bit_at c.put.new.out) W m x) t (v.bits x (omega arith)))
