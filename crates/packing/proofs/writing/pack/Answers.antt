use Rattle.std.proofs.Common.{◌≡◌, ℕ, ◌-◌, ◌+◌, ◌++◌, length, get_or, take, drop, refl, ap, ap₂, ◌∙◌, arith}
use Rattle.std.proofs.lemmas.List.{length-take-le, length-replicate}
use Rattle.packing.specs.Writing.{packed}
use Rattle.packing.proofs.Counts.{slots_small}
use Rattle.packing.proofs.Packings.{packed-same, part_at, part-long}
use Rattle.packing.proofs.writing.pack.Goals as goal

pub overflow_add-n : goal.overflow_add-n
overflow_add-n c = record { fits = omega (arith, slots_small c.args.range c.args.len, c.requires.few) }

pub slice_bounds-lay-end : goal.slice_bounds-lay-end
slice_bounds-lay-end c = omega (arith, slots_small c.args.range c.args.len, c.requires.few)

pub returns : goal.returns
returns c =
    let r = c.args.range in
    let h = c.args.head in
    let ns = c.args.numbers.now in
    let n = c.args.n in
    let len = c.args.len in
    let z = c.fill.ensures.after (λ y e. e) in
    let long : length (take len c.args.out.now) ≡ len = length-take-le len c.args.out.now (omega (arith, c.requires.held.most)) in
    let V : ℕ → ℕ = λ i. get_or (take (n + 1 - 1) (drop 1 ns)) (i - 1) 0 in
    ap₂ (λ a b. a ++ b)
    (c.lay.ensures
    ∙ ap₂ (packed r h V) (part-long ns n (omega (arith, slots_small c.args.range len, c.requires.few))) (ap length z ∙ length-replicate _ 0 ∙ long)
    ∙ packed-same r h V (λ i. get_or ns i 0) n len (part_at ns n))
    refl
