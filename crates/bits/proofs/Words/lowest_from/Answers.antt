use Rattle.std.proofs.Common.{◌≡◌, ◌+◌, ◌*◌, ◌/◌, ◌%◌, ◌^◌, ◌<◌, ◌≤◌, length, get_or, sym, ap, ◌∙◌, subst, arith}
use Rattle.std.proofs.lemmas.Nat.{mod_below}
use Rattle.bits.specs.Bits.{bit}
use Rattle.bits.specs.Numbers.{from_on}
use Rattle.bits.proofs.Lows.{lowest_is_none}
use Rattle.bits.proofs.Lists.{low-here, none_here}
use Rattle.bits.proofs.Sets.{rest_at, length-rest, from-first, from_word, none_below}
use Rattle.bits.proofs.Words.lowest_from.Goals as goal

pub returns-then-w-ne0 : goal.returns-then-w-ne0
returns-then-w-ne0 g c =
    let s = c.args.self.now in
    let from = c.args.from in
    sym (low-here (from_on s from) (64 * g.row.N) (64 * (from / 64)) _ (mod_below _ _ (omega arith)) c.if-w-ne0.true (omega (arith, c.requires.at))
    (λ k h. none_below s.words from k (omega arith))
    (λ b l. from-first s.words from b l ∙ ap (λ ws. bit ((get_or ws (from / 64) 0 / 2 ^ (from % 64) * 2 ^ (from % 64)) % 2 ^ 64) b) (sym c.as_slice-words.ensures)))

pub loop-i-init : goal.loop-i-init
loop-i-init g c k h =
    let s = c.args.self.now in
    let from = c.args.from in
    none_here (from_on s from) (64 * (from / 64)) _ c.if-w-ne0.false
    (λ k h. none_below s.words from k (omega arith))
    (λ b l. from-first s.words from b l ∙ ap (λ ws. bit ((get_or ws (from / 64) 0 / 2 ^ (from % 64) * 2 ^ (from % 64)) % 2 ^ 64) b) (sym c.as_slice-words.ensures))
    k (omega arith)

pub returns-then-w-ne0-2 : goal.returns-then-w-ne0-2
returns-then-w-ne0-2 g c =
    let s = c.args.self.now in
    let from = c.args.from in
    let ws = c.as_slice-words.result.now in
    let j = from / 64 + 1 + c.loop-i.i in
    let long : length ws ≡ g.row.N = ap length c.as_slice-words.ensures ∙ s.whole in
    let here : j < g.row.N = omega (arith, c.loop-i-test.true, length-rest ws (from / 64 + 1)) in
    let same = rest_at ws (from / 64 + 1) c.loop-i.i ∙ ap (λ l. get_or l j 0) c.as_slice-words.ensures in
    sym (low-here (from_on s from) (64 * g.row.N) (64 * j) _ (subst (λ w. w < 2 ^ 64) (sym same) (s.fits j)) c.if-w-ne0-2.true (omega arith) c.loop-i.invariant
    (λ b l. from_word s.words from j b (omega arith) l ∙ ap (λ w. bit w b) (sym same)))

pub loop-i-preserved : goal.loop-i-preserved
loop-i-preserved g c k h =
    let s = c.args.self.now in
    let from = c.args.from in
    let ws = c.as_slice-words.result.now in
    let j = from / 64 + 1 + c.loop-i.i in
    let same = rest_at ws (from / 64 + 1) c.loop-i.i ∙ ap (λ l. get_or l j 0) c.as_slice-words.ensures in
    none_here (from_on s from) (64 * j) _ c.if-w-ne0-2.false c.loop-i.invariant (λ b l. from_word s.words from j b (omega arith) l ∙ ap (λ w. bit w b) (sym same)) k (omega arith)

pub returns : goal.returns
returns g c =
    let s = c.args.self.now in
    let from = c.args.from in
    let ws = c.as_slice-words.result.now in
    let long : length ws ≡ g.row.N = ap length c.as_slice-words.ensures ∙ s.whole in
    let all : g.row.N ≤ from / 64 + 1 + c.loop-i.i = omega (arith, c.loop-i-test.false, length-rest ws (from / 64 + 1)) in
    sym (lowest_is_none (from_on s from) (64 * g.row.N) (λ k h. c.loop-i.invariant k (omega arith)))
