use Rattle.std.proofs.Common.{◌≡◌, ◌+◌, ap, sym, ◌∙◌, rules}
use Rattle.std.specs.List.{prefix_len}
use Rattle.std.proofs.lemmas.List.{take_rest}
use Rattle.notation.specs.Octets.{blank}
use Rattle.plans.specs.Words.{solid, begins, ends}
use Rattle.plans.proofs.Steps.{not_found, no_word, next_words}
use Rattle.plans.proofs.words.WordsIterator.next.Goals as goal

pub returns-then-end-start-clause-steps : goal.returns-then-end-start-clause-steps
returns-then-end-start-clause-steps c =
    let bs = c.self.inside.line.now in
    let i = c.self.inside.at in
    let start = i + c.blanks.result in
    let begin : start ≡ begins bs i = ap (λ k. i + k) (c.blanks.ensures.value ∙ ap (prefix_len blank) (take_rest bs i)) in
    let end : start + c.solids.result ≡ ends bs start = ap (λ k. start + k) (c.solids.ensures.value ∙ ap (prefix_len solid) (take_rest bs start)) in
    let none = sym c.self.view_is ∙ no_word bs i c.self.invariant (not_found bs i start _ begin end c.if-end-start.true) in
    (none, none)

pub returns-clause-steps : goal.returns-clause-steps
returns-clause-steps c =
    let bs = c.self.inside.line.now in
    let i = c.self.inside.at in
    let start = i + c.blanks.result in
    let begin : start ≡ begins bs i = ap (λ k. i + k) (c.blanks.ensures.value ∙ ap (prefix_len blank) (take_rest bs i)) in
    let end : start + c.solids.result ≡ ends bs start = ap (λ k. start + k) (c.solids.ensures.value ∙ ap (prefix_len solid) (take_rest bs start)) in
    sym c.self.view_is ∙ next_words bs i start _ begin end c.self.invariant c.if-end-start.false

pub returns-clause-goes : goal.returns-clause-goes
returns-clause-goes c =
    let steps = returns-clause-steps c in
    search rules
