-- A range whose low end, dash and high end stand in this order.
use Rattle.std.proofs.Common.{◌≡◌, ℕ, ◌+◌, ◌-◌, List, length, get_or, take, drop, sym, ap, ◌∙◌, subst}
use Rattle.std.proofs.lemmas.List.{take_rest}
use Rattle.std.proofs.lemmas.Bool.{cond-true, cond-false, eq-eqb, ne_eqb}
use Rattle.notation.specs.Numbers.{amount, digits, number_of, high_of, span_of}

pub span-range : (w : List ℕ) (low end : ℕ) → low ≡ amount 0 w → end ≡ digits w → (end ≡ 0 → ⊥) → (end ≡ length w → ⊥) → get_or w end 0 ≡ 45 → high_of low (end + 1) (number_of (take (length w - (end + 1)) (drop (end + 1) w))) ≡ span_of w
span-range w low end a e some more dash =
    ap (λ l. high_of low (end + 1) (number_of l)) (take_rest w (end + 1))
    ∙ subst (λ n. high_of n (end + 1) (number_of (drop (end + 1) w)) ≡ span_of w) (sym a)
    (subst (λ k. high_of (amount 0 w) (k + 1) (number_of (drop (k + 1) w)) ≡ span_of w) (sym e)
    (sym
    (cond-false _ _ _ (ne_eqb (digits w) 0 (λ z. some (e ∙ z)))
    ∙ cond-false _ _ _ (ne_eqb (digits w) (length w) (λ z. more (e ∙ z)))
    ∙ cond-true _ _ _ (eq-eqb (get_or w (digits w) 0) 45 (ap (λ k. get_or w k 0) (sym e) ∙ dash)))))
