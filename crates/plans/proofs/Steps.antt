-- The words of a line, one by one.
use Rattle.std.proofs.Common.{◌≡◌, ℕ, zero, suc, ◌+◌, ◌-◌, ◌<◌, ◌≤◌, Bool, true, false, cond, eqb, List, [], ◌∷◌, length, drop, IfSome, Some, None, Option, sym, refl, ap, ◌∙◌, subst, arith, length-drop}
use Rattle.std.specs.List.{AllByRecursion}
use Rattle.std.proofs.lemmas.List.{length-take}
use Rattle.std.proofs.lemmas.List.Sums.{prefix_len-le-length, prefix_len-drop_all}
use Rattle.std.proofs.lemmas.Bool.{cond-true, cond-false, eqb-false, eq-eqb, ne_eqb}
use Rattle.notation.specs.Octets.{blank}
use Rattle.plans.specs.Pieces.{Piece}
use Rattle.plans.specs.Words.{solid, begins, ends, word, end_of, next_word, words_from, words_after, words_of}

-- where a word lies that was found from i on
pub record Lies (bs : List ℕ) (i : ℕ) (w : Piece) : Type 0 where
  pub after : i ≤ w.start
  pub some : w.start < end_of w
  pub within : end_of w ≤ length bs

begins-within : (bs : List ℕ) (i : ℕ) → i ≤ length bs → begins bs i ≤ length bs
begins-within bs i h = omega (arith, prefix_len-le-length blank (drop i bs), length-drop i bs)

ends-within : (bs : List ℕ) (i : ℕ) → i ≤ length bs → ends bs i ≤ length bs
ends-within bs i h = omega (arith, prefix_len-le-length solid (drop i bs), length-drop i bs)

end_of-word : (bs : List ℕ) (a b : ℕ) → a ≤ b → b ≤ length bs → end_of (word bs a b) ≡ b
end_of-word bs a b h k = omega (arith, length-take (b - a) (drop a bs), length-drop a bs)

pub lies : (bs : List ℕ) (i : ℕ) → i ≤ length bs → IfSome (next_word bs i) (Lies bs i)
unfolding next_word
lies bs i h = by (eqb (ends bs (begins bs i)) (begins bs i)) refl
  where
    by : (b : Bool) → eqb (ends bs (begins bs i)) (begins bs i) ≡ b → IfSome (cond b None (Some (word bs (begins bs i) (ends bs (begins bs i))))) (Lies bs i)
    by true e = tt
    by false e =
        let within = ends-within bs (begins bs i) (begins-within bs i h) in
        let end = end_of-word bs (begins bs i) (ends bs (begins bs i)) (omega arith) within in
        record {
          after = omega arith;
          some = omega (arith, eqb-false (ends bs (begins bs i)) (begins bs i) e);
          within = omega arith;
        }

pub none-past : (bs : List ℕ) (i : ℕ) → length bs ≤ i → next_word bs i ≡ None
unfolding next_word
none-past bs i h =
    let a = prefix_len-drop_all blank bs i h in
    let b = prefix_len-drop_all solid bs (begins bs i) (omega arith) in
    cond-true _ _ _ (eq-eqb (ends bs (begins bs i)) (begins bs i) (omega arith))

module _ (bs : List ℕ) where
  from-by : ℕ → ℕ → Option Piece → List Piece
  from-by k i (Some w) = w ∷ words_from k bs (end_of w)
  from-by k i None = []

  from_is : (k i : ℕ) → words_from (suc k) bs i ≡ from-by k i (next_word bs i)
  unfolding from-by
  from_is k i = by (next_word bs i)
    where
      by : (o : Option Piece) → elim o [ Some w ↦ w ∷ words_from k bs (end_of w) | None ↦ [] ] ≡ from-by k i o
      by (Some w) = refl
      by None = refl

  none_left : (k i : ℕ) → length bs ≤ i → words_from k bs i ≡ []
  unfolding from-by
  none_left zero i h = refl
  none_left (suc k) i h = from_is k i ∙ ap (from-by k i) (none-past bs i h)

  same_by : (k m i : ℕ) (o : Option Piece) → IfSome o (Lies bs i) → ((w : Piece) → Lies bs i w → words_from k bs (end_of w) ≡ words_from m bs (end_of w)) → from-by k i o ≡ from-by m i o
  unfolding from-by
  same_by k m i None l more = refl
  same_by k m i (Some w) l more = ap (λ ws. w ∷ ws) (more w l)

  -- more turns than bytes change nothing
  enough : (k m i : ℕ) → i ≤ length bs → length bs ≤ i + k → length bs ≤ i + m → words_from k bs i ≡ words_from m bs i
  enough zero m i h a b = sym (none_left m i (omega arith))
  enough (suc k) zero i h a b = none_left (suc k) i (omega arith)
  enough (suc k) (suc m) i h a b =
      from_is k i
      ∙ same_by k m i (next_word bs i) (lies bs i h) (λ w l. enough k m (end_of w) l.within (omega (arith, l.after, l.some)) (omega (arith, l.after, l.some)))
      ∙ sym (from_is m i)

  pub no_word : (i : ℕ) → i ≤ length bs → next_word bs i ≡ None → words_after bs i ≡ []
  unfolding from-by
  no_word i h e = enough (length bs - i) (suc (length bs)) i h (omega arith) (omega arith) ∙ from_is (length bs) i ∙ ap (from-by (length bs) i) e

  pub one_word : (i : ℕ) (w : Piece) → i ≤ length bs → next_word bs i ≡ Some w → words_after bs i ≡ w ∷ words_after bs (end_of w)
  unfolding from-by
  one_word i w h e =
      let l : Lies bs i w = subst (λ o. IfSome o (Lies bs i)) e (lies bs i h) in
      enough (length bs - i) (suc (length bs)) i h (omega arith) (omega arith) ∙ from_is (length bs) i ∙ ap (from-by (length bs) i) e
      ∙ ap (λ ws. w ∷ ws) (enough (length bs) (length bs - end_of w) (end_of w) l.within (omega arith) (omega (arith, l.within)))

  -- no word ends past the line
  all_by : (k i : ℕ) (o : Option Piece) → IfSome o (Lies bs i) → ((w : Piece) → Lies bs i w → AllByRecursion (λ v. end_of v ≤ length bs) (words_from k bs (end_of w))) → AllByRecursion (λ v. end_of v ≤ length bs) (from-by k i o)
  unfolding from-by
  all_by k i None l more = tt
  all_by k i (Some w) l more = (l.within, more w l)

  all_within : (k i : ℕ) → i ≤ length bs → AllByRecursion (λ v. end_of v ≤ length bs) (words_from k bs i)
  all_within zero i h = tt
  all_within (suc k) i h = subst (AllByRecursion (λ v. end_of v ≤ length bs)) (sym (from_is k i)) (all_by k i (next_word bs i) (lies bs i h) (λ w l. all_within k (end_of w) l.within))

  pub words_within : AllByRecursion (λ v. end_of v ≤ length bs) (words_of bs)
  words_within = all_within (length bs - 0) 0 (omega arith)

-- where a word from i on begins and ends
module _ (bs : List ℕ) (i s e : ℕ) (begin : s ≡ begins bs i) (end : e ≡ ends bs s) where
  at : next_word bs i ≡ cond (eqb e s) None (Some (word bs s e))
  unfolding next_word
  at =
      (λ j. cond (eqb (ends bs (sym begin j)) (sym begin j)) None (Some (word bs (sym begin j) (ends bs (sym begin j)))))
      ∙ (λ j. cond (eqb (sym end j) s) None (Some (word bs s (sym end j))))

  pub not_found : e ≡ s → next_word bs i ≡ None
  not_found same = at ∙ cond-true _ _ _ (eq-eqb e s same)

  pub next_words : i ≤ length bs → (e ≡ s → ⊥) → words_after bs i ≡ word bs s e ∷ words_after bs e
  next_words h apart =
      let found = at ∙ cond-false _ _ _ (ne_eqb e s apart) in
      let inside : s ≤ length bs = omega (arith, begins-within bs i h) in
      let within : e ≤ length bs = omega (arith, ends-within bs s inside) in
      one_word bs i (word bs s e) h found ∙ ap (λ k. word bs s e ∷ words_after bs k) (end_of-word bs s e (omega arith) within)
