-- Octets read from the front of a text.
use Rattle.std.proofs.Common.{◌≡◌, ℕ, ◌+◌, ◌-◌, ◌<◌, ◌≤◌, true, false, List, [], ◌∷◌, ◌++◌, length, get_or, drop, length-drop, Ok, Err, Result, sym, refl, ap, ◌∙◌, append_assoc, arith}
use Rattle.std.proofs.lemmas.List.{get_or-drop, drop-drop}
use Rattle.std.proofs.lemmas.Bool.{cond-true, cond-false}
use Rattle.notation.specs.declared.WordFault.{WordFault}
use Rattle.notation.specs.Numbers.{and_then}
use Rattle.notation.specs.Octets.{blank, pair_at, before, octets_from}

-- one step of a reading, at the front of a text
pub skip_blank : (at c : ℕ) (cs : List ℕ) → blank c ≡ true → octets_from at (c ∷ cs) ≡ octets_from (at + 1) cs
skip_blank at c [] e = cond-true _ _ _ e
skip_blank at c (d ∷ cs) e = cond-true _ _ _ e

pub take_pair : (at c : ℕ) (cs : List ℕ) → blank c ≡ false → octets_from at (c ∷ cs) ≡ and_then (pair_at at c (get_or cs 0 0)) (λ o. before (o ∷ []) (octets_from (at + 2) (drop 1 cs)))
take_pair at c [] e = cond-false _ _ _ e
take_pair at c (d ∷ cs) e = cond-false _ _ _ e

pub before-before : (os ps : List ℕ) (r : Result (List ℕ) WordFault) → before os (before ps r) ≡ before (os ++ ps) r
before-before os ps (Ok more) = ap Ok (sym (append_assoc os ps more))
before-before os ps (Err f) = refl

-- and where what is left of a text begins with c
module _ (text rest cs : List ℕ) (c : ℕ) (short : length rest ≤ length text) (end : rest ≡ drop (length text - length rest) text) (is : rest ≡ c ∷ cs) where
  abbrev place : ℕ
  place = length text - length rest

  next : length text - length cs ≡ place + 1
  next = omega (arith, ap length is)

  first : get_or text place 0 ≡ c
  first = let zero_more : place + 0 ≡ place = omega arith in sym (get_or-drop place text 0 0 ∙ ap (λ k. get_or text k 0) zero_more) ∙ ap (λ l. get_or l 0 0) (sym end ∙ is)

  second : get_or text (place + 1) 0 ≡ get_or cs 0 0
  second = sym (get_or-drop place text 1 0) ∙ ap (λ l. get_or l 1 0) (sym end ∙ is)

  pub end_next : cs ≡ drop (length text - length cs) text
  end_next = ap (drop 1) (sym is ∙ end) ∙ drop-drop 1 place text ∙ ap (λ k. drop k text) (sym next)

  pub after_blank : (os : List ℕ) → blank c ≡ true → before os (octets_from (length text - length cs) cs) ≡ before os (octets_from place rest)
  after_blank os e = ap (λ k. before os (octets_from k cs)) next ∙ ap (before os) (sym (ap (octets_from place) is ∙ skip_blank place c cs e))

  pair : blank c ≡ false → octets_from place rest ≡ and_then (pair_at place (get_or text place 0) (get_or text (place + 1) 0)) (λ o. before (o ∷ []) (octets_from (place + 2) (drop 1 cs)))
  pair e =
      ap (octets_from place) is ∙ take_pair place c cs e
      ∙ (λ j. and_then (pair_at place (sym first j) (sym second j)) (λ o. before (o ∷ []) (octets_from (place + 2) (drop 1 cs))))

  module _ (new : List ℕ) (behind : new ≡ drop 1 cs) (some : 0 < length cs) where
    last : length text - length new ≡ place + 2
    last = omega (arith, ap length is, ap length behind, length-drop 1 cs)

    pub end_last : new ≡ drop (length text - length new) text
    end_last =
        let one : length text - length cs + 1 ≡ place + 2 = omega (arith, next) in
        behind ∙ ap (drop 1) end_next ∙ drop-drop 1 (length text - length cs) text ∙ ap (λ k. drop k text) (one ∙ sym last)

    pub after_pair : (os : List ℕ) (o : ℕ) → blank c ≡ false → Ok o ≡ pair_at place (get_or text place 0) (get_or text (place + 1) 0) → before (os ++ o ∷ []) (octets_from (length text - length new) new) ≡ before os (octets_from place rest)
    after_pair os o e p =
        (λ j. before (os ++ o ∷ []) (octets_from (last j) (behind j))) ∙ sym (before-before os (o ∷ []) _)
        ∙ ap (before os) (ap (λ r. and_then r (λ o. before (o ∷ []) (octets_from (place + 2) (drop 1 cs)))) p ∙ sym (pair e))
