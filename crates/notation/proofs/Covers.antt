-- The ranges of a set have its channels and no others.
use Rattle.std.proofs.Common.{◌≡◌, ℕ, zero, suc, ◌+◌, ◌<◌, ◌≤◌, Bool, true, false, ◌&&◌, ◌||◌, eqb, leb, List, [], ◌∷◌, ◌++◌, length, get_or, sym, refl, ap, ◌∙◌, subst, ⊎_elim, arith}
use Rattle.std.specs.List.{AllByRecursion}
use Rattle.std.proofs.ByRecursion.{All-append, All-from_get_or}
use Rattle.std.proofs.lemmas.Bool.{cond-true, cond-false, cases_Bool, eqb-true, eq-eqb, or_cases, or_left, or_right, both_ways}
use Rattle.std.proofs.lemmas.Bool.Decides.{nat_tests}
use Rattle.channels.specs.declared.ChannelSet.{ChannelSet}
use Rattle.channels.specs.Sets.{holds, members_of, MemberLaws}
use Rattle.notation.specs.declared.Span.{Span}
use Rattle.notation.specs.Lists.{run_of, runs_from, spans_of, in_span, covers}

-- whether a list has a number
abbrev is_in : ℕ → List ℕ → Bool
is_in k [] = false
is_in k (x ∷ xs) = eqb k x || is_in k xs

covers_append : (a b : List Span) (k : ℕ) → covers (a ++ b) k ≡ (covers a k || covers b k)
covers_append [] b k = refl
covers_append (s ∷ a) b k = ap (λ x. in_span s k || x) (covers_append a b k) ∙ regroup (in_span s k) (covers a k) (covers b k)
  where
    regroup : (x y z : Bool) → (x || (y || z)) ≡ ((x || y) || z)
    regroup true y z = refl
    regroup false y z = refl

two : (low high k : ℕ) → high ≡ low + 1 → ((leb low k && leb k low) || ((leb high k && leb k high) || false)) ≡ (leb low k && leb k high)
two low high k e = grind (arith, nat_tests)

one : (x : Bool) → (x || false) ≡ x
one true = refl
one false = refl

covers_run : (low high k : ℕ) → covers (run_of low high) k ≡ (leb low k && leb k high)
covers_run low high k =
    ⊎_elim
    (λ e. ap (λ l. covers l k) (cond-true _ _ _ e) ∙ two low high k (eqb-true high (low + 1) e))
    (λ e. ap (λ l. covers l k) (cond-false _ _ _ e) ∙ one (leb low k && leb k high))
    (cases_Bool (eqb high (low + 1)))

longer : (low high c k : ℕ) (x : Bool) → low ≤ high → c ≡ high + 1 → ((leb low k && leb k c) || x) ≡ ((leb low k && leb k high) || (eqb k c || x))
longer low high c k true h e = grind (arith, nat_tests)
longer low high c k false h e = grind (arith, nat_tests)

apart : (c k : ℕ) (x : Bool) → ((leb c k && leb k c) || x) ≡ (eqb k c || x)
apart c k true = grind (arith, nat_tests)
apart c k false = grind (arith, nat_tests)

covers_runs : (low high : ℕ) (cs : List ℕ) (k : ℕ) → low ≤ high → covers (runs_from low high cs) k ≡ ((leb low k && leb k high) || is_in k cs)
covers_runs low high [] k h = covers_run low high k ∙ sym (one (leb low k && leb k high))
covers_runs low high (c ∷ cs) k h =
    ⊎_elim
    (λ e.
    let next = eqb-true c (high + 1) e in
    ap (λ l. covers l k) (cond-true _ _ _ e) ∙ covers_runs low c cs k (omega arith) ∙ longer low high c k (is_in k cs) h next)
    (λ e.
    ap (λ l. covers l k) (cond-false _ _ _ e) ∙ covers_append (run_of low high) (runs_from c c cs) k
    ∙ (λ i. covers_run low high k i || (covers_runs c c cs k (omega arith) ∙ apart c k (is_in k cs)) i))
    (cases_Bool (eqb c (high + 1)))

covers-spans : (cs : List ℕ) (k : ℕ) → covers (spans_of cs) k ≡ is_in k cs
covers-spans [] k = refl
covers-spans (c ∷ cs) k = covers_runs c c cs k (omega arith) ∙ apart c k (is_in k cs)

-- membership by place
in_at : (k : ℕ) (xs : List ℕ) (j : ℕ) → j < length xs → get_or xs j 0 ≡ k → is_in k xs ≡ true
in_at k [] j h e = absurd (omega arith)
in_at k (x ∷ xs) zero h e = or_left (eqb k x) (is_in k xs) (eq-eqb k x (sym e))
in_at k (x ∷ xs) (suc j) h e = or_right (eqb k x) (is_in k xs) (in_at k xs j (omega arith) e)

at_in : (k : ℕ) (xs : List ℕ) → is_in k xs ≡ true → (j : ℕ) × (j < length xs) × (get_or xs j 0 ≡ k)
at_in k [] e = absurd (both_ways false refl e)
at_in k (x ∷ xs) e =
    ⊎_elim
    (λ here. (0, omega arith, sym (eqb-true k x here)))
    (λ there. let p = at_in k xs there in (suc p.0, omega (arith, p.1), p.2))
    (or_cases (eqb k x) (is_in k xs) e)

module _ (laws : MemberLaws) (s : ChannelSet) where
  is_in_lem : (k : ℕ) → is_in k (members_of s) ≡ holds s k
  is_in_lem k = ⊎_elim yes_in no_in (cases_Bool (holds s k))
    where
      yes_in : holds s k ≡ true → is_in k (members_of s) ≡ holds s k
      yes_in e = let p = laws.there s k e in in_at k (members_of s) p.0 (omega (arith, p.1, laws.count s)) p.2 ∙ sym e

      no_in : holds s k ≡ false → is_in k (members_of s) ≡ holds s k
      no_in e =
          ⊎_elim
          (λ t. let p = at_in k (members_of s) t in absurd (both_ways (holds s k) e (ap (holds s) (sym p.2) ∙ (laws.held s p.0 (omega (arith, p.1, laws.count s))).1)))
          (λ f. f ∙ sym e)
          (cases_Bool (is_in k (members_of s)))

  pub spans_exact : (k : ℕ) → covers (spans_of (members_of s)) k ≡ holds s k
  spans_exact k = covers-spans (members_of s) k ∙ is_in_lem k

-- a range of channels
abbrev pub Ranges : Span → Type 0
Ranges s = (s.low ≤ s.high) × (s.high ≤ 1023)

run_ranges : (low high : ℕ) → low ≤ high → high ≤ 1023 → AllByRecursion Ranges (run_of low high)
run_ranges low high a b =
    ⊎_elim
    (λ e. subst (AllByRecursion Ranges) (sym (cond-true _ _ _ e)) ((omega arith, omega arith), ((omega arith, omega arith), tt)))
    (λ e. subst (AllByRecursion Ranges) (sym (cond-false _ _ _ e)) ((omega arith, omega arith), tt))
    (cases_Bool (eqb high (low + 1)))

runs_range : (low high : ℕ) (cs : List ℕ) → low ≤ high → high ≤ 1023 → AllByRecursion (λ c. c ≤ 1023) cs → AllByRecursion Ranges (runs_from low high cs)
runs_range low high [] a b h = run_ranges low high a b
runs_range low high (c ∷ cs) a b h =
    ⊎_elim
    (λ e. subst (AllByRecursion Ranges) (sym (cond-true _ _ _ e)) (runs_range low c cs (omega (arith, eqb-true c (high + 1) e)) h.0 h.1))
    (λ e. subst (AllByRecursion Ranges) (sym (cond-false _ _ _ e)) (All-append Ranges (run_of low high) (runs_from c c cs) (run_ranges low high a b) (runs_range c c cs (omega arith) h.0 h.1)))
    (cases_Bool (eqb c (high + 1)))

spans-range : (cs : List ℕ) → AllByRecursion (λ c. c ≤ 1023) cs → AllByRecursion Ranges (spans_of cs)
spans-range [] h = tt
spans-range (c ∷ cs) h = runs_range c c cs (omega arith) h.0 h.1

pub members_range : MemberLaws → (s : ChannelSet) → AllByRecursion Ranges (spans_of (members_of s))
members_range laws s =
    spans-range (members_of s) (All-from_get_or (λ c. c ≤ 1023) (members_of s) 0 (λ j h. omega (arith, (laws.held s j (omega (arith, laws.count s))).0)))
