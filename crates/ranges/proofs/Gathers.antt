-- Sets that are gathered from distances.
use Rattle.std.proofs.Common.{◌≡◌, ℕ, suc, ◌+◌, ◌%◌, ◌^◌, ◌<◌, ◌≤◌, Bool, true, false, cond, ◌&&◌, ◌||◌, eqb, ltb, leb, List, length, get_or, is_some, Some, None, Ok, Err, MatchResult, Option, Result, if◌then◌else◌, sym, refl, ap, ◌∙◌, subst, ⊎_elim, add-one, arith}
use Rattle.std.proofs.lemmas.Bool.{eq-eqb, ne_eqb, cond-true, cond-false, cases_eq, and_from, le-leb, lt-ltb}
use Rattle.bits.specs.Lowest.{lowest, or_else}
use Rattle.bits.proofs.Lows.{lowest-same}
use Rattle.channels.specs.declared.ChannelSet.{ChannelSet}
use Rattle.channels.specs.Sets.{holds, set_of, put, turned}
use Rattle.channels.proofs.Views.{holds-put, set_is, set_same}
use Rattle.origins.specs.Origins.{ahead}
use Rattle.origins.proofs.Seen.{holds-turned}
use Rattle.packing.specs.declared.Range.{Range}
use Rattle.packing.specs.Ranges.{width_of}
use Rattle.packing.specs.Reading.{number_in, unpacked}
use Rattle.packing.proofs.Counts.{slots_small, width_narrow}
use Rattle.tree.specs.Number.{number, entries, reaches, lack, answer, Read}
use Rattle.tree.specs.declared.TreeFault.{TreeFault}
use Rattle.tree.proofs.Climbs.{prefix-stands}
use Rattle.ranges.specs.Readings.{few, places, on_circle, full-below}
use Rattle.ranges.specs.Ranges.{gathered, member}

some_more : (p : ℕ → Bool) (k : ℕ) → is_some (lowest p (k + 1)) ≡ (is_some (lowest p k) || p k)
unfolding lowest
some_more p k = ap (λ n. is_some (lowest p n)) (add-one k) ∙ go (lowest p k) (p k)
  where
    go : (o : Option ℕ) (b : Bool) → is_some (or_else o b k) ≡ (is_some o || b)
    go (Some x) b = refl
    go None true = refl
    go None false = refl

none_yet : (p : ℕ → Bool) → is_some (lowest p 0) ≡ false
unfolding lowest
none_yet p = refl

abbrev among : List ℕ → ℕ → ℕ → Bool
among ds c k = is_some (lowest (λ j. eqb (get_or ds j 0) c) k)

pub gather_none : (ds : List ℕ) (held : Bool) (c : ℕ) → cond (eqb c 0) held false ≡ cond (eqb c 0) held (among ds c 0)
gather_none ds held c = ap (cond (eqb c 0) held) (sym (none_yet (λ j. eqb (get_or ds j 0) c)))

pub gather_more : (ds : List ℕ) (held : Bool) (k : ℕ) (cur : ChannelSet) → (1 ≤ get_or ds k 0) × (get_or ds k 0 ≤ 1023)
    → ((c : ℕ) → c < 1024 → holds cur c ≡ cond (eqb c 0) held (among ds c k))
    → (c : ℕ) → c < 1024 → holds (put cur (get_or ds k 0) true) c ≡ cond (eqb c 0) held (among ds c (k + 1))
gather_more ds held k cur v inv c l =
    let x = get_or ds k 0 in
    let low = v.0 in
    let high = v.1 in
    holds-put cur x true (omega arith) c
    ∙ ⊎_elim
    (λ e. cond-true (eqb c x) true (holds cur c) (eq-eqb c x e)
    ∙ sym (cond-false (eqb c 0) held (among ds c (k + 1)) (ne_eqb c 0 (λ z. omega arith)) ∙ some_more (λ j. eqb (get_or ds j 0) c) k ∙ ap (λ b. among ds c k || b) (eq-eqb x c (sym e)) ∙ or_true (among ds c k)))
    (λ n. cond-false (eqb c x) true (holds cur c) (ne_eqb c x n) ∙ inv c l
    ∙ ap (cond (eqb c 0) held) (sym (some_more (λ j. eqb (get_or ds j 0) c) k ∙ ap (λ b. among ds c k || b) (ne_eqb x c (λ q. n (sym q))) ∙ or_false (among ds c k))))
    (cases_eq c x)
  where
    or_true : (b : Bool) → (b || true) ≡ true
    or_true true = refl
    or_true false = refl

    or_false : (b : Bool) → (b || false) ≡ b
    or_false true = refl
    or_false false = refl

pub gather_all : (ds : List ℕ) (held : Bool) (o k : ℕ) (cur r : ChannelSet) → o < 1024 → k ≡ length ds
    → ((c : ℕ) → c < 1024 → holds cur c ≡ cond (eqb c 0) held (among ds c k)) → r ≡ turned cur (o % 1024) → r ≡ set_of (gathered o held ds)
gather_all ds held o k cur r low long inv e =
    let same : o % 1024 ≡ o = omega arith in
    set_is r (gathered o held ds)
    (λ c l. ap (λ (t : ChannelSet). holds t c) (e ∙ ap (turned cur) same) ∙ holds-turned cur o c l ∙ inv (ahead o c) (omega arith)
    ∙ ap (λ n. cond (eqb (ahead o c) 0) held (among ds (ahead o c) n)) long)

-- the distances are what the numbers of a tree stand for
pub gathers_tree : (o : ℕ) (held : Bool) (K n : ℕ) (W : ℕ → ℕ) (ds : List ℕ) → length ds ≡ n → ((j : ℕ) → j < length ds → get_or ds j 0 ≡ number K W (j + 1)) → set_of (gathered o held ds) ≡ set_of (member o held K W n)
gathers_tree o held K n W ds long h =
    set_same (gathered o held ds) (member o held K W n)
    (λ c l. ap (λ w. cond (eqb (ahead o c) 0) held (is_some w))
    (lowest-same (λ j. eqb (get_or ds j 0) (ahead o c)) (λ i. eqb (number K W (suc i)) (ahead o c)) (length ds) (λ j q. ap (λ x. eqb x (ahead o c)) (h j q ∙ ap (number K W) (add-one j)))
    ∙ ap (lowest (λ i. eqb (number K W (suc i)) (ahead o c))) long))

-- trees that agree at the places in use stand for the same set
pub trees_same : (o : ℕ) (held : Bool) (K n : ℕ) (V W : ℕ → ℕ) → ((i : ℕ) → i ≤ n → i < 2 ^ K) → ((i : ℕ) → 1 ≤ i → i ≤ n → V i ≡ W i) → set_of (member o held K V n) ≡ set_of (member o held K W n)
trees_same o held K n V W below h =
    set_same (member o held K V n) (member o held K W n)
    (λ c l. ap (λ w. cond (eqb (ahead o c) 0) held (is_some w))
    (lowest-same (λ i. eqb (number K V (suc i)) (ahead o c)) (λ i. eqb (number K W (suc i)) (ahead o c)) n
    (λ i q. ap (λ x. eqb x (ahead o c)) (prefix-stands K V W (suc i) (omega arith) (below (suc i) (omega arith)) (λ j a b. h j a (omega arith))))))

-- what the reader of a tree leaves, where it has the places
pub read_when :
    (t : List ℕ) (K n m : ℕ) (us : List ℕ) (r : Result (Unit {0}) TreeFault) (Left : Type 0) →
    reaches t K n ≡ true → m ≡ n → r ≡ answer t K m → MatchResult r (λ _. Read t K us) (λ _. Left) → Read t K us
read_when t K n m us r Left there e a h =
    subst (λ (q : Result (Unit {0}) TreeFault). MatchResult q (λ _. Read t K us) (λ _. Left))
    (a ∙ ap (answer t K) e ∙ ap (λ b. if b then Ok tt else Err (lack t K n)) there) h

-- a tree of a table that was unpacked
module _ (r : Range) (os table : List ℕ) (n : ℕ) (ok : unpacked r os ≡ Ok n) (stands : (i : ℕ) → 1 ≤ i → i ≤ n → get_or table i 0 ≡ number_in r os i)
    (w : ℕ) (wide : w ≡ width_of r) where
  same_numbers : (i : ℕ) → 1 ≤ i → i ≤ n → number w (entries table) i ≡ number (width_of r) (number_in r os) i
  same_numbers i a b =
      ap (λ k. number k (entries table) i) wide
      ∙ prefix-stands (width_of r) (entries table) (number_in r os) i a (places r os n ok i b) (λ j x y. stands j x (omega arith))

  pub there : length table ≡ 512 → reaches table w n ≡ true
  there long =
      let below : n < 2 ^ w = subst (λ k. n < 2 ^ k) (sym wide) (places r os n ok n (omega arith)) in
      and_from (leb w 10) (ltb n (2 ^ w) && ltb n (length table)) (le-leb w 10 (omega (arith, width_narrow r)))
      (and_from (ltb n (2 ^ w)) (ltb n (length table)) (lt-ltb n (2 ^ w) below) (lt-ltb n (length table) (omega (arith, few r os n ok, slots_small r (length os)))))

  pub table-circle : (i : ℕ) → 1 ≤ i → i ≤ n → (1 ≤ number w (entries table) i) × (number w (entries table) i ≤ 1023)
  table-circle i a b =
      let e = same_numbers i a b in
      let c = on_circle r os n ok i a b in
      (omega (arith, c.0), omega (arith, c.1, full-below r))

  pub table-set : (o : ℕ) (held : Bool) → set_of (member o held w (entries table) n) ≡ set_of (member o held (width_of r) (number_in r os) n)
  table-set o held =
      ap (λ k. set_of (member o held k (entries table) n)) wide
      ∙ trees_same o held (width_of r) n (entries table) (number_in r os) (λ i l. places r os n ok i l) stands
