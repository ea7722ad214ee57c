-- The distances of a set from its base, and their tree.
use Rattle.std.proofs.Common.{◌≡◌, ℕ, zero, suc, ◌+◌, ◌-◌, ◌<◌, ◌≤◌, Bool, true, false, cond, not, ◌&&◌, T, eqb, List, length, get_or, Ok, Err, Result, sym, refl, ap, ◌∙◌, subst, ap₂, arith}
use Rattle.std.proofs.lemmas.Bool.{ne_eqb, both_ways}
use Rattle.bits.specs.Bits.{rising}
use Rattle.bits.specs.Bits as bits
use Rattle.bits.proofs.Digits as digits
use Rattle.bits.proofs.Rises.{rising_in, rising-up, rising-has}
use Rattle.channels.specs.declared.ChannelSet.{ChannelSet}
use Rattle.channels.specs.Sets.{holds, put, size_of, members_of}
use Rattle.channels.proofs.Views.{holds_of, holds-put, set_is}
use Rattle.origins.specs.Origins.{seen_from}
use Rattle.origins.proofs.Seen.{holds-seen}
use Rattle.origins.proofs.Reach.{member_below}
use Rattle.packing.specs.declared.Range.{Range}
use Rattle.packing.specs.Ranges.{width_of}
use Rattle.spread.specs.declared.SpreadFault.{SpreadFault}
use Rattle.spread.specs.Members.{Listed, Fit, Outcome, among}
use Rattle.spread.proofs.Counts.{among-has, among-at}
use Rattle.tree.specs.Written.{full, tally, written}
use Rattle.tree.specs.Written as tree
use Rattle.tree.proofs.Circle.{tally_more}
use Rattle.tree.proofs.Same.{same-stands}
use Rattle.ranges.specs.Ranges.{seen, others_from, others}
use Rattle.ranges.specs.Writing.{Planted}
use Rattle.ranges.specs.Readings.{full-below}

-- the members besides the base
pub others_are : (s t u : ChannelSet) (o : ℕ) → t ≡ seen_from s o → u ≡ put t 0 false → u ≡ others_from s o
others_are s t u o p q =
    set_is u (λ d. not (eqb d 0) && seen s o d)
    (λ d l. ap (λ (x : ChannelSet). holds x d) (q ∙ ap (λ (x : ChannelSet). put x 0 false) p) ∙ holds-put (seen_from s o) 0 false (omega arith) d
    ∙ ap (cond (eqb d 0) false) (holds-seen s o d l) ∙ go (eqb d 0) (seen s o d))
  where
    go : (b x : Bool) → cond b false x ≡ (not b && x)
    go true x = refl
    go false x = refl

pub other_is : (s : ChannelSet) (o d : ℕ) → 1 ≤ d → d < 1024 → holds (others_from s o) d ≡ seen s o d
other_is s o d a b = holds_of (λ d. not (eqb d 0) && seen s o d) d b ∙ ap (λ x. not x && seen s o d) (ne_eqb d 0 (λ z. omega arith))

pub other_none : (s : ChannelSet) (o : ℕ) → holds (others_from s o) 0 ≡ false
other_none s o = holds_of (λ d. not (eqb d 0) && seen s o d) 0 (omega arith)

-- two ways to count
tallies : (S : ℕ → Bool) (n : ℕ) → tally S 1 n ≡ bits.tally (λ d. S (1 + d)) n
unfolding bits.tally
tallies S zero = refl
tallies S (suc n) = tally_more S 1 n ∙ ap₂ (λ x y. x + y) (tallies S n) (digit (S (1 + n)))
  where
    digit : (b : Bool) → tree.bit b ≡ cond b 1 0
    digit true = refl
    digit false = refl

zero-tally : (f : ℕ → Bool) → f 0 ≡ false → bits.tally f 1 ≡ 0
zero-tally f e = digits.tally-none f 1 (λ k l. let z : k ≡ 0 = omega arith in ap f z ∙ e)

pub others-count : (r : Range) (s : ChannelSet) (o : ℕ) → ((d : ℕ) → full (width_of r) < d → d < 1024 → seen s o d ≡ false) → size_of (others_from s o) ≡ others r s o
others-count r s o near =
    let m = full (width_of r) in
    let f = holds (others_from s o) in
    let small = full-below r in
    let whole : 1 + (m + (1023 - m)) ≡ 1024 = omega arith in
    ap (bits.tally f) (sym whole) ∙ digits.tally_add f 1 (m + (1023 - m)) ∙ ap (λ x. x + bits.tally (λ k. f (1 + k)) (m + (1023 - m))) (zero-tally f (other_none s o))
    ∙ ap (λ x. 0 + x) (digits.tally_add (λ k. f (1 + k)) m (1023 - m)
    ∙ ap₂ (λ x y. x + y) (digits.tally-same (λ k. f (1 + k)) (λ k. seen s o (1 + k)) m (λ k l. other_is s o (1 + k) (omega arith) (omega arith)) ∙ sym (tallies (seen s o) m))
    (digits.tally-none (λ k. f (1 + (m + k))) (1023 - m) (λ k l. other_is s o (1 + (m + k)) (omega arith) (omega arith) ∙ near (1 + (m + k)) (omega arith) (omega arith))))
    ∙ omega arith

-- the list of the distances
module _ (K : ℕ) (ds : ChannelSet) (circle : (d : ℕ) → holds ds d ≡ true → (1 ≤ d) × (d ≤ full K)) where
  abbrev xs : List ℕ
  xs = members_of ds

  pub xs-long : length xs ≡ size_of ds
  xs-long = digits.length-rising (holds ds) 1024

  pub listed : Listed (full K) xs
  listed =
      let e = xs-long in
      record {
        low = λ i l. (circle (get_or xs i 0) (rising_in (holds ds) 1024 i (omega arith)).1).0;
        high = λ i l. (circle (get_or xs i 0) (rising_in (holds ds) 1024 i (omega arith)).1).1;
        rise = λ i j l m. rising-up (holds ds) 1024 i j l (omega arith);
      }

  among_is : (q : ℕ) → among xs q ≡ holds ds q
  among_is q = go (holds ds q) refl (among xs q) refl
    where
      t_of : (b : Bool) → b ≡ true → T b
      t_of true e = tt
      t_of false e = absurd (both_ways false refl e)

      of_t : (b : Bool) → T b → b ≡ true
      of_t true t = refl
      of_t false t = absurd t

      go : (x : Bool) → holds ds q ≡ x → (y : Bool) → among xs q ≡ y → y ≡ x
      go true e true f = refl
      go false e false f = refl
      go true e false f =
          let p = rising-has (holds ds) 1024 q (member_below ds q e) e in
          absurd (both_ways (among xs q) f (ap (among xs) (sym p.1) ∙ of_t (among xs (get_or xs (bits.tally (holds ds) q) 0)) (among-at xs (bits.tally (holds ds) q) (omega (arith, xs-long, p.0)))))
      go false e true f =
          let p = among-has xs q (t_of (among xs q) f) in
          absurd (both_ways (holds ds q) e (ap (holds ds) (sym p.2) ∙ (rising_in (holds ds) 1024 p.0 (omega (arith, xs-long, p.1))).1))

  -- what the writer leaves in the table
  pub planted : K ≤ 10 → size_of ds < 512 → (b : Result (Unit {0}) SpreadFault) (ys members' before after : List ℕ) → ys ≡ xs → length before ≡ 512 → Outcome b K ys members' before after → Planted K ds after
  planted w few (Err f) ys ms before after e long h =
      let fits : Fit K ys before = subst (λ l. Fit K l before) (sym e) record { width = w; listed = listed; room = omega (arith, xs-long) } in
      absurd (h.0 fits)
  planted w few (Ok u) ys ms before after e long h =
      let here : (i : ℕ) → 1 ≤ i → i ≤ length xs → get_or after i 0 ≡ written K (among xs) i = subst (λ l. (i : ℕ) → 1 ≤ i → i ≤ length l → get_or after i 0 ≡ written K (among l) i) e h.1.here in
      record { stands = λ i a b. here i a (omega (arith, xs-long)) ∙ same-stands K (among xs) (holds ds) (λ q x y. among_is q) i a }
