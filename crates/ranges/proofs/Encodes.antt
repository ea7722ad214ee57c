-- The octets that the writer of a range makes.
use Rattle.std.proofs.Common.{◌≡◌, ℕ, ◌^◌, ◌<◌, ◌≤◌, true, leb, List, ◌++◌, length, get_or, take, drop, Some, None, Ok, Err, sym, refl, ap, ◌∙◌, subst, ap₂, ⊎_elim, arith}
use Rattle.std.proofs.lemmas.Bool.{cases_lt, cases_eq, both_ways, cond-true, cond-false, le-leb, lt-leb}
use Rattle.std.proofs.lemmas.List.{take_at, drop_at}
use Rattle.channels.specs.declared.ChannelSet.{ChannelSet}
use Rattle.channels.specs.Sets.{holds, size_of}
use Rattle.faults.specs.declared.PileFault.TheVariants.{Unwritten}
use Rattle.origins.proofs.Reach.{member_below}
use Rattle.packing.specs.declared.Range.{Range}
use Rattle.packing.specs.Ranges.{width_of, start_of, HasLength}
use Rattle.packing.specs.Fields.{width, level}
use Rattle.packing.specs.Slots.{slots_of}
use Rattle.packing.specs.Writing.{Packable, packed, head_of, tail_of}
use Rattle.packing.proofs.Counts.{slots-few}
use Rattle.packing.proofs.Packings.{packed-same, length-packed}
use Rattle.packing.proofs.Widths.{level_is}
use Rattle.tree.specs.Written.{full, written}
use Rattle.tree.proofs.Laws.{tree-stands}
use Rattle.tree.proofs.Same.{same-stands}
use Rattle.ranges.specs.Ranges.{seen, base_of, tail_in, others_from, others, range_octets}
use Rattle.ranges.specs.Writing.{Planted, Encoded}
use Rattle.ranges.specs.Readings.{full-below}
use Rattle.ranges.specs.RangeLaws.{Base, is_base, width_is, front_below}
use Rattle.ranges.proofs.Scatters.{other_is, other_none, others-count}

module _ (r : Range) (s : ChannelSet) (o : ℕ) (based : base_of r s ≡ Some o) where
  base : Base r s o
  base = is_base r s o based

  pub base-low : o < 1024
  base-low = base.low

  -- as many distances as other members
  pub count : (ds : ChannelSet) → ds ≡ others_from s o → size_of ds ≡ others r s o
  count ds e = ap size_of e ∙ others-count r s o base.near

  pub circle : (ds : ChannelSet) → ds ≡ others_from s o → (d : ℕ) → holds ds d ≡ true → (1 ≤ d) × (d ≤ full (width_of r))
  circle ds e d t =
      let h : holds (others_from s o) d ≡ true = ap (λ (x : ChannelSet). holds x d) (sym e) ∙ t in
      let below = member_below (others_from s o) d h in
      let low : 1 ≤ d = ⊎_elim (λ z. absurd (both_ways (holds (others_from s o) d) (ap (holds (others_from s o)) z ∙ other_none s o) h)) (λ n. omega arith) (cases_eq d 0) in
      (low, ⊎_elim (λ l. absurd (both_ways (holds (others_from s o) d) (other_is s o d low below ∙ base.near d l below) h)) (λ l. l) (cases_lt (full (width_of r)) d))

  pub front : (t h : ℕ) → t ≡ tail_in r s o → h ≡ head_of r t → (t < 2 ^ tail_of r) × (h < 2 ^ start_of r)
  front t h e f =
      let b = base.tail in
      let small : t < 2 ^ tail_of r = subst (λ x. x < 2 ^ tail_of r) (sym e) b in
      (small, subst (λ x. x < 2 ^ start_of r) (sym f) (front_below r t small))

  module _ (ds : ChannelSet) (is : ds ≡ others_from s o) (table : List ℕ) (n L : ℕ) (tree : Planted (width_of r) ds table) (size : n ≡ size_of ds) (room : n ≤ slots_of r L) where
    stands : (i : ℕ) → 1 ≤ i → i ≤ n → get_or table i 0 ≡ written (width_of r) (seen s o) i
    stands i a b =
        let f = full-below r in
        tree.stands i a (omega arith)
        ∙ same-stands (width_of r) (holds ds) (seen s o) (λ q x y. ap (λ (t : ChannelSet). holds t q) is ∙ other_is s o q x (omega arith)) i a

    pub packable : (h : ℕ) → HasLength r L → h < 2 ^ start_of r → Packable r h (λ i. get_or table i 0) n L
    packable h fit small = record {
      held = fit;
      few = room;
      front = small;
      narrow = λ i a b.
          let below : i < 2 ^ width_of r = omega (arith, slots-few r L) in
          subst (λ x. x < 2 ^ width (width_of r) i) (sym (stands i a b))
          (subst (λ w. written (width_of r) (seen s o) i < 2 ^ w) (sym (width_is (width_of r) i)) ((tree-stands (width_of r) (seen s o)).fits (level (width_of r) i) i (level_is (width_of r) i a below).low));
    }

    pub encoded : (t h : ℕ) (before after : List ℕ) → t ≡ tail_in r s o → h ≡ head_of r t → after ≡ packed r h (λ i. get_or table i 0) n L ++ drop L before → Encoded (Ok tt) r s o L before after
    encoded t h before after e f p =
        let c : n ≡ others r s o = size ∙ count ds is in
        let octets : packed r h (λ i. get_or table i 0) n L ≡ range_octets r s L o =
        packed-same r h (λ i. get_or table i 0) (written (width_of r) (seen s o)) n L stands ∙ ap₂ (λ x m. packed r x (written (width_of r) (seen s o)) m L) (f ∙ ap (head_of r) e) c in
        let made : after ≡ range_octets r s L o ++ drop L before = p ∙ ap (λ x. x ++ drop L before) octets in
        let long : length (range_octets r s L o) ≡ L = length-packed r (head_of r (tail_in r s o)) (written (width_of r) (seen s o)) (others r s o) L in (
          cond-true (leb (others r s o) (slots_of r L)) (Some (range_octets r s L o)) None (le-leb (others r s o) (slots_of r L) (omega arith))
              ∙ ap Some (sym (ap (take L) made ∙ take_at (range_octets r s L o) (drop L before) L long)),
          ap (drop L) made ∙ drop_at (range_octets r s L o) (drop L before) L long,
        )

  pub refused : (L : ℕ) (before : List ℕ) → slots_of r L < others r s o → Encoded (Err Unwritten) r s o L before before
  refused L before l = (refl, cond-false (leb (others r s o) (slots_of r L)) (Some (range_octets r s L o)) None (lt-leb (others r s o) (slots_of r L) l), refl)
