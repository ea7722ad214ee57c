-- The range formats read back what they write, and write whatever they can read.
use Rattle.std.specs.Prelude.{◌≡◌, ℕ, zero, suc, ◌+◌, ◌-◌, ◌*◌, ◌/◌, ◌%◌, ◌^◌, ◌<◌, ◌≤◌, Bool, true, false, cond, not, ◌&&◌, T, List, ◌∷◌, length, Some, None, Ok, Err, Option, Result, ◌==◌, ◌≢◌, nat_eq, nat_le, slice_index, refl}
use Rattle.std.proofs.Common.{sym, ◌∙◌, ap, ap₂, subst, ⊎_elim, arith}
use Rattle.std.proofs.Math.Path.{fun_ext}
use Rattle.std.proofs.ByRecursion.{All-from_get_or}
use Rattle.std.proofs.lemmas.Bool.{and_parts, and_cases, leb-true, le-leb, eq-eqb, ne_eqb, cases_lt, cases_eq, both_ways, cond-true, cond-false}
use Rattle.bits.specs.Bits.{bit}
use Rattle.bits.specs.Lowest.{lowest}
use Rattle.bits.proofs.Agree.{agree}
use Rattle.bits.proofs.Lows.{lowest-none}
use Rattle.bits.proofs.Digits.{bit_mod}
use Rattle.channels.specs.declared.ChannelSet.{ChannelSet}
use Rattle.channels.specs.Sets.{holds, set_of}
use Rattle.channels.proofs.Views.{holds_of, same_set}
use Rattle.faults.specs.declared.FormatFault.{FormatFault}
use Rattle.piles.specs.Flagged.{plain}
use Rattle.piles.specs.Laws.{Octets, Lawful}
use Rattle.piles.specs.Calls.{some-none}
use Rattle.piles.specs.Codecs.{format_of}
use Rattle.piles.specs.Faithful.{Faithful, format_lawful}
use Rattle.packing.specs.declared.Range.{Range}
use Rattle.packing.specs.declared.Range.TheVariants.{R1024, R512, R256, R128}
use Rattle.packing.specs.Ranges.{width_of, start_of, least_of, longest, HasLength}
use Rattle.packing.specs.Fields.{bit_at, field, width, level}
use Rattle.packing.specs.Slots.{slots_of}
use Rattle.packing.specs.Reading.{number_in, unpacked}
use Rattle.packing.specs.Writing.{Holds, head_of, mark_of, tail_of}
use Rattle.packing.specs.Trips.{Headed, ReadBack}
use Rattle.packing.proofs.Counts.{slots-few}
use Rattle.packing.proofs.Fields.{at_split, field-same, field_below, first_octet_lem}
use Rattle.packing.proofs.Trips.{trip, reads, behind, heads}
use Rattle.packing.proofs.Widths.{level_is}
use Rattle.tree.specs.Number.{number}
use Rattle.tree.specs.Written.{full, written}
use Rattle.tree.specs.Laws.{Trip}
use Rattle.tree.proofs.Laws.{tree-stands, few-stands}
use Rattle.tree.proofs.Climbs.{prefix-stands}
use Rattle.origins.specs.Origins.{ahead, origin_of}
use Rattle.origins.proofs.Reach.{member_below, Within, origin-some, origin-none}
use Rattle.ranges.specs.Ranges.{claim_of, fits_of, base_in, base_held, stands_for, seen, member, in_range, range_read, base_of, tail_in, others, range_octets, written_from, range_codec}
use Rattle.ranges.specs.Readings.{stands-some, stands_at, stands-none, few, on_circle, full-below}

t_of : (b : Bool) → b ≡ true → T b
t_of true e = tt
t_of false e = absurd (both_ways false refl e)

of_t : (b : Bool) → T b → b ≡ true
of_t true t = refl
of_t false t = absurd t

-- Lengths and claims

least-one : (r : Range) → 1 ≤ least_of r
least-one R1024 = omega arith
least-one R512 = omega arith
least-one R256 = omega arith
least-one R128 = omega arith

pub has-length : (r : Range) (L : ℕ) → fits_of r L ≡ true → HasLength r L
has-length r L e = let p = and_parts (nat_le (least_of r) L) (nat_le L longest) e in record { least = leb-true (least_of r) L p.0; most = leb-true L longest p.1 }

plain-claims : (r : Range) (o : ℕ) → o < 256 → claim_of r (plain o) ≡ claim_of r o
unfolding lowest
plain-claims R1024 = agree (λ o. claim_of R1024 (plain o)) (claim_of R1024) 256 refl
plain-claims R512 = agree (λ o. claim_of R512 (plain o)) (claim_of R512) 256 refl
plain-claims R256 = agree (λ o. claim_of R256 (plain o)) (claim_of R256) 256 refl
plain-claims R128 = agree (λ o. claim_of R128 (plain o)) (claim_of R128) 256 refl

-- the mark of a range is what it claims, by one computed test for each
abbrev marked : Range → ℕ → Bool
marked r o = o / 2 ^ (8 - (start_of r - tail_of r)) == mark_of r

mark-claims : (r : Range) (o : ℕ) → o < 256 → marked r o ≡ true → claim_of r o ≡ true
unfolding lowest
mark-claims r o l e = go r (by r) e
  where
    by : (r : Range) → lowest (λ o. marked r o && not (claim_of r o)) 256 ≡ None
    by R1024 = refl
    by R512 = refl
    by R256 = refl
    by R128 = refl

    go : (r : Range) → lowest (λ o. marked r o && not (claim_of r o)) 256 ≡ None → marked r o ≡ true → claim_of r o ≡ true
    go r none m = ⊎_elim (λ f. absurd (both_ways (marked r o) f m)) (not-false (claim_of r o)) (and_cases (marked r o) (not (claim_of r o)) (lowest-none (λ o. marked r o && not (claim_of r o)) 256 none o l))
      where
        not-false : (b : Bool) → not b ≡ false → b ≡ true
        not-false true e = refl
        not-false false e = sym e

-- Bits 6 and 5 of the first octet

same_bits : (o : ℕ) (os : List ℕ) (x : ℕ) → 4 ≤ x → bit_at (plain o ∷ os) x ≡ bit_at (o ∷ os) x
same_bits o os x h = at_split (plain o ∷ os) x ∙ go (x / 8) refl ∙ sym (at_split (o ∷ os) x)
  where
    go : (i : ℕ) → x / 8 ≡ i → bit (slice_index (plain o ∷ os) i) (7 - x % 8) ≡ bit (slice_index (o ∷ os) i) (7 - x % 8)
    go zero e =
        let k : 7 - x % 8 < 4 = omega arith in
        let same : plain o % 16 ≡ o % 16 = omega arith in
        sym (bit_mod (plain o) 4 (7 - x % 8) k) ∙ ap (λ z. bit z (7 - x % 8)) same ∙ bit_mod o 4 (7 - x % 8) k
    go (suc i) e = refl

start-low : (r : Range) → 6 ≤ start_of r
start-low R1024 = omega arith
start-low R512 = omega arith
start-low R256 = omega arith
start-low R128 = omega arith

same_base : (r : Range) (o : ℕ) (os : List ℕ) → base_in r (plain o ∷ os) ≡ base_in r (o ∷ os)
same_base R1024 o os = refl
same_base R512 o os = field-same (plain o ∷ os) (o ∷ os) 7 10 (λ x a b. same_bits o os x (omega arith))
same_base R256 o os = field-same (plain o ∷ os) (o ∷ os) 7 10 (λ x a b. same_bits o os x (omega arith))
same_base R128 o os = field-same (plain o ∷ os) (o ∷ os) 7 10 (λ x a b. same_bits o os x (omega arith))

same-held : (r : Range) (o : ℕ) (os : List ℕ) → base_held r (plain o ∷ os) ≡ base_held r (o ∷ os)
same-held R1024 o os = ap (λ v. nat_eq v 1) (field-same (plain o ∷ os) (o ∷ os) 5 1 (λ x a b. same_bits o os x (omega arith)))
same-held R512 o os = refl
same-held R256 o os = refl
same-held R128 o os = refl

plain-read : (r : Range) (o : ℕ) (os : List ℕ) → range_read r (plain o ∷ os) (unpacked r (plain o ∷ os)) ≡ range_read r (o ∷ os) (unpacked r (o ∷ os))
plain-read r o os =
    let n = behind r (plain o ∷ os) (o ∷ os) refl (λ x h. same_bits o os x (omega (arith, start-low r))) in
    ap (range_read r (plain o ∷ os)) n.answer ∙ go (unpacked r (o ∷ os)) (fun_ext n.numbers)
  where
    go : (a : Result ℕ FormatFault) → number_in r (plain o ∷ os) ≡ number_in r (o ∷ os) → range_read r (plain o ∷ os) a ≡ range_read r (o ∷ os) a
    go (Ok n) e =
        ap₂ (λ b h. Ok (set_of (member b h (width_of r) (number_in r (plain o ∷ os)) n))) (same_base r o os) (same-held r o os)
        ∙ ap (λ W. Ok (set_of (member (base_in r (o ∷ os)) (base_held r (o ∷ os)) (width_of r) W n))) e
    go (Err f) e = refl

-- Bases

pub record Origin (s : ChannelSet) (reach o : ℕ) : Type 0 where
  pub low : o < 1024
  pub held : holds s o ≡ true
  pub near : (d : ℕ) → reach < d → d < 1024 → seen s o d ≡ false

within-near : (s : ChannelSet) (R o : ℕ) → o < 1024 → Within s R o → (d : ℕ) → R < d → d < 1024 → seen s o d ≡ false
within-near s R o low h d a b = go (seen s o d) refl
  where
    go : (x : Bool) → seen s o d ≡ x → seen s o d ≡ false
    go false e = e
    go true e = let k = h ((o + d) % 1024) e in let same : ahead o ((o + d) % 1024) ≡ d = omega arith in absurd (omega arith)

near_within : (s : ChannelSet) (R o : ℕ) → o < 1024 → ((d : ℕ) → R < d → d < 1024 → seen s o d ≡ false) → Within s R o
near_within s R o low h m e =
    let below = member_below s m e in
    let there : (o + (m + 1024 - o) % 1024) % 1024 ≡ m = omega arith in
    ⊎_elim (λ l. absurd (both_ways (holds s m) (ap (holds s) (sym there) ∙ h (ahead o m) l (omega arith)) e)) (λ l. l) (cases_lt R (ahead o m))

is_origin : (s : ChannelSet) (reach o : ℕ) → origin_of s reach ≡ Some o → Origin s reach o
is_origin s reach o e =
    let f = origin-some s reach o e in
    record { low = f.below; held = f.origin.held; near = within-near s reach o f.below f.origin.within }

has-origin : (s : ChannelSet) (reach o : ℕ) → Origin s reach o → (w : Option ℕ) → origin_of s reach ≡ w → (x : ℕ) × (w ≡ Some x)
has-origin s reach o g (Some x) e = (x, refl)
has-origin s reach o g None e = absurd (origin-none s reach e o record { held = g.held; within = near_within s reach o g.low g.near })

-- there is one origin at most where the reach is below half the circle
one-origin : (s : ChannelSet) (reach o x : ℕ) → 2 * reach < 1024 → Origin s reach o → Origin s reach x → o ≡ x
one-origin s reach o x half g h =
    ⊎_elim (λ e. e) (λ n. absurd (meet (ahead o x) (ahead x o) refl refl n)) (cases_eq o x)
  where
    meet : (d e : ℕ) → ahead o x ≡ d → ahead x o ≡ e → (o ≢ x) → ⊥
    meet d e p q n =
        let lo = g.low in
        let lx = h.low in
        let sum : d + e ≡ 1024 = ⊎_elim (λ l. omega arith) (λ l. omega arith) (cases_lt o x) in
        let there : (o + d) % 1024 ≡ x = omega arith in
        let back : (x + e) % 1024 ≡ o = omega arith in
        ⊎_elim
        (λ l. both_ways (seen s o d) (g.near d l (omega arith)) (ap (holds s) there ∙ h.held))
        (λ l. both_ways (seen s x e) (h.near e (omega arith) (omega arith)) (ap (holds s) back ∙ g.held))
        (cases_lt reach d)

-- what is known of the base that a set is written from
pub record Base (r : Range) (s : ChannelSet) (o : ℕ) : Type 0 where
  pub low : o < 1024
  pub near : (d : ℕ) → full (width_of r) < d → d < 1024 → seen s o d ≡ false
  pub tail : tail_in r s o < 2 ^ tail_of r
  pub base : (os : List ℕ) → Headed r (tail_in r s o) os → base_in r os ≡ o
  pub held : (os : List ℕ) → Headed r (tail_in r s o) os → base_held r os ≡ holds s o

digit-below : (b : Bool) → cond b 1 0 < 2
digit-below true = omega arith
digit-below false = omega arith

digit-test : (b : Bool) → (cond b 1 0 == 1) ≡ b
digit-test true = refl
digit-test false = refl

pub is_base : (r : Range) (s : ChannelSet) (o : ℕ) → base_of r s ≡ Some o → Base r s o
is_base R1024 s o e =
    let z : 0 ≡ o = cc in
    record {
      low = omega arith;
      near = λ d a b. absurd (omega arith);
      tail = digit-below (holds s 0);
      base = λ os h. z;
      held = λ os h. ap (λ v. nat_eq v 1) h.tail ∙ digit-test (holds s 0) ∙ ap (holds s) z;
    }
is_base R512 s o e = let g = is_origin s 511 o e in record { low = g.low; near = g.near; tail = g.low; base = λ os h. h.tail; held = λ os h. sym g.held }
is_base R256 s o e = let g = is_origin s 255 o e in record { low = g.low; near = g.near; tail = g.low; base = λ os h. h.tail; held = λ os h. sym g.held }
is_base R128 s o e = let g = is_origin s 127 o e in record { low = g.low; near = g.near; tail = g.low; base = λ os h. h.tail; held = λ os h. sym g.held }

-- What is written

pub front_below : (r : Range) (t : ℕ) → t < 2 ^ tail_of r → head_of r t < 2 ^ start_of r
front_below R1024 t h = omega arith
front_below R512 t h = omega arith
front_below R256 t h = omega arith
front_below R128 t h = omega arith

pub width_is : (K i : ℕ) → width K i ≡ K - level K i
unfolding width
width_is K i = refl

mark_short : (r : Range) → start_of r - tail_of r ≤ 8
mark_short R1024 = omega arith
mark_short R512 = omega arith
mark_short R256 = omega arith
mark_short R128 = omega arith

module _ (r : Range) (s : ChannelSet) (o L : ℕ) (b : Base r s o) (fit : fits_of r L ≡ true) (room : others r s o ≤ slots_of r L) where
  abbrev K : ℕ
  K = width_of r

  abbrev n : ℕ
  n = others r s o

  abbrev W : ℕ → ℕ
  W = written K (seen s o)

  abbrev os : List ℕ
  os = range_octets r s L o

  tree : Trip K (seen s o)
  tree = tree-stands K (seen s o)

  below : (i : ℕ) → i ≤ n → i < 2 ^ K
  below i l = omega (arith, slots-few r L)

  holding : Holds r (head_of r (tail_in r s o)) W n L os
  holding = trip r (head_of r (tail_in r s o)) W n L record {
    held = has-length r L fit;
    few = room;
    front = front_below r (tail_in r s o) b.tail;
    narrow = λ i p q. subst (λ w. W i < 2 ^ w) (sym (width_is K i)) (tree.fits (level K i) i (level_is K i p (below i q)).low);
  }

  headed : Headed r (tail_in r s o) os
  headed = heads r (tail_in r s o) os b.tail holding.head

  back : ReadBack r n os
  back = reads r (head_of r (tail_in r s o)) W n L os holding room (λ i p q z. omega (arith, tree.there i p q))

  pub octets-long : length os ≡ L
  octets-long = holding.long

  pub octets-below : Octets os
  octets-below = All-from_get_or (λ x. x < 256) os 0 (λ i l. holding.octets i)

  pub octets-claimed : claim_of r (slice_index os 0) ≡ true
  octets-claimed =
      mark-claims r (slice_index os 0) (holding.octets 0)
      (eq-eqb _ (mark_of r) (first_octet_lem os (start_of r - tail_of r) (mark_short r) (holding.octets 0) ∙ headed.mark))

  same_number : (i : ℕ) → 1 ≤ i → i ≤ n → number K (number_in r os) i ≡ number K W i
  same_number i p q = prefix-stands K (number_in r os) W i p (below i q) (λ j x y. holding.numbers j x (omega arith))

  stands-seen : (d : ℕ) → 1 ≤ d → d < 1024 → stands_for K (number_in r os) n d ≡ seen s o d
  stands-seen d p q = go (seen s o d) refl
    where
      go : (x : Bool) → seen s o d ≡ x → stands_for K (number_in r os) n d ≡ x
      go true e =
          ⊎_elim (λ l. absurd (both_ways (seen s o d) (b.near d l q) e))
          (λ l. let f = tree.finds d p l (t_of (seen s o d) e) in stands_at K (number_in r os) n d f.0 f.1 f.2 (same_number f.0 f.1 f.2 ∙ f.3))
          (cases_lt (full K) d)
      go false e =
          stands-none K (number_in r os) n d
          (λ i x y z. both_ways (seen s o d) e (ap (seen s o) (sym (sym (same_number i x y) ∙ z)) ∙ of_t (seen s o (number K W i)) (tree.reads i x y)))

  member_is : (c : ℕ) → c < 1024 → member o (holds s o) K (number_in r os) n c ≡ holds s c
  member_is c l =
      let low = b.low in
      let d = ahead o c in
      let there : (o + (c + 1024 - o) % 1024) % 1024 ≡ c = omega arith in
      ⊎_elim
      (λ z. let same : o ≡ c = omega arith in cond-true (d == 0) (holds s o) (stands_for K (number_in r os) n d) (eq-eqb d 0 z) ∙ ap (holds s) same)
      (λ z. cond-false (d == 0) (holds s o) (stands_for K (number_in r os) n d) (ne_eqb d 0 z) ∙ stands-seen d (omega arith) (omega arith) ∙ ap (holds s) there)
      (cases_eq d 0)

  pub read_back : range_read r os (unpacked r os) ≡ Ok s
  read_back =
      ap (range_read r os) back.answer
      ∙ ap₂ (λ x h. Ok (set_of (member x h K (number_in r os) n))) (b.base os headed) (b.held os headed)
      ∙ ap Ok (same_set (set_of (member o (holds s o) K (number_in r os) n)) s (λ c l. holds_of (member o (holds s o) K (number_in r os) n) c l ∙ member_is c l))

-- the base that is taken, and that there is room
pub record Wrote (r : Range) (s : ChannelSet) (L : ℕ) (os : List ℕ) : Type 0 where
  pub from : ℕ
  pub base : Base r s from
  pub room : others r s from ≤ slots_of r L
  pub same : range_octets r s L from ≡ os

is_wrote : (r : Range) (s : ChannelSet) (L : ℕ) (os : List ℕ) → written_from r s L (base_of r s) ≡ Some os → Wrote r s L os
is_wrote r s L os = go (base_of r s) refl
  where
    by : (o : ℕ) (t : Bool) → nat_le (others r s o) (slots_of r L) ≡ t → cond t (Some (range_octets r s L o)) None ≡ Some os → (others r s o ≤ slots_of r L) × (range_octets r s L o ≡ os)
    by o true e q = (leb-true (others r s o) (slots_of r L) e, cc)
    by o false e q = let z : ◌≡◌ {A = ℕ} 0 1 = cc in absurd (omega arith)

    go : (w : Option ℕ) → base_of r s ≡ w → written_from r s L w ≡ Some os → Wrote r s L os
    go None e q = let z : ◌≡◌ {A = ℕ} 0 1 = cc in absurd (omega arith)
    go (Some o) e q = let p = by o (nat_le (others r s o) (slots_of r L)) refl q in record { from = o; base = is_base r s o e; room = p.0; same = p.1 }

-- What is read

module _ (r : Range) (s : ChannelSet) (os : List ℕ) (n : ℕ) (ok : unpacked r os ≡ Ok n) (same : set_of (in_range r os n) ≡ s) (small : base_in r os < 1024) where
  abbrev B : ℕ
  B = base_in r os

  holds_is : (c : ℕ) → c < 1024 → holds s c ≡ in_range r os n c
  holds_is c l = ap (λ (t : ChannelSet). holds t c) (sym same) ∙ holds_of (in_range r os n) c l

  seen_is : (d : ℕ) → 1 ≤ d → d < 1024 → seen s B d ≡ stands_for (width_of r) (number_in r os) n d
  seen_is d p q =
      let e : ((B + d) % 1024 + 1024 - B) % 1024 ≡ d = omega arith in
      holds_is ((B + d) % 1024) (omega arith) ∙ ap (λ x. cond (x == 0) (base_held r os) (stands_for (width_of r) (number_in r os) n x)) e
      ∙ cond-false (d == 0) (base_held r os) (stands_for (width_of r) (number_in r os) n d) (ne_eqb d 0 (λ z. omega arith))

  pub base-held : holds s B ≡ base_held r os
  base-held =
      let e : (B + 1024 - B) % 1024 ≡ 0 = omega arith in
      holds_is B small ∙ ap (λ x. cond (x == 0) (base_held r os) (stands_for (width_of r) (number_in r os) n x)) e

  pub all_near : (d : ℕ) → full (width_of r) < d → d < 1024 → seen s B d ≡ false
  all_near d p q =
      seen_is d (omega arith) q
      ∙ stands-none (width_of r) (number_in r os) n d (λ i x y z. let c = on_circle r os n ok i x y in omega (arith, c.1))

  -- no more members besides the base than numbers were read
  pub few-others : full (width_of r) < 1024 → others r s B ≤ slots_of r (length os)
  few-others f =
      let c = few-stands (width_of r) (seen s B) (number_in r os) n
      (λ q x y t. stands-some (width_of r) (number_in r os) n q (sym (seen_is q x (omega arith)) ∙ of_t (seen s B q) t)) in
      omega (arith, few r os n ok)

pub base-below : (r : Range) (os : List ℕ) → base_in r os < 1024
base-below R1024 os = omega arith
base-below R512 os = field_below os 7 10
base-below R256 os = field_below os 7 10
base-below R128 os = field_below os 7 10

origin-read : (s : ChannelSet) (reach o : ℕ) → 2 * reach < 1024 → Origin s reach o → (w : Option ℕ) → origin_of s reach ≡ w → w ≡ Some o
origin-read s reach o half g w e = let x = has-origin s reach o g w e in x.1 ∙ ap Some (sym (one-origin s reach o x.0 half g (is_origin s reach x.0 (e ∙ x.1))))

-- what octets are read from is what their set is written from
base_read : (r : Range) (s : ChannelSet) (os : List ℕ) → holds s (base_in r os) ≡ base_held r os → ((d : ℕ) → full (width_of r) < d → d < 1024 → seen s (base_in r os) d ≡ false) → (w : Option ℕ) → base_of r s ≡ w → w ≡ Some (base_in r os)
base_read R1024 s os h near w e = sym e
base_read R512 s os h near w e = origin-read s 511 (field os 7 10) (omega arith) record { low = field_below os 7 10; held = h; near = near } w e
base_read R256 s os h near w e = origin-read s 255 (field os 7 10) (omega arith) record { low = field_below os 7 10; held = h; near = near } w e
base_read R128 s os h near w e = origin-read s 127 (field os 7 10) (omega arith) record { low = field_below os 7 10; held = h; near = near } w e

never-read : (r : Range) (s : ChannelSet) (os : List ℕ) → written_from r s (length os) (base_of r s) ≡ None → range_read r os (unpacked r os) ≢ Ok s
never-read r s os e = go (unpacked r os) refl
  where
    refused : (o : ℕ) → others r s o ≤ slots_of r (length os) → written_from r s (length os) (Some o) ≢ None
    refused o l q =
        some-none (cond-true (nat_le (others r s o) (slots_of r (length os))) (Some (range_octets r s (length os) o)) None (le-leb (others r s o) (slots_of r (length os)) l)) q

    go : (a : Result ℕ FormatFault) → unpacked r os ≡ a → range_read r os a ≢ Ok s
    go (Err f) p q = let z : ◌≡◌ {A = ℕ} 0 1 = cc in omega arith
    go (Ok n) p q =
        let same : set_of (in_range r os n) ≡ s = cc in
        let small = base-below r os in
        let base = base_read r s os (base-held r s os n p same small) (all_near r s os n p same small) (base_of r s) refl in
        refused (base_in r os) (few-others r s os n p same small (full-below r)) (ap (written_from r s (length os)) (sym base) ∙ e)

pub range_faithful : (r : Range) → Faithful (range_codec r)
range_faithful r = record {
  sizes = λ L e. let h = has-length r L e in (omega (arith, least-one r, h.least), h.most);
  plain_claim = plain-claims r;
  plain-set = λ o os h. plain-read r o os;
  long = λ s L os f e. let w = is_wrote r s L os e in ap length (sym w.same) ∙ octets-long r s w.from L w.base f w.room;
  octets = λ s L os f e. let w = is_wrote r s L os e in rw (← w.same) (octets-below r s w.from L w.base f w.room);
  claims = λ s L os f e. let w = is_wrote r s L os e in ap (λ xs. claim_of r (slice_index xs 0)) (sym w.same) ∙ octets-claimed r s w.from L w.base f w.room;
  back = λ s L os f e. let w = is_wrote r s L os e in ap (λ xs. range_read r xs (unpacked r xs)) (sym w.same) ∙ read_back r s w.from L w.base f w.room;
  never = λ s os f e oct d. never-read r s os e d;
}

pub range_lawful : (r : Range) → Lawful (format_of (range_codec r))
range_lawful r = format_lawful (range_codec r) (range_faithful r)
