-- The variable bit map reads back what it writes, and writes whatever it can read.
use Rattle.std.specs.Prelude.{◌≡◌, ℕ, zero, suc, ◌+◌, ◌-◌, ◌*◌, ◌/◌, ◌%◌, ◌^◌, ◌<◌, ◌≤◌, true, ◌||◌, List, ◌∷◌, length, Some, None, Ok, Option, ◌==◌, ◌≢◌, nat_le, nat_lt, slice_index, slice_index_or, refl}
use Rattle.std.proofs.Common.{sym, ◌∙◌, ap, ⊎_elim, arith}
use Rattle.std.proofs.ByRecursion.{All-from_get_or}
use Rattle.std.proofs.lemmas.Bool.{and_parts, and_from, eqb-true, leb-true, eq-eqb, ne_eqb, lt-ltb, le-ltb, cases_lt, cases_eq, cond-true, cond-false, or_cases, both_ways}
use Rattle.bits.specs.Bits.{bit}
use Rattle.bits.specs.Lowest.{lowest}
use Rattle.bits.proofs.Agree.{agree}
use Rattle.bits.proofs.Digits.{bit_mod, bit_shr}
use Rattle.channels.specs.declared.ChannelSet.{ChannelSet}
use Rattle.channels.specs.Sets.{holds}
use Rattle.channels.proofs.Views.{same_set, set_same, holds_of}
use Rattle.origins.specs.Origins.{ahead, origin_of, seen_from, Origin}
use Rattle.origins.proofs.Reach.{member_below, origin-some, origin-none}
use Rattle.origins.proofs.Seen.{seen-ahead, seen-zero, seen-past}
use Rattle.packing.specs.Fields.{bit_at}
use Rattle.packing.proofs.Fields.{at_split, field_below, field_is, field-same, first_octet_lem}
use Rattle.packing.proofs.Packings.{length-octets, octets-below, at-past, at-octets}
use Rattle.piles.specs.Flagged.{plain}
use Rattle.formats.specs.Variable.{variable_claim, variable_fits, variable_reach, orig_in, is_marked, variable_set, variable_bit, variable_octets, written_from, variable}
use Rattle.piles.specs.Faithful.{Faithful}

-- bits 6 and 5 of the first octet
plain-claims : (o : ℕ) → o < 256 → variable_claim (plain o) ≡ variable_claim o
unfolding lowest
plain-claims o h = agree (λ o. variable_claim (plain o)) variable_claim 256 refl o h

plain_at : (o : ℕ) (os : List ℕ) (x : ℕ) → 7 ≤ x → bit_at (plain o ∷ os) x ≡ bit_at (o ∷ os) x
plain_at o os x h = at_split (plain o ∷ os) x ∙ go (x / 8) refl ∙ sym (at_split (o ∷ os) x)
  where
    go : (i : ℕ) → x / 8 ≡ i → bit (slice_index (plain o ∷ os) i) (7 - x % 8) ≡ bit (slice_index (o ∷ os) i) (7 - x % 8)
    go zero e =
        let k : 7 - x % 8 < 4 = omega arith in
        let m : plain o % 16 ≡ o % 16 = omega arith in
        sym (bit_mod (plain o) 4 (7 - x % 8) k) ∙ ap (λ y. bit y (7 - x % 8)) m ∙ bit_mod o 4 (7 - x % 8) k
    go (suc i) e = refl

plain_sets : (o : ℕ) (os : List ℕ) → variable_set (plain o ∷ os) ≡ variable_set (o ∷ os)
plain_sets o os =
    let e : orig_in (plain o ∷ os) ≡ orig_in (o ∷ os) = field-same (plain o ∷ os) (o ∷ os) 7 10 (λ x l m. plain_at o os x l) in
    set_same (λ c. is_marked (plain o ∷ os) (ahead (orig_in (plain o ∷ os)) c)) (λ c. is_marked (o ∷ os) (ahead (orig_in (o ∷ os)) c))
    (λ c l. ap (λ x. is_marked (plain o ∷ os) (ahead x c)) e
    ∙ ap (λ b. (ahead (orig_in (o ∷ os)) c == 0) || b) (plain_at o os (16 + ahead (orig_in (o ∷ os)) c) (omega arith)))

-- a channel of what is read
in_variable : (os : List ℕ) (c : ℕ) → c < 1024 → holds (variable_set os) c ≡ is_marked os (ahead (orig_in os) c)
in_variable os c l = holds_of (λ c. is_marked os (ahead (orig_in os) c)) c l

pub orig_below : (os : List ℕ) → orig_in os < 1024
orig_below os = field_below os 7 10

-- ORIG can be origin: nothing is marked behind the end
pub orig_serves : (os : List ℕ) → 3 ≤ length os → Origin (variable_set os) (variable_reach (length os)) (orig_in os)
orig_serves os long =
    let b = orig_below os in
    record {
      held = let z : ahead (orig_in os) (orig_in os) ≡ 0 = omega arith in in_variable os (orig_in os) b ∙ ap (is_marked os) z;
      within = λ m t.
          let l = member_below (variable_set os) m t in
          ⊎_elim (λ z. let e = eqb-true (ahead (orig_in os) m) 0 z in omega arith)
          (λ s. ⊎_elim (λ far. absurd (both_ways (bit_at os (16 + ahead (orig_in os) m)) (at-past os (16 + ahead (orig_in os) m) (omega arith)) s)) (λ near. near) (cases_lt (variable_reach (length os)) (ahead (orig_in os) m)))
          (or_cases (ahead (orig_in os) m == 0) (bit_at os (16 + ahead (orig_in os) m)) (sym (in_variable os m l) ∙ t));
    }

-- what is written
module _ (s : ChannelSet) (L o : ℕ) (low : 3 ≤ L) (high : L ≤ 130) (small : o < 1024) (origin : Origin s (variable_reach L) o) where
  abbrev os : List ℕ
  os = variable_octets s L o

  abbrev seen : ChannelSet
  seen = seen_from s o

  head-bit : (x : ℕ) → x < 17 → bit_at os x ≡ bit (71 * 1024 + o) (16 - x)
  head-bit x l =
      at-octets (variable_bit seen o) L x (omega arith)
      ∙ cond-true (nat_lt x 17) (bit (71 * 1024 + o) (16 - x)) (holds seen (x - 16)) (lt-ltb x 17 l)

  orig_back : orig_in os ≡ o
  orig_back =
      sym (field_is os 7 10 o small (λ k l.
      let e : 16 - (7 + (10 - suc k)) ≡ k = omega arith in
      let m : (71 * 1024 + o) % 2 ^ 10 ≡ o = omega arith in
      sym (head-bit (7 + (10 - suc k)) (omega arith) ∙ ap (bit (71 * 1024 + o)) e ∙ sym (bit_mod (71 * 1024 + o) 10 k l) ∙ ap (λ x. bit x k) m)))

  first_is : slice_index_or os 0 0 / 2 ≡ 71
  first_is =
      first_octet_lem os 7 (omega arith) (octets-below (variable_bit seen o) L 0)
      ∙ sym (field_is os 0 7 71 (omega arith) (λ k l.
      let e : 16 - (0 + (7 - suc k)) ≡ 10 + k = omega arith in
      let m : (71 * 1024 + o) / 2 ^ 10 ≡ 71 = omega arith in
      sym (head-bit (0 + (7 - suc k)) (omega arith) ∙ ap (bit (71 * 1024 + o)) e ∙ sym (bit_shr (71 * 1024 + o) 10 k) ∙ ap (λ x. bit x k) m)))

  claimed-back : variable_claim (slice_index os 0) ≡ true
  claimed-back =
      let e = first_is in
      and_from (slice_index os 0 / 64 == 2) (slice_index os 0 / 2 % 8 == 7) (eq-eqb (slice_index os 0 / 64) 2 (omega arith)) (eq-eqb (slice_index os 0 / 2 % 8) 7 (omega arith))

  -- each channel ahead of the origin has its bit
  mark-back : (n : ℕ) → n < 1024 → is_marked os n ≡ holds seen n
  mark-back n l =
      ⊎_elim (λ z. ap (λ b. b || bit_at os (16 + n)) (eq-eqb n 0 z) ∙ sym (ap (holds seen) z ∙ seen-zero s (variable_reach L) o origin))
      (λ nz. ap (λ b. b || bit_at os (16 + n)) (ne_eqb n 0 nz)
      ∙ ⊎_elim
      (λ far. at-past os (16 + n) (omega (arith, length-octets (variable_bit seen o) L)) ∙ sym (seen-past s (variable_reach L) o origin n far))
      (λ near. let e : 16 + n - 16 ≡ n = omega arith in
      at-octets (variable_bit seen o) L (16 + n) (omega arith)
      ∙ cond-false (nat_lt (16 + n) 17) (bit (71 * 1024 + o) (16 - (16 + n))) (holds seen (16 + n - 16)) (le-ltb (16 + n) 17 (positive n nz)) ∙ ap (holds seen) e)
      (cases_lt (variable_reach L) n))
      (cases_eq n 0)
    where
      positive : (n : ℕ) → (n ≢ 0) → 17 ≤ 16 + n
      positive zero nz = absurd (nz refl)
      positive (suc n) nz = omega arith

  set_back : variable_set os ≡ s
  set_back =
      same_set (variable_set os) s (λ c l.
      in_variable os c l ∙ ap (λ x. is_marked os (ahead x c)) orig_back ∙ mark-back (ahead o c) (omega arith) ∙ seen-ahead s o c small l)

from_some : (o : Option ℕ) (f : ℕ → List ℕ) (os : List ℕ) → written_from o f ≡ Some os → (c : ℕ) × (o ≡ Some c) × (f c ≡ os)
from_some (Some c) f os e = (c, refl, cc)
from_some None f os e = let z : ◌≡◌ {A = ℕ} 0 1 = cc in absurd (omega arith)

from-none : (o : Option ℕ) (f : ℕ → List ℕ) → written_from o f ≡ None → o ≡ None
from-none (Some c) f e = let z : ◌≡◌ {A = ℕ} 0 1 = cc in absurd (omega arith)
from-none None f e = refl

fits_bounds : (L : ℕ) → variable_fits L ≡ true → (3 ≤ L) × (L ≤ 130)
fits_bounds L e = let p = and_parts (nat_le 3 L) (nat_le L 130) e in (leb-true 3 L p.0, leb-true L 130 p.1)

-- what stands behind an answer of the writer
record Wrote (s : ChannelSet) (L : ℕ) (os : List ℕ) : Type 0 where
  from : ℕ
  least : 3 ≤ L
  most : L ≤ 130
  small : from < 1024
  origin : Origin s (variable_reach L) from
  same : variable_octets s L from ≡ os

wrote : (s : ChannelSet) (L : ℕ) (os : List ℕ) → variable_fits L ≡ true → variable.encoded s L ≡ Some os → Wrote s L os
wrote s L os f e =
    let w = from_some (origin_of s (variable_reach L)) (variable_octets s L) os e in
    let first = origin-some s (variable_reach L) w.0 w.1 in
    let b = fits_bounds L f in
    record { from = w.0; least = b.0; most = b.1; small = first.below; origin = first.origin; same = w.2 }

pub variable_faithful : Faithful variable
variable_faithful = record {
  sizes = λ L e. let b = fits_bounds L e in (omega (arith, b.0), b.1);
  plain_claim = plain-claims;
  plain-set = λ o os h. ap Ok (plain_sets o os);
  long = λ s L os f e. let w = wrote s L os f e in ap length (sym w.same) ∙ length-octets (variable_bit (seen_from s w.from) w.from) L;
  octets = λ s L os f e. let w = wrote s L os f e in All-from_get_or (λ o. o < 256) os 0 (λ i h. rw (← w.same) (octets-below (variable_bit (seen_from s w.from) w.from) L i));
  claims = λ s L os f e. let w = wrote s L os f e in ap (λ xs. variable_claim (slice_index xs 0)) (sym w.same) ∙ claimed-back s L w.from w.least w.most w.small w.origin;
  back = λ s L os f e. let w = wrote s L os f e in ap Ok (ap variable_set (sym w.same) ∙ set_back s L w.from w.least w.most w.small w.origin);
  never = λ s os f e oct r.
      let same : variable_set os ≡ s = cc in
      let none : origin_of (variable_set os) (variable_reach (length os)) ≡ None = ap (λ t. origin_of t (variable_reach (length os))) same ∙ from-none (origin_of s (variable_reach (length os))) (variable_octets s (length os)) e in
      origin-none (variable_set os) (variable_reach (length os)) none (orig_in os) (orig_serves os (fits_bounds (length os) f).0);
}
