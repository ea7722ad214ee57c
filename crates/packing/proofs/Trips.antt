-- What is written is read again.
use Rattle.std.proofs.Common.{◌≡◌, ℕ, zero, suc, ◌+◌, ◌-◌, ◌*◌, ◌^◌, ◌<◌, ◌≤◌, false, not, ◌&&◌, ◌||◌, eqb, ltb, List, length, replicate, Some, None, Ok, Option, sym, refl, ap, ◌∙◌, subst, ap₂, ⊎_elim, arith}
use Rattle.std.proofs.lemmas.List.{length-replicate}
use Rattle.std.proofs.lemmas.Bool.{cases_lt}
use Rattle.bits.specs.Bits.{bit}
use Rattle.bits.specs.Lowest.{lowest}
use Rattle.bits.proofs.Digits.{bit-zero}
use Rattle.bits.proofs.Lows.{lowest-same}
use Rattle.packing.specs.declared.Range.{Range}
use Rattle.packing.specs.declared.Range.TheVariants.{R1024, R512, R256, R128}
use Rattle.packing.specs.Ranges.{width_of, start_of}
use Rattle.packing.specs.Fields.{bit_at, field, width, before}
use Rattle.packing.specs.Slots.{slots_of}
use Rattle.packing.specs.Reading.{number_in, slots_in, is_null, first_null, later_one, after_null, leading, unpacked, filled, count_to, read_to, Read, Unpacked}
use Rattle.packing.specs.Writing.{Packable, Holds, stands, laid, packed}
use Rattle.packing.specs.Trips.{Trip, Only, Reads, ReadBack, Again, Behind, SameNumbers, Heads}
use Rattle.packing.proofs.Widths.{before-none, before_more, before_mono}
use Rattle.packing.proofs.Fields.{bit-field, field_is, field-same, field-null, field_below, field_split}
use Rattle.packing.proofs.Counts.{slots_are}
use Rattle.packing.proofs.Stands.{or_none, stands_in, stands-before, stands-behind}
use Rattle.packing.proofs.Packings.{laid_none, laid_more, laid-before, laid-behind, laid-here, length-packed, packed-below, at_packed, at-past, octets-same}
use Rattle.packing.proofs.Readings.{number_is, first_is, first-none, later-none, unpacked-first, unpacked-all, leading-first, leading-all, filled_means}

-- a field over octets whose bits there are those of v
field-stands : (os : List ℕ) (p w v : ℕ) → v < 2 ^ w → ((x : ℕ) → p ≤ x → x < p + w → bit_at os x ≡ stands p w v x) → field os p w ≡ v
field-stands os p w v h f =
    sym (field_is os p w v h
    (λ k l. let x = p + (w - suc k) in
    let i : k ≡ p + w - suc x = omega arith in
    ap (bit v) i ∙ sym (stands_in p w v x (omega arith) (omega arith)) ∙ sym (f x (omega arith) (omega arith))))

-- and the bits of a field
stands-field : (os : List ℕ) (p w x : ℕ) → p ≤ x → x < p + w → bit_at os x ≡ stands p w (field os p w) x
stands-field os p w x a b =
    let k = p + w - suc x in
    let i : p + (w - suc k) ≡ x = omega arith in
    ap (bit_at os) (sym i) ∙ sym (bit-field os p w k (omega arith)) ∙ sym (stands_in p w (field os p w) x a b)

null-bits : (os : List ℕ) (p w x : ℕ) → field os p w ≡ 0 → p ≤ x → x < p + w → bit_at os x ≡ false
null-bits os p w x e a b =
    stands-field os p w x a b ∙ stands_in p w (field os p w) x a b ∙ ap (λ v. bit v (p + w - suc x)) e ∙ bit-zero (p + w - suc x)

-- W(i + 1) by its place
number-next : (r : Range) (os : List ℕ) (i : ℕ) → number_in r os (suc i) ≡ field os (start_of r + before (width_of r) i) (width (width_of r) (suc i))
number-next r os i = let e : suc i - 1 ≡ i = omega arith in number_is r os (suc i) ∙ ap (λ j. field os (start_of r + before (width_of r) j) (width (width_of r) (suc i))) e

pred_of : (P : ℕ → Type 0) (i : ℕ) → 1 ≤ i → P (suc (i - 1)) → P i
pred_of P i h p = let e : suc (i - 1) ≡ i = omega arith in subst P e p

-- the octets written hold what they should
module _ (r : Range) (h : ℕ) (W : ℕ → ℕ) (n len : ℕ) (p : Packable r h W n len) where
  room : start_of r + before (width_of r) n ≤ 8 * len
  room = omega (arith, (slots_are r len p.held).fits.whole, before_mono (width_of r) n (slots_of r len) p.few)

  wrote : (i : ℕ) → i < n → number_in r (packed r h W n len) (suc i) ≡ W (suc i)
  wrote i l =
      let K = width_of r in
      let s = start_of r in
      let m = before_more K i in
      number-next r (packed r h W n len) i
      ∙ field-stands (packed r h W n len) (s + before K i) (width K (suc i)) (W (suc i)) (p.narrow (suc i) (omega arith) (omega arith))
      (λ x a b. at_packed r h W n len x (omega (arith, room, before_mono K (suc i) n (omega arith)))
      ∙ laid-here K s (stands 0 s h) W n i x l (stands-behind 0 s h x (omega arith)) a (omega arith))

  trips : Holds r h W n len (packed r h W n len)
  trips =
      record {
        long = length-packed r h W n len;
        octets = packed-below r h W n len;
        head = field-stands (packed r h W n len) 0 (start_of r) h p.front
            (λ x a b. at_packed r h W n len x (omega (arith, room)) ∙ laid-before (width_of r) (start_of r) (stands 0 (start_of r) h) W n x (omega arith));
        numbers = λ i a b. pred_of (λ j. number_in r (packed r h W n len) j ≡ W j) i a (wrote (i - 1) (omega arith));
        rest = λ x a. ⊎_elim
            (λ l. at_packed r h W n len x l ∙ laid-behind (width_of r) (start_of r) (stands 0 (start_of r) h) W n x a ∙ stands-behind 0 (start_of r) h x (omega arith))
            (λ l. at-past (packed r h W n len) x (omega (arith, length-packed r h W n len)))
            (cases_lt x (8 * len));
      }

pub trip : Trip
trip r h W n len p = trips r h W n len p

-- and nothing else does
module _ (r : Range) (h : ℕ) (W : ℕ → ℕ) (len : ℕ) (os : List ℕ) (head : field os 0 (start_of r) ≡ h) where
  fills : (n : ℕ) → ((i : ℕ) → i < n → number_in r os (suc i) ≡ W (suc i)) → (x : ℕ) → x < start_of r + before (width_of r) n → bit_at os x ≡ laid (width_of r) (start_of r) (stands 0 (start_of r) h) W n x
  fills zero f x l =
      stands-field os 0 (start_of r) x (omega arith) (omega (arith, before-none (width_of r))) ∙ ap (λ v. stands 0 (start_of r) v x) head
      ∙ sym (laid_none (width_of r) (start_of r) (stands 0 (start_of r) h) W x)
  fills (suc n) f x l =
      let K = width_of r in
      let s = start_of r in
      let m = before_more K n in
      ⊎_elim
      (λ a. fills n (λ i q. f i (omega arith)) x a ∙ sym (or_none (laid K s (stands 0 s h) W n x))
      ∙ ap (λ z. laid K s (stands 0 s h) W n x || z) (sym (stands-before (s + before K n) (width K (suc n)) (W (suc n)) x a)))
      (λ a. stands-field os (s + before K n) (width K (suc n)) x a (omega arith)
      ∙ ap (λ v. stands (s + before K n) (width K (suc n)) v x) (sym (number-next r os n) ∙ f n (omega arith))
      ∙ ap (λ z. z || stands (s + before K n) (width K (suc n)) (W (suc n)) x) (sym (laid-behind K s (stands 0 s h) W n x a ∙ stands-behind 0 s h x (omega arith))))
      (cases_lt x (s + before K n))
      ∙ sym (laid_more K s (stands 0 s h) W n x)

pub only : Only
only r h W n len os p =
    let K = width_of r in
    let s = start_of r in
    octets-same os (packed r h W n len) (p.long ∙ sym (length-packed r h W n len)) p.octets (packed-below r h W n len)
    (λ x l. ⊎_elim
    (λ a. fills r h W len os p.head n (λ i q. p.numbers (suc i) (omega arith) (omega arith)) x a)
    (λ a. p.rest x a ∙ sym (laid-behind K s (stands 0 s h) W n x a ∙ stands-behind 0 s h x (omega arith)))
    (cases_lt x (s + before K n))
    ∙ sym (at_packed r h W n len x (omega (arith, p.long))))

-- the numbers are read
module _ (r : Range) (h : ℕ) (W : ℕ → ℕ) (n len : ℕ) (os : List ℕ) (p : Holds r h W n len os) where
  later : (i : ℕ) → n ≤ i → number_in r os (suc i) ≡ 0
  later i l =
      number-next r os i
      ∙ field-null os (start_of r + before (width_of r) i) (width (width_of r) (suc i)) (λ x a b. p.rest x (omega (arith, before_mono (width_of r) n i l)))

  later-all : (i : ℕ) → n < i → number_in r os i ≡ 0
  later-all i l = pred_of (λ j. number_in r os j ≡ 0) i (omega arith) (later (i - 1) (omega arith))

  module _ (few : n ≤ slots_of r len) (some : (i : ℕ) → 1 ≤ i → i ≤ n → W i ≡ 0 → ⊥) where
    slots_same : slots_in r os ≡ slots_of r len
    slots_same = ap (slots_of r) p.long

    never : (i : ℕ) → 1 ≤ i → i ≤ n → number_in r os i ≡ 0 → ⊥
    never i a b z = some i a b (sym (p.numbers i a b) ∙ z)

    ended : n < slots_of r len → first_null r os ≡ Some (n + 1 - 1)
    ended l = first_is r os (n + 1) (omega arith) (omega (arith, slots_same)) (later-all (n + 1) (omega arith)) (λ j a b. never j a (omega arith))

    all_there : n ≡ slots_of r len → first_null r os ≡ None
    all_there e = first-none r os (λ j a b. never j a (omega (arith, slots_same)))

    back : ReadBack r n os
    back =
        let e : n + 1 - 1 ≡ n = omega arith in
        ⊎_elim
        (λ l. record {
          answer = sym (unpacked-first r os (n + 1 - 1) (ended l)) ∙ sym (later-none r os (n + 1) (omega arith) (λ j a b. later-all j (omega arith))) ∙ ap Ok e;
          count = sym (leading-first r os (n + 1 - 1) (ended l)) ∙ e;
          nulls = later-all;
        })
        (λ l. let s : n ≡ slots_of r len = omega arith in
        record {
          answer = sym (unpacked-all r os (all_there s)) ∙ ap Ok (slots_same ∙ sym s);
          count = sym (leading-all r os (all_there s)) ∙ slots_same ∙ sym s;
          nulls = later-all;
        })
        (cases_lt n (slots_of r len))

pub reads : Reads
reads r h W n len os p few some = back r h W n len os p few some

-- bits of null numbers
module _ (r : Range) (os : List ℕ) (n : ℕ) where
  null_run : (m x : ℕ) → ((i : ℕ) → n < i → i ≤ m → number_in r os i ≡ 0) → start_of r + before (width_of r) n ≤ x → x < start_of r + before (width_of r) m → bit_at os x ≡ false
  null_run zero x f a b = absurd (omega (arith, before-none (width_of r)))
  null_run (suc m) x f a b =
      let K = width_of r in
      ⊎_elim
      (λ l. null_run m x (λ i c d. f i c (omega arith)) a l)
      (λ l. ⊎_elim
      (λ c. null-bits os (start_of r + before K m) (width K (suc m)) x (sym (number-next r os m) ∙ f (suc m) (omega arith) (omega arith)) l (omega (arith, before_more K m)))
      (λ c. absurd (omega (arith, before_mono K (suc m) n c)))
      (cases_lt n (suc m)))
      (cases_lt x (start_of r + before K m))

  read_of : unpacked r os ≡ Ok n → (i : ℕ) → n < i → i ≤ slots_in r os → number_in r os i ≡ 0
  read_of e =
      let l = leading r os in
      let xs : List ℕ = replicate (suc l) 0 in
      let table = filled (number_in r os) l xs in
      let m = filled_means r os table xs l refl (omega (arith, length-replicate {A = ℕ} (suc l) 0)) refl in
      let d : Read r os table n = subst (λ a. Unpacked r os table a) e m in
      d.ends

pub again : Again
again r n os f e z =
    only r (field os 0 (start_of r)) (number_in r os) n (length os) os
    (record {
      long = refl;
      octets = f;
      head = refl;
      numbers = λ i a b. refl;
      rest = λ x a. ⊎_elim (null_run r os n (slots_in r os) x (read_of r os n e) a) (z x) (cases_lt x (start_of r + before (width_of r) (slots_in r os)));
    })

-- only the bits from the first position on
module _ (r : Range) (os us : List ℕ) (e : length os ≡ length us) (f : (x : ℕ) → start_of r ≤ x → bit_at os x ≡ bit_at us x) where
  same_number : (i : ℕ) → number_in r os i ≡ number_in r us i
  same_number i =
      number_is r os i
      ∙ field-same os us (start_of r + before (width_of r) (i - 1)) (width (width_of r) i) (λ x a b. f x (omega arith))
      ∙ sym (number_is r us i)

  same-slots : slots_in r os ≡ slots_in r us
  same-slots = ap (slots_of r) e

  same-null : (k : ℕ) → is_null r os k ≡ is_null r us k
  unfolding is_null
  same-null k = ap (λ v. eqb v 0) (same_number (suc k))

  same_first : first_null r os ≡ first_null r us
  same_first = lowest-same (is_null r os) (is_null r us) (slots_in r os) (λ k l. same-null k) ∙ ap (lowest (is_null r us)) same-slots

  same-later : (k : ℕ) → later_one r os k ≡ later_one r us k
  same-later k =
      lowest-same (λ j. ltb k j && not (is_null r os j)) (λ j. ltb k j && not (is_null r us j)) (slots_in r os) (λ j l. ap (λ b. ltb k j && not b) (same-null j))
      ∙ ap (lowest (λ j. ltb k j && not (is_null r us j))) same-slots

  same_to : (o : Option ℕ) → read_to r os o ≡ read_to r us o
  same_to None = ap Ok same-slots
  same_to (Some k) = ap (after_null k) (same-later k)

  same-all : SameNumbers r os us
  unfolding unpacked leading
  same-all =
      record {
        numbers = same_number;
        answer = same_to (first_null r os) ∙ ap (read_to r us) same_first;
        count = ap₂ count_to same-slots same_first;
      }

pub behind : Behind
behind r os us e f = same-all r os us e f

pub heads : Heads
heads R1024 t os l e = let s = field_split os 0 5 1 in let b = field_below os 5 1 in record { mark = omega arith; tail = omega arith }
heads R512 t os l e = let s = field_split os 0 7 10 in let b = field_below os 7 10 in record { mark = omega arith; tail = omega arith }
heads R256 t os l e = let s = field_split os 0 7 10 in let b = field_below os 7 10 in record { mark = omega arith; tail = omega arith }
heads R128 t os l e = let s = field_split os 0 7 10 in let b = field_below os 7 10 in record { mark = omega arith; tail = omega arith }
