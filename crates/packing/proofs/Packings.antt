-- Laws of the octets that numbers are written as.
use Rattle.std.proofs.Common.{◌≡◌, ℕ, zero, suc, ◌+◌, ◌-◌, ◌*◌, ◌/◌, ◌%◌, ◌^◌, ◌<◌, ◌≤◌, Bool, false, ◌||◌, List, length, get_or, take, drop, sym, refl, ap, ◌∙◌, subst, ap₂, ⊎_elim, add-one, arith}
use Rattle.std.proofs.lemmas.List.FromFn.{length-map-range_with_len, get_or-map-range_with_len}
use Rattle.std.proofs.lemmas.List.{ext_get_or, get_or_past, get_or-take, get_or-drop, length-take-le, length-drop}
use Rattle.std.proofs.lemmas.Bool.{cases_lt, cases_eq}
use Rattle.bits.specs.Bits.{bit, number_of}
use Rattle.bits.proofs.Digits.{bit-number, number-below, bits-same, bit-zero}
use Rattle.packing.specs.declared.Range.{Range}
use Rattle.packing.specs.Ranges.{width_of, start_of}
use Rattle.packing.specs.Fields.{Octets, bit_at, width, before}
use Rattle.packing.specs.Writing.{Packable, stands, laid, octets_of, packed}
use Rattle.packing.proofs.Widths.{before_more, before_mono}
use Rattle.packing.proofs.Fields.{at_split, at_octet}
use Rattle.packing.proofs.Stands.{or_none, stands-before, stands-behind}

-- octets by their bits
pub length-octets : (f : ℕ → Bool) (len : ℕ) → length (octets_of f len) ≡ len
unfolding octets_of
length-octets f len = length-map-range_with_len (λ k. number_of (λ b. f (8 * k + (7 - b))) 8) 0 len

octet_is : (f : ℕ → Bool) (len k : ℕ) → k < len → get_or (octets_of f len) k 0 ≡ number_of (λ b. f (8 * k + (7 - b))) 8
unfolding octets_of
octet_is f len k h = get_or-map-range_with_len (λ k. number_of (λ b. f (8 * k + (7 - b))) 8) 0 len k k 0 h (omega arith)

pub octets-below : (f : ℕ → Bool) (len : ℕ) → Octets (octets_of f len)
octets-below f len k =
    ⊎_elim (λ l. subst (λ o. o < 256) (sym (octet_is f len k l)) (number-below (λ b. f (8 * k + (7 - b))) 8))
    (λ l. let e : get_or (octets_of f len) k 0 ≡ 0 = get_or_past (octets_of f len) k 0 (omega (arith, length-octets f len)) in omega arith)
    (cases_lt k len)

pub at-past : (os : List ℕ) (x : ℕ) → 8 * length os ≤ x → bit_at os x ≡ false
at-past os x h = at_split os x ∙ ap (λ o. bit o (7 - x % 8)) (get_or_past os (x / 8) 0 (omega arith)) ∙ bit-zero (7 - x % 8)

pub at-octets : (f : ℕ → Bool) (len x : ℕ) → x < 8 * len → bit_at (octets_of f len) x ≡ f x
at-octets f len x h =
    let e : 8 * (x / 8) + (7 - (7 - x % 8)) ≡ x = omega arith in
    at_split (octets_of f len) x ∙ ap (λ o. bit o (7 - x % 8)) (octet_is f len (x / 8) (omega arith))
    ∙ bit-number (λ b. f (8 * (x / 8) + (7 - b))) 8 (7 - x % 8) (omega arith) ∙ ap f e

-- octets with the same bits are the same
pub octets-same : (os us : List ℕ) → length os ≡ length us → Octets os → Octets us
    → ((x : ℕ) → x < 8 * length os → bit_at os x ≡ bit_at us x) → os ≡ us
octets-same os us e f g h =
    ext_get_or 0 os us e
    (λ k l. bits-same 8 (get_or os k 0) (get_or us k 0) (f k) (g k)
    (λ b m. let i : b ≡ 7 - (7 - b) = omega arith in
    ap (bit (get_or os k 0)) i ∙ sym (at_octet os k (7 - b) (omega arith)) ∙ h (8 * k + (7 - b)) (omega arith) ∙ at_octet us k (7 - b) (omega arith) ∙ ap (bit (get_or us k 0)) (sym i)))

zeros_at : (os : List ℕ) (len : ℕ) → ((k : ℕ) → k < len → get_or os k 0 ≡ 0) → (x : ℕ) → x < 8 * len → bit_at os x ≡ false
zeros_at os len h x l = at_split os x ∙ ap (λ o. bit o (7 - x % 8)) (h (x / 8) (omega arith)) ∙ bit-zero (7 - x % 8)

-- numbers laid over bits
module _ (K start : ℕ) (f : ℕ → Bool) (W : ℕ → ℕ) where
  pub laid_none : (x : ℕ) → laid K start f W 0 x ≡ f x
  unfolding laid
  laid_none x = refl

  pub laid_more : (n x : ℕ) → laid K start f W (suc n) x ≡ (laid K start f W n x || stands (start + before K n) (width K (suc n)) (W (suc n)) x)
  unfolding laid
  laid_more n x = refl

  -- before and behind them nothing changes
  pub laid-before : (n x : ℕ) → x < start → laid K start f W n x ≡ f x
  laid-before zero x h = laid_none x
  laid-before (suc n) x h =
      laid_more n x ∙ ap₂ (λ a b. a || b) (laid-before n x h) (stands-before (start + before K n) (width K (suc n)) (W (suc n)) x (omega arith)) ∙ or_none (f x)

  pub laid-behind : (n x : ℕ) → start + before K n ≤ x → laid K start f W n x ≡ f x
  laid-behind zero x h = laid_none x
  laid-behind (suc n) x h =
      laid_more n x
      ∙ ap₂ (λ a b. a || b) (laid-behind n x (omega (arith, before_more K n))) (stands-behind (start + before K n) (width K (suc n)) (W (suc n)) x (omega (arith, before_more K n)))
      ∙ or_none (f x)

  -- where a number stands, it alone does
  pub laid-here : (n i x : ℕ) → i < n → f x ≡ false → start + before K i ≤ x → x < start + before K (suc i) → laid K start f W n x ≡ stands (start + before K i) (width K (suc i)) (W (suc i)) x
  laid-here zero i x h z a b = absurd (omega arith)
  laid-here (suc n) i x h z a b =
      laid_more n x
      ∙ ⊎_elim
      (λ same. let e : start + before K n ≤ x = subst (λ j. start + before K j ≤ x) same a in
      ap (λ q. q || stands (start + before K n) (width K (suc n)) (W (suc n)) x) (laid-behind n x e ∙ z)
      ∙ ap (λ j. stands (start + before K j) (width K (suc j)) (W (suc j)) x) (sym same))
      (λ other. ap₂ (λ q s. q || s) (laid-here n i x (omega arith) z a b) (stands-before (start + before K n) (width K (suc n)) (W (suc n)) x (omega (arith, before_mono K (suc i) n (omega arith))))
      ∙ or_none (stands (start + before K i) (width K (suc i)) (W (suc i)) x))
      (cases_eq i n)

pub laid_same : (K start : ℕ) (f g : ℕ → Bool) (W : ℕ → ℕ) (n x : ℕ) → f x ≡ g x → laid K start f W n x ≡ laid K start g W n x
laid_same K start f g W zero x h = laid_none K start f W x ∙ h ∙ sym (laid_none K start g W x)
laid_same K start f g W (suc n) x h =
    laid_more K start f W n x ∙ ap (λ q. q || stands (start + before K n) (width K (suc n)) (W (suc n)) x) (laid_same K start f g W n x h) ∙ sym (laid_more K start g W n x)

pub length-packed : (r : Range) (h : ℕ) (W : ℕ → ℕ) (n len : ℕ) → length (packed r h W n len) ≡ len
unfolding packed
length-packed r h W n len = length-octets (laid (width_of r) (start_of r) (stands 0 (start_of r) h) W n) len

pub packed-below : (r : Range) (h : ℕ) (W : ℕ → ℕ) (n len : ℕ) → Octets (packed r h W n len)
unfolding packed
packed-below r h W n len k = octets-below (laid (width_of r) (start_of r) (stands 0 (start_of r) h) W n) len k

pub at_packed : (r : Range) (h : ℕ) (W : ℕ → ℕ) (n len x : ℕ) → x < 8 * len → bit_at (packed r h W n len) x ≡ laid (width_of r) (start_of r) (stands 0 (start_of r) h) W n x
unfolding packed
at_packed r h W n len x l = at-octets (laid (width_of r) (start_of r) (stands 0 (start_of r) h) W n) len x l

-- the steps of the program come to the octets wanted
module _ (r : Range) (h : ℕ) (W : ℕ → ℕ) (n len : ℕ) (old headed out : List ℕ)
    (long : length out ≡ len) (low : Octets out)
    (zeros : (k : ℕ) → k < len → get_or old k 0 ≡ 0)
    (heads : (x : ℕ) → x < 8 * len → bit_at headed x ≡ (bit_at old x || stands 0 (start_of r) h x))
    (lays : (x : ℕ) → x < 8 * len → bit_at out x ≡ laid (width_of r) (start_of r) (bit_at headed) W n x) where
  pub packs : out ≡ packed r h W n len
  packs =
      octets-same out (packed r h W n len) (long ∙ sym (length-packed r h W n len)) low (packed-below r h W n len)
      (λ x m. let l : x < 8 * len = omega (arith, long) in
      lays x l
      ∙ laid_same (width_of r) (start_of r) (bit_at headed) (stands 0 (start_of r) h) W n x
      (heads x l ∙ ap (λ b. b || stands 0 (start_of r) h x) (zeros_at old len zeros x l))
      ∙ sym (at_packed r h W n len x l))

-- one number more in the program's loop
pub laid-step : (r : Range) (f : ℕ → Bool) (W : ℕ → ℕ) (k at w v x : ℕ) (b c : Bool) → at ≡ start_of r + before (width_of r) k → w ≡ width (width_of r) (k + 1) → v ≡ W (k + 1)
    → b ≡ laid (width_of r) (start_of r) f W k x → c ≡ (b || stands at w v x) → c ≡ laid (width_of r) (start_of r) f W (k + 1) x
laid-step r f W k at w v x b c p q s e g =
    let i : k + 1 ≡ suc k = add-one k in
    g ∙ ap₂ (λ y z. y || z) e (ap (λ a. stands a w v x) p ∙ ap₂ (λ a b. stands (start_of r + before (width_of r) k) a b x) (q ∙ ap (width (width_of r)) i) (s ∙ ap W i))
    ∙ sym (laid_more (width_of r) (start_of r) f W k x) ∙ ap (λ m. laid (width_of r) (start_of r) f W m x) (sym i)

-- only W(1) .. W(n) matter
laid-numbers : (K start : ℕ) (f : ℕ → Bool) (V W : ℕ → ℕ) (n x : ℕ) → ((i : ℕ) → 1 ≤ i → i ≤ n → V i ≡ W i) → laid K start f V n x ≡ laid K start f W n x
laid-numbers K start f V W zero x h = laid_none K start f V x ∙ sym (laid_none K start f W x)
laid-numbers K start f V W (suc n) x h =
    laid_more K start f V n x
    ∙ ap₂ (λ q v. q || stands (start + before K n) (width K (suc n)) v x) (laid-numbers K start f V W n x (λ i a b. h i a (omega arith))) (h (suc n) (omega arith) (omega arith))
    ∙ sym (laid_more K start f W n x)

pub packed-same : (r : Range) (h : ℕ) (V W : ℕ → ℕ) (n len : ℕ) → ((i : ℕ) → 1 ≤ i → i ≤ n → V i ≡ W i) → packed r h V n len ≡ packed r h W n len
packed-same r h V W n len e =
    octets-same (packed r h V n len) (packed r h W n len) (length-packed r h V n len ∙ sym (length-packed r h W n len)) (packed-below r h V n len) (packed-below r h W n len)
    (λ x l. let m : x < 8 * len = omega (arith, length-packed r h V n len) in
    at_packed r h V n len x m ∙ laid-numbers (width_of r) (start_of r) (stands 0 (start_of r) h) V W n x e ∙ sym (at_packed r h W n len x m))

-- a part of a table as the numbers W(1) .. W(n)
pub part_at : (ns : List ℕ) (n i : ℕ) → 1 ≤ i → i ≤ n → get_or (take (n + 1 - 1) (drop 1 ns)) (i - 1) 0 ≡ get_or ns i 0
part_at ns n i a b =
    let e : 1 + (i - 1) ≡ i = omega arith in
    get_or-take (n + 1 - 1) (drop 1 ns) (i - 1) 0 (omega arith) ∙ get_or-drop 1 ns (i - 1) 0 ∙ ap (λ j. get_or ns j 0) e

pub part-long : (ns : List ℕ) (n : ℕ) → n + 1 ≤ length ns → length (take (n + 1 - 1) (drop 1 ns)) ≡ n
part-long ns n l = length-take-le (n + 1 - 1) (drop 1 ns) (omega (arith, length-drop 1 ns)) ∙ omega arith

pub packable-same : (r : Range) (h : ℕ) (V W : ℕ → ℕ) (m n l len : ℕ) → m ≡ n → l ≡ len → ((i : ℕ) → 1 ≤ i → i ≤ n → V i ≡ W i) → Packable r h W n len → Packable r h V m l
packable-same r h V W m n l len e f g p =
    subst (λ m. Packable r h V m l) (sym e)
    (subst (λ l. Packable r h V n l) (sym f)
    (record { held = p.held; few = p.few; front = p.front; narrow = λ i a b. subst (λ v. v < 2 ^ width (width_of r) i) (sym (g i a b)) (p.narrow i a b) }))
