-- A list of members, turned so that the pivot comes first, and the parts after it in numbers of their own.
use Rattle.std.proofs.Common.{◌≡◌, ℕ, suc, ◌+◌, ◌-◌, ◌*◌, ◌/◌, ◌<◌, ◌≤◌, Bool, false, cond, T, leb, List, ◌++◌, length, get_or, sym, refl, ap, ◌∙◌, subst, inl, inr, arith, ltb→lt, leb→le, le-ltb, lt-ltb, le-leb}
use lib.Ieee.Fits.{and_i, and_l, and_r}
use Rattle.std.proofs.lemmas.List.{get_or_append_left, get_or-append_right}
use Rattle.tree.specs.Written.{full, tally, pivot, right, left, written}
use Rattle.tree.proofs.Circle.{le_or, tally_le}
use Rattle.tree.proofs.Same.{same-stands}
use Rattle.tree.proofs.Trip.{written-left, written-right}
use Rattle.spread.specs.Members.{among, Listed}
use Rattle.spread.specs.Steps.{around, turn, splits, ahead, Parted, Halves}
use Rattle.spread.proofs.Counts.{among-at, among-has, bool_same}
use Rattle.spread.proofs.Rounds.{Lists, lists-count, Splits, pivot-at, some-splits, right-lists, left-lists}

-- A list is a list of its members
as_lists : (m : ℕ) (xs : List ℕ) → Listed m xs → Lists (among xs) 1 m (length xs) (λ i. get_or xs i 0)
as_lists m xs s = record {
  low = s.low;
  high = s.high;
  rise = s.rise;
  at = among-at xs;
  has = λ q l u t. among-has xs q t;
}

pub listed-count : (m : ℕ) (xs : List ℕ) → Listed m xs → tally (among xs) 1 m ≡ length xs
listed-count m xs s = lists-count (among xs) m (length xs) (λ i. get_or xs i 0) (as_lists m xs s)

pub listed-length : (m : ℕ) (xs : List ℕ) → Listed m xs → length xs ≤ m
listed-length m xs s = omega (arith, listed-count m xs s, tally_le (among xs) 1 m)

-- A list of the numbers of a part is a list of its members, and has no others
module _ (S : ℕ → Bool) (b n : ℕ) (e : ℕ → ℕ) (s : Lists S 1 b n e) (zs : List ℕ) (size : length zs ≡ n) (is : (i : ℕ) → i < n → get_or zs i 0 ≡ e i) where
  part_listed : Listed b zs
  part_listed = record {
    low = λ i l. omega (arith, is i (omega arith), s.low i (omega arith));
    high = λ i l. omega (arith, is i (omega arith), s.high i (omega arith));
    rise = λ i j l u. omega (arith, is i (omega arith), is j (omega arith), s.rise i j l (omega arith));
  }

  part_among : (q : ℕ) → 1 ≤ q → q ≤ b → S q ≡ among zs q
  part_among q l u =
      bool_same (S q) (among zs q)
      (λ t.
      let r = s.has q l u t in
      subst (λ a. T (among zs a)) (is r.0 r.1 ∙ r.2) (among-at zs r.0 (omega (arith, r.1))))
      (λ t.
      let r = among-has zs q t in
      let h : r.0 < n = omega (arith, r.1) in
      subst (λ a. T (S a)) (sym (is r.0 h) ∙ r.2) (s.at r.0 h))

-- The members a second time round

module _ (m : ℕ) (xs : List ℕ) where
  turn_near : (i : ℕ) → i < length xs → turn m xs i ≡ get_or xs i 0
  turn_near i h = ap (λ b. cond b (get_or xs i 0) (get_or xs (i - length xs) 0 + m)) (lt-ltb i (length xs) h)

  turn-far : (i : ℕ) → length xs ≤ i → i < length xs + length xs → turn m xs i ≡ get_or xs (i - length xs) 0 + m
  turn-far i h u = ap (λ b. cond b (get_or xs i 0) (get_or xs (i - length xs) 0 + m)) (le-ltb i (length xs) h)

  module _ (h k : ℕ) where
    splits_is : (j : ℕ) → j < length xs → T (splits m h xs k j) → Splits (turn m xs) h k j
    splits_is j l t =
        let a = leb→le _ _ (and_l (leb (turn m xs (j + k)) (get_or xs j 0 + h)) _ t) in
        let b = ltb→lt _ _ (and_r (leb (turn m xs (j + k)) (get_or xs j 0 + h)) _ t) in
        (omega (arith, a, turn_near j l), omega (arith, b, turn_near j l))

    is_splits : (j : ℕ) → j < length xs → Splits (turn m xs) h k j → T (splits m h xs k j)
    is_splits j l y =
        and_i (leb (turn m xs (j + k)) (get_or xs j 0 + h)) _
        (subst T (sym (le-leb _ _ (let a : turn m xs (j + k) ≤ get_or xs j 0 + h = omega (arith, y.0, turn_near j l) in a))) tt)
        (subst T (sym (lt-ltb _ _ (let a : get_or xs j 0 + h < turn m xs (j + k + 1) = omega (arith, y.1, turn_near j l) in a))) tt)

-- The search for the lowest pivot

module _ (m h k : ℕ) (xs : List ℕ) (s : Listed m xs) (odd : m ≡ suc (h + h)) (half : k ≡ (length xs - 1) / 2) where
  pub pivot-found : (j : ℕ) → j < length xs → T (splits m h xs k j) → ((i : ℕ) → i < j → splits m h xs k i ≡ false) → get_or xs j 0 ≡ pivot h (among xs)
  pivot-found j l y none =
      sym (pivot-at (among xs) (length xs) m (λ i. get_or xs i 0) (turn m xs) (as_lists m xs s) (turn_near m xs) (turn-far m xs) h k odd half j l
      (splits_is m xs h k j l y) (λ i u z. subst T (none i u) (is_splits m xs h k i (omega arith) z)))

  pub pivot-lost : 1 ≤ length xs → ((i : ℕ) → i < length xs → splits m h xs k i ≡ false) → ⊥
  pivot-lost some none =
      some-splits (among xs) (length xs) m (λ i. get_or xs i 0) (turn m xs) (as_lists m xs s) (turn_near m xs) (turn-far m xs) h k odd half some
      (λ i u z. subst T (none i u) (is_splits m xs h k i u z))

  -- a member that is alone is the pivot
  pub alone : length xs ≡ 1 → get_or xs 0 0 ≡ pivot h (among xs)
  alone one =
      let here : 0 < length xs = omega arith in
      let e0 : turn m xs (0 + k) ≡ turn m xs 0 = ap (turn m xs) (let z : 0 + k ≡ 0 = omega arith in z) in
      let e1 : turn m xs (0 + k + 1) ≡ turn m xs 1 = ap (turn m xs) (let z : 0 + k + 1 ≡ 1 = omega arith in z) in
      let far : turn m xs 1 ≡ get_or xs 0 0 + m =
      turn-far m xs 1 (omega arith) (omega arith) ∙ ap (λ a. get_or xs a 0 + m) (let z : 1 - length xs ≡ 0 = omega arith in z) in
      pivot-found 0 here (is_splits m xs h k 0 here (omega (arith, e0), omega (arith, e1, far, turn_near m xs 0 here))) (λ i l. absurd (omega arith))

-- The list turned by j: ys is xs from j on, and then the rest
module _ (m j : ℕ) (xs ys : List ℕ) (s : Listed m xs) (in-j : j < length xs)
    (near : (k : ℕ) (d : ℕ) → k + j < length xs → get_or ys k d ≡ get_or xs (k + j) d)
    (far : (k : ℕ) (d : ℕ) → length xs ≤ k + j → k < length xs → get_or ys k d ≡ get_or xs (k + j - length xs) d) where
  -- a member is in range, and stands as far after the pivot as it should
  turned-high : (i : ℕ) → i < length xs → get_or ys i 0 ≤ m
  turned-high i h = elim (le_or (length xs) (i + j)) [
    | inl y ↦ omega (arith, far i 0 y h, s.high (i + j - length xs) (omega arith))
    | inr y ↦ omega (arith, near i 0 y, s.high (i + j) y)
  ]

  turned-ahead : (i : ℕ) → 1 ≤ i → i < length xs → ahead m (get_or xs j 0) (get_or ys i 0) ≡ turn m xs (j + i) - get_or xs j 0
  turned-ahead i l h =
      let p : ℕ = get_or xs j 0 in
      elim (le_or (length xs) (i + j)) [
        | inl y ↦
            let a = far i 0 y h in
            let e : turn m xs (j + i) ≡ get_or xs (i + j - length xs) 0 + m =
            turn-far m xs (j + i) (omega arith) (omega arith) ∙ ap (λ t. get_or xs t 0 + m) (let z : j + i - length xs ≡ i + j - length xs = omega arith in z) in
            let less = s.rise (i + j - length xs) j (omega arith) in-j in
            ap (λ b. cond b (get_or ys i 0 - p) (get_or ys i 0 + m - p)) (le-ltb p (get_or ys i 0) (omega arith))
            ∙ (let z : get_or ys i 0 + m - p ≡ turn m xs (j + i) - p = omega arith in z)
        | inr y ↦
            let a = near i 0 y in
            let e : turn m xs (j + i) ≡ get_or xs (i + j) 0 =
            turn_near m xs (j + i) (omega arith) ∙ ap (λ t. get_or xs t 0) (let z : j + i ≡ i + j = omega arith in z) in
            let more = s.rise j (i + j) (omega arith) y in
            ap (λ b. cond b (get_or ys i 0 - p) (get_or ys i 0 + m - p)) (lt-ltb p (get_or ys i 0) (omega arith))
            ∙ (let z : get_or ys i 0 - p ≡ turn m xs (j + i) - p = omega arith in z)
      ]

  module _ (front others rs ls : List ℕ) (cut : ys ≡ front ++ others) (size : length front ≡ 1) (k : ℕ) (cut2 : others ≡ rs ++ ls) (size2 : length rs ≡ k) where
    right-at : (i : ℕ) → i < k → get_or rs i 0 ≡ get_or ys (suc i) 0
    right-at i h =
        sym (get_or_append_left rs ls 0 i (omega arith))
        ∙ (ap (λ t. get_or t i 0) (sym cut2)
        ∙ (ap (λ a. get_or others a 0) (let z : i ≡ suc i - 1 = omega arith in z)
        ∙ (sym (get_or-append_right front others 1 (suc i) 0 size (omega arith))
        ∙ ap (λ t. get_or t (suc i) 0) (sym cut))))

    left_at : (i : ℕ) → get_or ls i 0 ≡ get_or ys (suc (k + i)) 0
    left_at i =
        ap (λ a. get_or ls a 0) (let z : i ≡ k + i - k = omega arith in z)
        ∙ (sym (get_or-append_right rs ls k (k + i) 0 size2 (omega arith))
        ∙ (ap (λ t. get_or t (k + i) 0) (sym cut2)
        ∙ (ap (λ a. get_or others a 0) (let z : k + i ≡ suc (k + i) - 1 = omega arith in z)
        ∙ (sym (get_or-append_right front others 1 (suc (k + i)) 0 size (omega arith))
        ∙ ap (λ t. get_or t (suc (k + i)) 0) (sym cut)))))

    module _ (h : ℕ) (odd : m ≡ suc (h + h)) (half : k ≡ (length xs - 1) / 2) (y : T (splits m h xs k j)) where
      rights : Lists (right h (among xs) (get_or xs j 0)) 1 h k (λ i. turn m xs (suc (j + i)) - get_or xs j 0)
      rights =
          right-lists (among xs) (length xs) m (λ i. get_or xs i 0) (turn m xs) (as_lists m xs s) (turn_near m xs) (turn-far m xs) h k odd half j in-j
          (splits_is m xs h k j in-j y)

      lefts : Lists (left h (among xs) (get_or xs j 0)) 1 h (length xs - 1 - k) (λ i. turn m xs (suc (j + k + i)) - get_or xs j 0 - h)
      lefts =
          left-lists (among xs) (length xs) m (λ i. get_or xs i 0) (turn m xs) (as_lists m xs s) (turn_near m xs) (turn-far m xs) h k odd half j in-j
          (splits_is m xs h k j in-j y)

      right-ahead : (i : ℕ) → i < k → ahead m (get_or xs j 0) (get_or rs i 0) ≡ turn m xs (suc (j + i)) - get_or xs j 0
      right-ahead i l =
          ap (ahead m (get_or xs j 0)) (right-at i l)
          ∙ (turned-ahead (suc i) (omega arith) (omega arith)
          ∙ ap (λ a. turn m xs a - get_or xs j 0) (let z : j + suc i ≡ suc (j + i) = omega arith in z))

      left-ahead : (i : ℕ) → i < length xs - 1 - k → ahead m (get_or xs j 0) (get_or ls i 0) ≡ turn m xs (suc (j + k + i)) - get_or xs j 0
      left-ahead i l =
          ap (ahead m (get_or xs j 0)) (left_at i)
          ∙ (turned-ahead (suc (k + i)) (omega arith) (omega arith)
          ∙ ap (λ a. turn m xs a - get_or xs j 0) (let z : j + suc (k + i) ≡ suc (j + k + i) = omega arith in z))

      -- what renumbering asks for
      right-high : (i : ℕ) → i < k → get_or rs i 0 ≤ m
      right-high i l = omega (arith, right-at i l, turned-high (suc i) (omega arith))

      left-high : (i : ℕ) → i < length xs - 1 - k → get_or ls i 0 ≤ m
      left-high i l = omega (arith, left_at i, turned-high (suc (k + i)) (omega arith))

      left_far : (i : ℕ) → i < length xs - 1 - k → h ≤ ahead m (get_or xs j 0) (get_or ls i 0)
      left_far i l = omega (arith, left-ahead i l, lefts.low i l)

      -- the parts, renumbered
      module _ (us : List ℕ) (same : length us ≡ k) (new : (i : ℕ) → i < k → get_or us i 0 ≡ ahead m (get_or xs j 0) (get_or rs i 0) - 0) where
        right_new : (i : ℕ) → i < k → get_or us i 0 ≡ turn m xs (suc (j + i)) - get_or xs j 0
        right_new i l = omega (arith, new i l, right-ahead i l)

        right-listed : Listed h us
        right-listed = part_listed (right h (among xs) (get_or xs j 0)) h k (λ i. turn m xs (suc (j + i)) - get_or xs j 0) rights us same right_new

        right-same : (q : ℕ) → 1 ≤ q → q ≤ h → right h (among xs) (get_or xs j 0) q ≡ among us q
        right-same = part_among (right h (among xs) (get_or xs j 0)) h k (λ i. turn m xs (suc (j + i)) - get_or xs j 0) rights us same right_new

      module _ (us : List ℕ) (same : length us ≡ length xs - 1 - k) (new : (i : ℕ) → i < length xs - 1 - k → get_or us i 0 ≡ ahead m (get_or xs j 0) (get_or ls i 0) - h) where
        left-new : (i : ℕ) → i < length xs - 1 - k → get_or us i 0 ≡ turn m xs (suc (j + k + i)) - get_or xs j 0 - h
        left-new i l = omega (arith, new i l, left-ahead i l)

        left-listed : Listed h us
        left-listed = part_listed (left h (among xs) (get_or xs j 0)) h (length xs - 1 - k) (λ i. turn m xs (suc (j + k + i)) - get_or xs j 0 - h) lefts us same left-new

        left-same : (q : ℕ) → 1 ≤ q → q ≤ h → left h (among xs) (get_or xs j 0) q ≡ among us q
        left-same = part_among (left h (among xs) (get_or xs j 0)) h (length xs - 1 - k) (λ i. turn m xs (suc (j + k + i)) - get_or xs j 0 - h) lefts us same left-new

-- All of that, of the two parts rs and ls of a list that was turned to its pivot at j
pub halves :
    (h j : ℕ) (xs ys front others rs ls : List ℕ) → Listed (around h) xs → j < length xs → T (splits (around h) h xs ((length xs - 1) / 2) j) →
    length ys ≡ length xs →
    ((k : ℕ) (d : ℕ) → k + j < length xs → get_or ys k d ≡ get_or xs (k + j) d) →
    ((k : ℕ) (d : ℕ) → length xs ≤ k + j → k < length xs → get_or ys k d ≡ get_or xs (k + j - length xs) d) →
    ys ≡ front ++ others → length front ≡ 1 → length others + 1 ≡ length ys →
    others ≡ rs ++ ls → length rs ≡ (length xs - 1) / 2 → length ls + (length xs - 1) / 2 ≡ length others →
    Halves h j xs rs ls
halves h j xs ys front others rs ls s in-j y len near far cut size rest cut2 size2 rest2 =
    let m : ℕ = around h in
    let k : ℕ = (length xs - 1) / 2 in
    let lsize : length ls ≡ length xs - 1 - k = omega arith in
    record {
      rhigh = λ i l. right-high m j xs ys s in-j near far front others rs ls cut size k cut2 size2 h refl refl y i (omega arith);
      lhigh = λ i l. left-high m j xs ys s in-j near far front others rs ls cut size k cut2 size2 h refl refl y i (omega arith);
      lfar = λ i l. left_far m j xs ys s in-j near far front others rs ls cut size k cut2 size2 h refl refl y i (omega arith);
      parted = λ us vs eu ev fu fv. record {
        rsize = eu ∙ size2;
        lsize = ev ∙ lsize;
        rlisted = right-listed m j xs ys s in-j near far front others rs ls cut size k cut2 size2 h refl refl y us (eu ∙ size2) (λ i l. fu i (omega arith));
        llisted = left-listed m j xs ys s in-j near far front others rs ls cut size k cut2 size2 h refl refl y vs (ev ∙ lsize) (λ i l. fv i (omega arith));
        rsame = right-same m j xs ys s in-j near far front others rs ls cut size k cut2 size2 h refl refl y us (eu ∙ size2) (λ i l. fu i (omega arith));
        lsame = left-same m j xs ys s in-j near far front others rs ls cut size k cut2 size2 h refl refl y vs (ev ∙ lsize) (λ i l. fv i (omega arith));
      };
    }

-- The trees of the parts are those of the whole
module _ (v p : ℕ) (xs us vs : List ℕ) (q : Parted (full v) p xs us vs) (root : p ≡ pivot (full v) (among xs)) where
  pub right-written : (i : ℕ) → 1 ≤ i → written (suc v) (among xs) (2 * i + 1) ≡ written v (among us) i
  right-written i l =
      written-right v (among xs) i l
      ∙ same-stands v (right (full v) (among xs) (pivot (full v) (among xs))) (among us)
      (λ t a b. ap (λ c. right (full v) (among xs) c t) (sym root) ∙ q.rsame t a b) i l

  pub left-written : (i : ℕ) → 1 ≤ i → written (suc v) (among xs) (2 * i) ≡ written v (among vs) i
  left-written i l =
      written-left v (among xs) i l
      ∙ same-stands v (left (full v) (among xs) (pivot (full v) (among xs))) (among vs)
      (λ t a b. ap (λ c. left (full v) (among xs) c t) (sym root) ∙ q.lsame t a b) i l
