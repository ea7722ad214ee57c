-- What `rising` lists: each number that passes, once, in order.
use Rattle.std.proofs.Common.{◌≡◌, ℕ, zero, suc, ◌+◌, ◌<◌, ◌≤◌, Bool, true, false, cond, ◌⊎◌, [], ◌∷◌, ◌++◌, get_or, sym, refl, ap, ◌∙◌, inl, inr, ⊎_elim, arith}
use Rattle.std.proofs.lemmas.List.{get_or_append_left, get_or_push}
use Rattle.std.proofs.lemmas.Bool.{cases_lt, cases_eq, cases_Bool}
use Rattle.bits.specs.Bits.{tally, rising}
use Rattle.bits.proofs.Digits.{length-rising}

tally-zero : (f : ℕ → Bool) → tally f 0 ≡ 0
unfolding tally
tally-zero f = refl

-- one number more
module _ (f : ℕ → Bool) (n : ℕ) where
  tally-next : (b : Bool) → f n ≡ b → tally f (suc n) ≡ tally f n + cond b 1 0
  unfolding tally
  tally-next b e = ap (λ x. tally f n + cond x 1 0) e

  old-at : (j : ℕ) → j < tally f n → get_or (rising f (suc n)) j 0 ≡ get_or (rising f n) j 0
  unfolding rising
  old-at j h = get_or_append_left (rising f n) (cond (f n) (n ∷ []) []) 0 j (omega (arith, length-rising f n))

  new-at : f n ≡ true → get_or (rising f (suc n)) (tally f n) 0 ≡ n
  unfolding rising
  new-at e = ap (λ b. get_or (rising f n ++ cond b (n ∷ []) []) (tally f n) 0) e ∙ get_or_push (rising f n) n 0 (tally f n) (length-rising f n)

  -- a place is an old one, or the new one
  places : (j : ℕ) → j < tally f (suc n) → (j < tally f n) ⊎ ((j ≡ tally f n) × (f n ≡ true))
  places j h =
      ⊎_elim (λ e. ⊎_elim inl (λ l. inr (omega (arith, tally-next true e), e)) (cases_lt j (tally f n)))
      (λ e. inl (omega (arith, tally-next false e))) (cases_Bool (f n))

pub tally_mono : (f : ℕ → Bool) (n : ℕ) → tally f n ≤ tally f (suc n)
tally_mono f n = ⊎_elim (λ e. omega (arith, tally-next f n true e)) (λ e. omega (arith, tally-next f n false e)) (cases_Bool (f n))

-- each listed one passes and lies below the limit
pub rising_in : (f : ℕ → Bool) (n j : ℕ) → j < tally f n → (get_or (rising f n) j 0 < n) × (f (get_or (rising f n) j 0) ≡ true)
rising_in f zero j h = absurd (omega (arith, tally-zero f))
rising_in f (suc n) j h =
    ⊎_elim
    (λ l. let e = old-at f n j l in let k = rising_in f n j l in (omega (arith, k.0), ap f e ∙ k.1))
    (λ p. let e : get_or (rising f (suc n)) j 0 ≡ n = ap (λ i. get_or (rising f (suc n)) i 0) p.0 ∙ new-at f n p.1 in (omega arith, ap f e ∙ p.1))
    (places f n j h)

-- in order
pub rising-up : (f : ℕ → Bool) (n i j : ℕ) → i < j → j < tally f n → get_or (rising f n) i 0 < get_or (rising f n) j 0
rising-up f zero i j l h = absurd (omega (arith, tally-zero f))
rising-up f (suc n) i j l h =
    ⊎_elim
    (λ q. let a = old-at f n i (omega arith) in let b = old-at f n j q in omega (arith, rising-up f n i j l q))
    (λ p. let a = old-at f n i (omega arith) in
    let e : get_or (rising f (suc n)) j 0 ≡ n = ap (λ k. get_or (rising f (suc n)) k 0) p.0 ∙ new-at f n p.1 in
    omega (arith, (rising_in f n i (omega arith)).0))
    (places f n j h)

-- and each that passes is there, at as many as pass below it
pub rising-has : (f : ℕ → Bool) (n c : ℕ) → c < n → f c ≡ true → (tally f c < tally f n) × (get_or (rising f n) (tally f c) 0 ≡ c)
rising-has f zero c l t = absurd (omega arith)
rising-has f (suc n) c l t =
    ⊎_elim
    (λ e. let s : f n ≡ true = ap f (sym e) ∙ t in
    let k : tally f c ≡ tally f n = ap (tally f) e in
    (omega (arith, tally-next f n true s), ap (λ m. get_or (rising f (suc n)) m 0) k ∙ new-at f n s ∙ sym e))
    (λ d. let k = rising-has f n c (omega arith) t in
    (omega (arith, k.0, tally_mono f n), old-at f n (tally f c) k.0 ∙ k.1))
    (cases_eq c n)
