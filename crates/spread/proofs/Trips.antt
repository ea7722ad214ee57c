-- What is written of a list is read as that list.
use Rattle.std.proofs.Common.{◌≡◌, ℕ, ◌≤◌, T, List, length, get_or, sym, ◌∙◌, subst, arith, pow_pos}
use Rattle.tree.specs.Number.{entries, number}
use Rattle.tree.specs.Written.{full, tally, written}
use Rattle.tree.proofs.Climbs.{prefix-stands}
use Rattle.tree.proofs.Laws.{tree-stands}
use Rattle.tree.proofs.Trip.{full_pow}
use Rattle.spread.specs.Members.{among, Listed, Wrote}
use Rattle.spread.proofs.Counts.{among-has}
use Rattle.spread.proofs.Turned.{listed-count, listed-length}

module _ (k : ℕ) (xs t u : List ℕ) (s : Listed (full k) xs) (here : (i : ℕ) → 1 ≤ i → i ≤ length xs → get_or u i 0 ≡ written k (among xs) i) where
  count : tally (among xs) 1 (full k) ≡ length xs
  count = listed-count (full k) xs s

  as_written : (i : ℕ) → 1 ≤ i → i ≤ length xs → number k (entries u) i ≡ number k (written k (among xs)) i
  as_written i l h =
      prefix-stands k (entries u) (written k (among xs)) i l (omega (arith, listed-length (full k) xs s, full_pow k))
      (λ j a b. here j a (omega arith))

  pub wrote : ((i : ℕ) → (1 ≤ i → i ≤ length xs → ⊥) → get_or u i 0 ≡ get_or t i 0) → Wrote k xs t u
  wrote rest =
      let trip = tree-stands k (among xs) in
      record {
        here = here;
        rest = rest;
        some = λ i l h. omega (arith, here i l h, trip.there i l (omega (arith, count)));
        fits = λ l i a h. omega (arith, here i (omega (arith, pow_pos l)) h, trip.fits l i a);
        reads = λ i l h. subst (λ x. T (among xs x)) (sym (as_written i l h)) (trip.reads i l (omega (arith, count)));
        finds = λ q m.
            let a = among-has xs q m in
            let r = trip.finds q (omega (arith, s.low a.0 a.1, a.2)) (omega (arith, s.high a.0 a.1, a.2)) m in
            let le : r.0 ≤ length xs = omega (arith, r.2, count) in
            (r.0, r.1, le, as_written r.0 r.1 le ∙ r.3);
      }
