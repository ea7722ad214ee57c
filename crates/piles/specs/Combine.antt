-- The piles that are made of others keep the laws.
use Rattle.std.specs.Prelude.{◌≡◌, ℕ, suc, ◌<◌, ◌≤◌, Bool, true, false, cond, ◌&&◌, ◌||◌, ◌⊎◌, List, ◌∷◌, length, Some, None, Ok, Err, Option, Result, nat_lt, slice_index, refl}
use Rattle.std.proofs.Common.{sym, ◌∙◌, ap, inl, inr, ⊎_elim, arith}
use Rattle.std.specs.Result.{result_ok}
use Rattle.std.proofs.lemmas.Bool.{lt-ltb, and_from, both_ways, or_left, or_right}
use Rattle.std.proofs.ByRecursion.{All-get_or}
use Rattle.channels.specs.declared.ChannelSet.{ChannelSet}
use Rattle.channels.specs.Sets.{first_outside}
use Rattle.bits.proofs.Lows.{lowest-none}
use Rattle.claims.specs.Views.{both, shared}
use Rattle.faults.specs.declared.FormatFault.TheVariants.{Length}
use Rattle.faults.specs.declared.PileFault.{PileFault}
use Rattle.faults.specs.declared.PileFault.TheVariants.{Format, Unclaimed}
use Rattle.piles.specs.Laws.{sized, Claim, Reading, Writing, Laws, Meaning, Lawful, Octets, number}
use Rattle.piles.specs.Flagged.{plain}
use Rattle.piles.specs.Calls.{err_ok, err_same, ok_same, some-none}
use Rattle.piles.specs.Combined.{claim_by, side_reads, read_by, first_ok, write_by, within, held, beside_of, licence_of}

-- what a cond is, by its test
module _ {X : Type 0} where
  pub cond_ok : (b : Bool) (r : Result X PileFault) (f : PileFault) (x : X) → cond b r (Err f) ≡ Ok x → (b ≡ true) × (r ≡ Ok x)
  cond_ok true r f x e = (refl, e)
  cond_ok false r f x e = absurd (err_ok e)

  pub cond_either : (b : Bool) (r t : Result X PileFault) (x : X) → cond b r t ≡ Ok x → ((b ≡ true) × (r ≡ Ok x)) ⊎ ((b ≡ false) × (t ≡ Ok x))
  cond_either true r t x e = inl (refl, e)
  cond_either false r t x e = inr (refl, e)

  -- a fact of each refusal of a cond
  pub cond_err : (b : Bool) (r t : Result X PileFault) (f : PileFault) → cond b r t ≡ Err f → (r ≡ Err f) ⊎ (t ≡ Err f)
  cond_err true r t f e = inl e
  cond_err false r t f e = inr e

  pub cond_is_true : (b : Bool) (r t : X) → b ≡ true → cond b r t ≡ r
  cond_is_true true r t e = refl
  cond_is_true false r t e = let z : ◌≡◌ {A = ℕ} 0 1 = cc in absurd (omega arith)

  pub cond_is_false : (b : Bool) (r t : X) → b ≡ false → cond b r t ≡ t
  cond_is_false true r t e = let z : ◌≡◌ {A = ℕ} 0 1 = cc in absurd (omega arith)
  cond_is_false false r t e = refl

  first_ok_lem : (a b : Result X PileFault) (x : X) → first_ok a b ≡ Ok x → (a ≡ Ok x) ⊎ (b ≡ Ok x)
  first_ok_lem (Ok y) b x e = inl e
  first_ok_lem (Err f) b x e = inr e

  first_err : (a b : Result X PileFault) (f : PileFault) → first_ok a b ≡ Err f → ((h : PileFault) × (a ≡ Err h)) × (b ≡ Err f)
  first_err (Ok y) b f e = absurd (err_ok (sym e))
  first_err (Err h) b f e = ((h, refl), e)

and_false : (x y : Bool) → (x && y) ≡ false → y ≡ true → x ≡ false
and_false true y e h = absurd (both_ways y e h)
and_false false y e h = refl

-- beside claims nothing where both claim something
module _ (f g : Claim) where
  pub claim_shared : (o k : ℕ) → shared f g ≡ Some k → claim_by (shared f g) f g o ≡ false
  claim_shared o k e = rw e refl

  pub claim_apart : (o : ℕ) → shared f g ≡ None → claim_by (shared f g) f g o ≡ (f o || g o)
  claim_apart o e = rw e refl

pub sized-true : (n : ℕ) → 1 ≤ n → n ≤ 130 → sized n ≡ true
sized-true n a b = and_from (nat_lt 0 n) (nat_lt n 131) (lt-ltb 0 n a) (lt-ltb n 131 (omega arith))

module _ (f g : Claim) (ra rb : Reading) (wa wb : Writing) (A : Laws f ra wa) (B : Laws g rb wb) where
  abbrev beside_reads : Reading
  beside_reads = read_by None f g ra rb

  -- what the side that claims reads
  side : (os : List ℕ) (s : ChannelSet) → beside_reads os ≡ Ok s → (sized (length os) ≡ true) × (((f (slice_index os 0) ≡ true) × (ra os ≡ Ok s)) ⊎ ((g (slice_index os 0) ≡ true) × (rb os ≡ Ok s)))
  side os s e =
      let p = cond_ok (sized (length os)) (side_reads f g ra rb os) (Format Length) s e in
      (p.0, ⊎_elim inl (λ q. inr (cond_ok (g (slice_index os 0)) (rb os) Unclaimed s q.1)) (cond_either (f (slice_index os 0)) (ra os) (cond (g (slice_index os 0)) (rb os) (Err Unclaimed)) s p.1))

  sized-from : (n : ℕ) → 1 ≤ n → n ≤ 130 → sized n ≡ true
  sized-from n a b = and_from (nat_lt 0 n) (nat_lt n 131) (lt-ltb 0 n a) (lt-ltb n 131 (omega arith))

  reads_first : (os : List ℕ) (s : ChannelSet) → ra os ≡ Ok s → beside_reads os ≡ Ok s
  reads_first os s e =
      let k = A.sound os s e in
      cond_is_true (sized (length os)) (side_reads f g ra rb os) (Err (Format Length)) (sized-from (length os) k.some k.most)
      ∙ cond_is_true (f (slice_index os 0)) (ra os) (cond (g (slice_index os 0)) (rb os) (Err Unclaimed)) k.claims ∙ e

  first_octet_lem : (os : List ℕ) → 1 ≤ length os → Octets os → slice_index os 0 < 256
  first_octet_lem os l h = All-get_or (λ o. o < 256) os 0 0 (omega arith) h

  reads_second : shared f g ≡ None → (os : List ℕ) (s : ChannelSet) → Octets os → rb os ≡ Ok s → beside_reads os ≡ Ok s
  reads_second none os s h e =
      let k = B.sound os s e in
      let apart = lowest-none (both f g) 256 none (slice_index os 0) (first_octet_lem os k.some h) in
      cond_is_true (sized (length os)) (side_reads f g ra rb os) (Err (Format Length)) (sized-from (length os) k.some k.most)
      ∙ cond_is_false (f (slice_index os 0)) (ra os) (cond (g (slice_index os 0)) (rb os) (Err Unclaimed)) (and_false (f (slice_index os 0)) (g (slice_index os 0)) apart k.claims)
      ∙ cond_is_true (g (slice_index os 0)) (rb os) (Err Unclaimed) k.claims ∙ e

  same_cond : (b : Bool) (r t r' t' : Result ChannelSet PileFault) → result_ok r ≡ result_ok r' → result_ok t ≡ result_ok t' → result_ok (cond b r t) ≡ result_ok (cond b r' t')
  same_cond true r t r' t' p q = p
  same_cond false r t r' t' p q = q

  side-plain : (o : ℕ) (os : List ℕ) → o < 256 → result_ok (side_reads f g ra rb (plain o ∷ os)) ≡ result_ok (side_reads f g ra rb (o ∷ os))
  side-plain o os h =
      rw (A.plain_claim o h, B.plain_claim o h)
      (same_cond (f o) (ra (plain o ∷ os)) (cond (g o) (rb (plain o ∷ os)) (Err Unclaimed)) (ra (o ∷ os)) (cond (g o) (rb (o ∷ os)) (Err Unclaimed)) (A.plain-set o os h)
      (same_cond (g o) (rb (plain o ∷ os)) (Err Unclaimed) (rb (o ∷ os)) (Err Unclaimed) (B.plain-set o os h) refl))

  unclaimed-number : {h : PileFault} → ◌≡◌ {A = Result ChannelSet PileFault} (Err Unclaimed) (Err h) → (2 ≤ number h) × (number h ≤ 6)
  unclaimed-number {h} e = let same : number h ≡ 3 = ap number (sym (err_same e)) in omega arith

  length-number : {h : PileFault} → ◌≡◌ {A = Result ChannelSet PileFault} (Err (Format Length)) (Err h) → (2 ≤ number h) × (number h ≤ 6)
  length-number {h} e = let same : number h ≡ 2 = ap number (sym (err_same e)) in omega arith

  beside_none : shared f g ≡ None → Laws (claim_by None f g) (read_by None f g ra rb) (write_by None wa wb)
  beside_none none = record {
    sound = λ os s e.
        let p = side os s e in
        ⊎_elim (λ q. let k = A.sound os s q.1 in record { some = k.some; most = k.most; claims = or_left (f (slice_index os 0)) (g (slice_index os 0)) q.0 })
        (λ q. let k = B.sound os s q.1 in record { some = k.some; most = k.most; claims = or_right (f (slice_index os 0)) (g (slice_index os 0)) q.0 })
        p.1;
    plain_claim = λ o h. rw (A.plain_claim o h, B.plain_claim o h) refl;
    plain-set = λ o os h. same_cond (sized (suc (length os))) (side_reads f g ra rb (plain o ∷ os)) (Err (Format Length)) (side_reads f g ra rb (o ∷ os)) (Err (Format Length)) (side-plain o os h) refl;
    written = λ s L os e.
        ⊎_elim (λ q. let k = A.written s L os q in record { long = k.long; octets = k.octets; back = reads_first os s k.back })
        (λ q. let k = B.written s L os q in record { long = k.long; octets = k.octets; back = reads_second none os s k.octets k.back })
        (first_ok_lem (wa s L) (wb s L) os e);
    refused = λ s L fault e os l h r.
        let p = first_err (wa s L) (wb s L) fault e in
        ⊎_elim (λ q. A.refused s L p.0.0 p.0.1 os l h q.1) (λ q. B.refused s L fault p.1 os l h q.1) (side os s r).1;
    read_number = λ os fault e.
        ⊎_elim (λ p. ⊎_elim (A.read_number os fault) (λ q. ⊎_elim (B.read_number os fault) unclaimed-number (cond_err (g (slice_index os 0)) (rb os) (Err Unclaimed) fault q)) (cond_err (f (slice_index os 0)) (ra os) (cond (g (slice_index os 0)) (rb os) (Err Unclaimed)) fault p))
        length-number (cond_err (sized (length os)) (side_reads f g ra rb os) (Err (Format Length)) fault e);
    write_number = λ s L fault e. B.write_number s L fault (first_err (wa s L) (wb s L) fault e).1;
  }

  beside_some : (k : ℕ) → Laws (claim_by (Some k) f g) (read_by (Some k) f g ra rb) (write_by (Some k) wa wb)
  beside_some k = record {
    sound = λ os s e. absurd (err_ok e);
    plain_claim = λ o h. refl;
    plain-set = λ o os h. refl;
    written = λ s L os e. absurd (err_ok e);
    refused = λ s L fault e os l h r. err_ok r;
    read_number = λ os fault e. let same : number fault ≡ 5 = ap number (sym (err_same e)) in omega arith;
    write_number = λ s L fault e. let same : number fault ≡ 5 = ap number (sym (err_same e)) in omega arith;
  }

  pub beside_lawful : Laws (claim_by (shared f g) f g) (read_by (shared f g) f g ra rb) (write_by (shared f g) wa wb)
  beside_lawful = go (shared f g) refl
    where
      go : (o : Option ℕ) → shared f g ≡ o → Laws (claim_by o f g) (read_by o f g ra rb) (write_by o wa wb)
      go (Some k) e = beside_some k
      go None e = beside_none e

module _ (allowed : ChannelSet) (f : Claim) (rp : Reading) (wp : Writing) (P : Laws f rp wp) where
  held_ok : (r : Result ChannelSet PileFault) (s : ChannelSet) → held allowed r ≡ Ok s → (r ≡ Ok s) × (first_outside s allowed ≡ None)
  held_ok (Err h) s e = absurd (err_ok e)
  held_ok (Ok t) s e = go (first_outside t allowed) refl e
    where
      go : (o : Option ℕ) → first_outside t allowed ≡ o → within o (Ok t) ≡ Ok s → (◌≡◌ {A = Result ChannelSet PileFault} (Ok t) (Ok s)) × (first_outside s allowed ≡ None)
      go (Some c) q e = absurd (err_ok e)
      go None q e = (e, rw (← ok_same e) q)

  held_number : (r : Result ChannelSet PileFault) (h : PileFault) → ((k : PileFault) → r ≡ Err k → (2 ≤ number k) × (number k ≤ 6)) → held allowed r ≡ Err h → (2 ≤ number h) × (number h ≤ 6)
  held_number (Err k) h low e = low h e
  held_number (Ok t) h low e = go (first_outside t allowed) e
    where
      go : (o : Option ℕ) → within {X = ChannelSet} o (Ok t) ≡ Err h → (2 ≤ number h) × (number h ≤ 6)
      go (Some c) e = let same : number h ≡ 6 = ap number (sym (err_same e)) in omega arith
      go None e = absurd (err_ok (sym e))

  held_same : (a b : Result ChannelSet PileFault) → result_ok a ≡ result_ok b → result_ok (held allowed a) ≡ result_ok (held allowed b)
  held_same (Ok s) (Ok t) e = let q : s ≡ t = cc in rw q refl
  held_same (Ok s) (Err h) e = let z : ◌≡◌ {A = ℕ} 0 1 = cc in absurd (omega arith)
  held_same (Err k) (Ok t) e = let z : ◌≡◌ {A = ℕ} 0 1 = cc in absurd (omega arith)
  held_same (Err k) (Err h) e = refl

  within_ok : (o : Option ℕ) (r : Result (List ℕ) PileFault) (os : List ℕ) → within o r ≡ Ok os → (o ≡ None) × (r ≡ Ok os)
  within_ok (Some c) r os e = absurd (err_ok e)
  within_ok None r os e = (refl, e)

  within_err : (o : Option ℕ) (r : Result (List ℕ) PileFault) (h : PileFault) → within o r ≡ Err h → ((o ≡ None) × (r ≡ Err h)) ⊎ ((c : ℕ) × (o ≡ Some c) × (number h ≡ 6))
  within_err (Some c) r h e = inr (c, refl, ap number (sym (err_same e)))
  within_err None r h e = inl (refl, e)

  pub licence_lawful : Laws f (λ os. held allowed (rp os)) (λ s L. within (first_outside s allowed) (wp s L))
  licence_lawful = record {
    sound = λ os s e. P.sound os s (held_ok (rp os) s e).0;
    plain_claim = P.plain_claim;
    plain-set = λ o os h. held_same (rp (plain o ∷ os)) (rp (o ∷ os)) (P.plain-set o os h);
    written = λ s L os e.
        let p = within_ok (first_outside s allowed) (wp s L) os e in
        let k = P.written s L os p.1 in
        record { long = k.long; octets = k.octets; back = ap (held allowed) k.back ∙ ap (λ o. within o (Ok s)) p.0 };
    refused = λ s L h e os l oct r.
        let q = held_ok (rp os) s r in
        ⊎_elim (λ p. P.refused s L h p.1 os l oct q.0) (λ p. some-none p.1 q.1) (within_err (first_outside s allowed) (wp s L) h e);
    read_number = λ os h e. held_number (rp os) h (P.read_number os) e;
    write_number = λ s L h e.
        ⊎_elim (λ p. P.write_number s L h p.1) (λ p. let k = p.2 in omega arith) (within_err (first_outside s allowed) (wp s L) h e);
  }

pub beside_keeps : (a b : Meaning) → Lawful a → Lawful b → Lawful (beside_of a b)
beside_keeps a b k l = beside_lawful a.claimed b.claimed a.reads b.reads a.writes b.writes k l

pub licence_keeps : (allowed : ChannelSet) (m : Meaning) → Lawful m → Lawful (licence_of allowed m)
licence_keeps allowed m k = licence_lawful allowed m.claimed m.reads m.writes k
