-- A format that reads back what it writes, and writes whatever it can read, keeps the laws of a pile.
use Rattle.std.specs.Prelude.{◌≡◌, ℕ, ◌<◌, ◌≤◌, Bool, true, false, cond, ◌⊎◌, List, ◌∷◌, length, Some, None, Ok, Err, Option, Result, ◌≢◌, slice_index, refl}
use Rattle.std.proofs.Common.{sym, ◌∙◌, ap, ap₂, inl, inr, ⊎_elim, arith}
use Rattle.std.specs.Result.{result_ok}
use Rattle.channels.specs.declared.ChannelSet.{ChannelSet}
use Rattle.faults.specs.declared.FormatFault.{FormatFault}
use Rattle.faults.specs.declared.FormatFault.TheVariants.{Length, NumberAfterNull}
use Rattle.faults.specs.declared.PileFault.{PileFault}
use Rattle.faults.specs.declared.PileFault.TheVariants.{Format, Unclaimed, Unwritten}
use Rattle.piles.specs.Flagged.{plain}
use Rattle.piles.specs.Laws.{sized, Lawful, Octets, number}
use Rattle.piles.specs.Calls.{err_ok, err_same, ok_same}
use Rattle.piles.specs.Combine.{cond_ok, cond_err, cond_is_true, cond_is_false, sized-true}
use Rattle.piles.specs.Codecs.{Codec, carried, or_unwritten, reads_by, writes_by, format_of}

-- what is owed of a format
pub record Faithful (k : Codec) : Type 0 where
  pub sizes : (L : ℕ) → k.fits L ≡ true → (1 ≤ L) × (L ≤ 130)
  -- bits 6 and 5 of the first octet matter to neither claim nor set
  pub plain_claim : (o : ℕ) → o < 256 → k.claimed (plain o) ≡ k.claimed o
  pub plain-set : (o : ℕ) (os : List ℕ) → o < 256 → k.decoded (plain o ∷ os) ≡ k.decoded (o ∷ os)
  -- what is written
  pub long : (s : ChannelSet) (L : ℕ) (os : List ℕ) → k.fits L ≡ true → k.encoded s L ≡ Some os → length os ≡ L
  pub octets : (s : ChannelSet) (L : ℕ) (os : List ℕ) → k.fits L ≡ true → k.encoded s L ≡ Some os → Octets os
  pub claims : (s : ChannelSet) (L : ℕ) (os : List ℕ) → k.fits L ≡ true → k.encoded s L ≡ Some os → k.claimed (slice_index os 0) ≡ true
  pub back : (s : ChannelSet) (L : ℕ) (os : List ℕ) → k.fits L ≡ true → k.encoded s L ≡ Some os → k.decoded os ≡ Ok s
  -- what is not written cannot be read
  pub never : (s : ChannelSet) (os : List ℕ) → k.fits (length os) ≡ true → k.encoded s (length os) ≡ None → Octets os → k.decoded os ≢ Ok s

module _ (k : Codec) where
  abbrev inner : List ℕ → Result ChannelSet PileFault
  inner os = cond (k.fits (length os)) (carried (k.decoded os)) (Err (Format Length))

  abbrev middle : List ℕ → Result ChannelSet PileFault
  middle os = cond (k.claimed (slice_index os 0)) (inner os) (Err Unclaimed)

  pub record IsRead (os : List ℕ) (s : ChannelSet) : Type 0 where
    pub fits : k.fits (length os) ≡ true
    pub claims : k.claimed (slice_index os 0) ≡ true
    pub same : k.decoded os ≡ Ok s

  carried_ok : (r : Result ChannelSet FormatFault) (s : ChannelSet) → carried r ≡ Ok s → r ≡ Ok s
  carried_ok (Ok t) s e = ap Ok (ok_same e)
  carried_ok (Err f) s e = absurd (err_ok e)

  pub is_read : (os : List ℕ) (s : ChannelSet) → reads_by k os ≡ Ok s → IsRead os s
  is_read os s e =
      let a = cond_ok (sized (length os)) (middle os) (Format Length) s e in
      let b = cond_ok (k.claimed (slice_index os 0)) (inner os) Unclaimed s a.1 in
      let c = cond_ok (k.fits (length os)) (carried (k.decoded os)) (Format Length) s b.1 in
      record { fits = c.0; claims = b.0; same = carried_ok (k.decoded os) s c.1 }

  -- the refusals and the answer of a reading, in their order
  pub unsized : (os : List ℕ) → sized (length os) ≡ false → reads_by k os ≡ Err (Format Length)
  unsized os e = cond_is_false (sized (length os)) (middle os) (Err (Format Length)) e

  pub unclaimed : (os : List ℕ) → sized (length os) ≡ true → k.claimed (slice_index os 0) ≡ false → reads_by k os ≡ Err Unclaimed
  unclaimed os e n = cond_is_true (sized (length os)) (middle os) (Err (Format Length)) e ∙ cond_is_false (k.claimed (slice_index os 0)) (inner os) (Err Unclaimed) n

  pub unfit : (os : List ℕ) → sized (length os) ≡ true → k.claimed (slice_index os 0) ≡ true → k.fits (length os) ≡ false → reads_by k os ≡ Err (Format Length)
  unfit os e n f =
      cond_is_true (sized (length os)) (middle os) (Err (Format Length)) e ∙ cond_is_true (k.claimed (slice_index os 0)) (inner os) (Err Unclaimed) n
      ∙ cond_is_false (k.fits (length os)) (carried (k.decoded os)) (Err (Format Length)) f

  pub reads_as : (os : List ℕ) → sized (length os) ≡ true → k.claimed (slice_index os 0) ≡ true → k.fits (length os) ≡ true → reads_by k os ≡ carried (k.decoded os)
  reads_as os e n f =
      cond_is_true (sized (length os)) (middle os) (Err (Format Length)) e ∙ cond_is_true (k.claimed (slice_index os 0)) (inner os) (Err Unclaimed) n
      ∙ cond_is_true (k.fits (length os)) (carried (k.decoded os)) (Err (Format Length)) f

  -- the refusals of a writing
  pub misfit : (s : ChannelSet) (L : ℕ) → k.fits L ≡ false → writes_by k s L ≡ Err Unwritten
  misfit s L f = cond_is_false (k.fits L) (or_unwritten (k.encoded s L)) (Err Unwritten) f

  pub writes_as : (s : ChannelSet) (L : ℕ) → k.fits L ≡ true → writes_by k s L ≡ or_unwritten (k.encoded s L)
  writes_as s L f = cond_is_true (k.fits L) (or_unwritten (k.encoded s L)) (Err Unwritten) f

  or_ok : (o : Option (List ℕ)) (os : List ℕ) → or_unwritten o ≡ Ok os → o ≡ Some os
  or_ok (Some xs) os e = ap Some (ok_same e)
  or_ok None os e = absurd (err_ok e)

  or_err : (o : Option (List ℕ)) (f : PileFault) → or_unwritten o ≡ Err f → (o ≡ None) × (f ≡ Unwritten)
  or_err (Some xs) f e = absurd (err_ok (sym e))
  or_err None f e = (refl, sym (err_same e))

  why_not : (s : ChannelSet) (L : ℕ) (f : PileFault) → writes_by k s L ≡ Err f → (f ≡ Unwritten) × ((k.fits L ≡ false) ⊎ (k.encoded s L ≡ None))
  why_not s L f = go (k.fits L) refl
    where
      go : (b : Bool) → k.fits L ≡ b → cond b (or_unwritten (k.encoded s L)) (Err Unwritten) ≡ Err f → (f ≡ Unwritten) × ((k.fits L ≡ false) ⊎ (k.encoded s L ≡ None))
      go true q e = let n = or_err (k.encoded s L) f e in (n.1, inr n.0)
      go false q e = (sym (err_same e), inl q)

  read_number : (os : List ℕ) (f : PileFault) → reads_by k os ≡ Err f → (2 ≤ number f) × (number f ≤ 6)
  read_number os f e =
      ⊎_elim (λ p. ⊎_elim (λ q. ⊎_elim (of_format (k.decoded os)) two (cond_err (k.fits (length os)) (carried (k.decoded os)) (Err (Format Length)) f q)) three (cond_err (k.claimed (slice_index os 0)) (inner os) (Err Unclaimed) f p))
      two (cond_err (sized (length os)) (middle os) (Err (Format Length)) f e)
    where
      two : ◌≡◌ {A = Result ChannelSet PileFault} (Err (Format Length)) (Err f) → (2 ≤ number f) × (number f ≤ 6)
      two q = let same : number f ≡ 2 = ap number (sym (err_same q)) in omega arith

      three : ◌≡◌ {A = Result ChannelSet PileFault} (Err Unclaimed) (Err f) → (2 ≤ number f) × (number f ≤ 6)
      three q = let same : number f ≡ 3 = ap number (sym (err_same q)) in omega arith

      of_format : (r : Result ChannelSet FormatFault) → carried r ≡ Err f → (2 ≤ number f) × (number f ≤ 6)
      of_format (Ok s) q = absurd (err_ok (sym q))
      of_format (Err Length) q = two q
      of_format (Err (NumberAfterNull i)) q = let same : number f ≡ 4 = ap number (sym (err_same q)) in omega arith

  module _ (good : Faithful k) where
    plain-reads : (o : ℕ) (os : List ℕ) → o < 256 → reads_by k (plain o ∷ os) ≡ reads_by k (o ∷ os)
    plain-reads o os h =
        ap₂ (λ b r. cond (sized (length (o ∷ os))) (cond b (cond (k.fits (length (o ∷ os))) (carried r) (Err (Format Length))) (Err Unclaimed)) (Err (Format Length)))
        (good.plain_claim o h) (good.plain-set o os h)

    pub format_lawful : Lawful (format_of k)
    format_lawful = record {
      sound = λ os s e. let r = is_read os s e in let n = good.sizes (length os) r.fits in record { some = n.0; most = n.1; claims = r.claims };
      plain_claim = good.plain_claim;
      plain-set = λ o os h. ap result_ok (plain-reads o os h);
      written = λ s L os e.
          let w = cond_ok (k.fits L) (or_unwritten (k.encoded s L)) Unwritten os e in
          let some = or_ok (k.encoded s L) os w.1 in
          let n = good.sizes L w.0 in
          let long = good.long s L os w.0 some in
          record {
            long = long;
            octets = good.octets s L os w.0 some;
            back = reads_as os (sized-true (length os) (omega arith) (omega arith)) (good.claims s L os w.0 some) (ap k.fits long ∙ w.0) ∙ ap carried (good.back s L os w.0 some);
          };
      refused = λ s L f e os l oct r.
          let n = is_read os s r in
          ⊎_elim (λ no. let z : ◌≡◌ {A = ℕ} (cond (k.fits L) 0 1) 1 = ap (λ b. cond b 0 1) no in let y : ◌≡◌ {A = ℕ} (cond (k.fits L) 0 1) 0 = ap (λ b. cond b 0 1) (ap k.fits (sym l) ∙ n.fits) in omega arith)
          (λ none. good.never s os n.fits (ap (k.encoded s) l ∙ none) oct n.same) (why_not s L f e).1;
      read_number = read_number;
      write_number = λ s L f e. let same : number f ≡ 7 = ap number (why_not s L f e).0 in omega arith;
    }
