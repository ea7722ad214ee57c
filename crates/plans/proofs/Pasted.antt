-- A line that is made of a cell and ranges is read as them.
use Rattle.std.proofs.Common.{◌≡◌, ℕ, ◌+◌, ◌-◌, ◌/◌, ◌%◌, ◌<◌, Bool, true, false, cond, not, ◌||◌, eqb, leb, List, [], ◌∷◌, ◌++◌, length, take, drop, Some, None, Ok, Err, decimal, sym, refl, ap, ◌∙◌, append_assoc, arith}
use Rattle.std.specs.Char.{is_ascii_digit}
use Rattle.std.specs.List.{prefix_len, AllByRecursion}
use Rattle.std.proofs.ByRecursion.{All-append, All-weaker}
use Rattle.std.proofs.lemmas.List.{drop_at, take_at, length-append}
use Rattle.std.proofs.lemmas.Bool.{cond-true, cond-false, cond_both, ne_eqb, eq-eqb, le-leb, and_parts, not-true}
use Rattle.std.proofs.lemmas.Bool.Decides.{nat_tests}
use Rattle.channels.specs.declared.ChannelSet.{ChannelSet}
use Rattle.channels.specs.Sets.{holds, no_channels, size_of, members_of}
use Rattle.channels.proofs.Views.{holds_of, holds-none, same_set, member_laws}
use Rattle.notation.specs.declared.Span.{Span}
use Rattle.notation.specs.Codes.{deleted, cell_at}
use Rattle.notation.specs.Lists.{span_text, run_of, runs_from, spans_of, list_text, in_span, covers}
use Rattle.notation.specs.Numbers.{and_then}
use Rattle.notation.specs.Octets.{blank}
use Rattle.notation.specs.Texts.{hex_char, code_text, cell_text, blanked}
use Rattle.notation.proofs.Backs.{range_back, cell_back, figures}
use Rattle.notation.proofs.Covers.{Ranges, members_range, spans_exact}
use Rattle.plans.specs.Lines.{placed, with_span, over_range, add_in, channels_in, entry, line_by, line_of}
use Rattle.plans.specs.Pieces.{Piece}
use Rattle.plans.specs.Pastes.{as_line, PasteLaws}
use Rattle.plans.specs.Reports.{channel_text}
use Rattle.plans.specs.Words.{solid, begins, ends, word, end_of, next_word, words_after}
use Rattle.plans.proofs.Steps.{none-past, no_word, one_word}

abbrev pub piece : ℕ → List ℕ → Piece
piece a t = record { start = a; text = t }

abbrev Solid : ℕ → Type 0
Solid c = solid c ≡ true

leading-front : (p : ℕ → Bool) (ds rest : List ℕ) → AllByRecursion (λ c. p c ≡ true) ds → prefix_len p rest ≡ 0 → prefix_len p (ds ++ rest) ≡ length ds
leading-front p [] rest h e = e
leading-front p (c ∷ cs) rest h e = cond-true _ _ _ h.0 ∙ omega (arith, leading-front p cs rest h.1 e)

not-blank : (w rest : List ℕ) → AllByRecursion Solid w → 0 < length w → prefix_len blank (w ++ rest) ≡ 0
not-blank [] rest h some = absurd (omega arith)
not-blank (c ∷ cs) rest h some = cond-false _ _ _ (not-true (blank c) (and_parts (not (eqb c 35)) (not (blank c)) h.0).1)

-- a word behind a gap
module _ (pre gap w rest : List ℕ) (blanks : AllByRecursion (λ c. blank c ≡ true) gap) (solids : AllByRecursion Solid w) (some : 0 < length w) (stop : prefix_len solid rest ≡ 0) where
  behind : drop (length pre + length gap) (pre ++ (gap ++ (w ++ rest))) ≡ w ++ rest
  behind = ap (drop (length pre + length gap)) (sym (append_assoc pre gap (w ++ rest))) ∙ drop_at (pre ++ gap) (w ++ rest) (length pre + length gap) (length-append pre gap)

  begin_at : begins (pre ++ (gap ++ (w ++ rest))) (length pre) ≡ length pre + length gap
  begin_at =
      ap (λ l. length pre + prefix_len blank l) (drop_at pre (gap ++ (w ++ rest)) (length pre) refl)
      ∙ ap (λ k. length pre + k) (leading-front blank gap (w ++ rest) blanks (not-blank w rest solids some))

  end_at : ends (pre ++ (gap ++ (w ++ rest))) (length pre + length gap) ≡ length pre + length gap + length w
  end_at = ap (λ l. length pre + length gap + prefix_len solid l) behind ∙ ap (λ k. length pre + length gap + k) (leading-front solid w rest solids stop)

  text_at : take (length pre + length gap + length w - (length pre + length gap)) (drop (length pre + length gap) (pre ++ (gap ++ (w ++ rest)))) ≡ w
  text_at =
      let long : length pre + length gap + length w - (length pre + length gap) ≡ length w = omega arith in
      (λ j. take (long j) (behind j)) ∙ take_at w rest (length w) refl

  pub word_at : next_word (pre ++ (gap ++ (w ++ rest))) (length pre) ≡ Some (record { start = length pre + length gap; text = w })
  unfolding next_word
  word_at =
      let bs = pre ++ (gap ++ (w ++ rest)) in
      ap (λ b. cond (eqb (ends bs b) b) None (Some (word bs b (ends bs b)))) begin_at
      ∙ ap (λ e. cond (eqb e (length pre + length gap)) None (Some (word bs (length pre + length gap) e))) end_at
      ∙ cond-false _ _ _ (ne_eqb (length pre + length gap + length w) (length pre + length gap) (λ e. omega arith))
      ∙ ap (λ t. Some (piece (length pre + length gap) t)) text_at

-- ranges are solid
digit-solid : (c : ℕ) → is_ascii_digit c ≡ true → Solid c
digit-solid c e = grind (arith, nat_tests)

number-solid : (n : ℕ) → n < 65536 → AllByRecursion Solid (decimal n)
number-solid n h = All-weaker (λ c. is_ascii_digit c ≡ true) Solid digit-solid (decimal n) (figures n h).all

span-solid : (s : Span) → Ranges s → AllByRecursion Solid (span_text s)
span-solid s h =
    cond_both (eqb s.low s.high) _ _ (AllByRecursion Solid)
    (λ _. number-solid s.low (omega (arith, h)))
    (λ _. All-append Solid (decimal s.low) (45 ∷ decimal s.high) (number-solid s.low (omega (arith, h))) (refl, number-solid s.high (omega (arith, h))))

span-some : (s : Span) → Ranges s → 0 < length (span_text s)
span-some s h =
    let one = (figures s.low (omega (arith, h))).some in
    cond_both (eqb s.low s.high) _ _ (λ l. 0 < length l) (λ _. one) (λ _. omega (arith, length-append (decimal s.low) (45 ∷ decimal s.high)))

blanked_stop : (ss : List Span) → prefix_len solid (blanked span_text ss) ≡ 0
blanked_stop [] = refl
blanked_stop (s ∷ ss) = refl

-- a set with the channels of several ranges
spread : ChannelSet → List Span → ChannelSet
spread s [] = s
spread s (x ∷ xs) = spread (with_span s x) xs

holds-spread : (s : ChannelSet) (ss : List Span) (k : ℕ) → k < 1024 → holds (spread s ss) k ≡ (holds s k || covers ss k)
unfolding spread
holds-spread s [] k h = sym (plain (holds s k))
  where
    plain : (x : Bool) → (x || false) ≡ x
    plain true = refl
    plain false = refl
holds-spread s (x ∷ xs) k h = holds-spread (with_span s x) xs k h ∙ ap (λ b. b || covers xs k) (holds_of _ k h) ∙ regroup (holds s k) (in_span x k) (covers xs k)
  where
    regroup : (x y z : Bool) → ((x || y) || z) ≡ (x || (y || z))
    regroup true y z = refl
    regroup false y z = refl

spread_members : (s : ChannelSet) → spread no_channels (spans_of (members_of s)) ≡ s
spread_members s = same_set _ s (λ k h. holds-spread no_channels (spans_of (members_of s)) k h ∙ ap (λ b. b || covers (spans_of (members_of s)) k) (holds-none k) ∙ spans_exact member_laws s k)

-- one range behind a text that is read already
module _ (pre : List ℕ) (x : Span) (xs : List Span) (h : Ranges x) (s : ChannelSet) where
  pub next-range : next_word (pre ++ blanked span_text (x ∷ xs)) (length pre) ≡ Some (piece (length pre + 1) (span_text x))
  next-range = word_at pre (32 ∷ []) (span_text x) (blanked span_text xs) (refl, tt) (span-solid x h) (span-some x h) (blanked_stop xs)

  pub add_range : add_in s (piece (length pre + 1) (span_text x)) ≡ Ok (with_span s x)
  add_range =
      let w = piece (length pre + 1) (span_text x) in
      ap (λ r. and_then (placed w r) (λ r. cond (leb r.high 1023) (Ok (with_span s r)) (Err (over_range w)))) (range_back x.low x.high h.0 (omega (arith, h.1)))
      ∙ cond-true _ _ _ (le-leb x.high 1023 h.1)

ranges_read : (ss : List Span) → AllByRecursion Ranges ss → (pre : List ℕ) (s : ChannelSet) → channels_in s (words_after (pre ++ blanked span_text ss) (length pre)) ≡ Ok (spread s ss)
unfolding spread
ranges_read [] h pre s =
    let long = length-append pre [] in
    ap (channels_in s) (no_word (pre ++ []) (length pre) (omega arith) (none-past (pre ++ []) (length pre) (omega arith)))
ranges_read (x ∷ xs) h pre s =
    let bs = pre ++ blanked span_text (x ∷ xs) in
    let w = piece (length pre + 1) (span_text x) in
    let long = length-append pre (blanked span_text (x ∷ xs)) in
    let same : (pre ++ (32 ∷ span_text x)) ++ blanked span_text xs ≡ bs = append_assoc pre (32 ∷ span_text x) (blanked span_text xs) in
    let place : length (pre ++ (32 ∷ span_text x)) ≡ end_of w = omega (arith, length-append pre (32 ∷ span_text x)) in
    ap (channels_in s) (one_word bs (length pre) w (omega arith) (next-range pre x xs h.0 s))
    ∙ ap (λ r. and_then r (λ t. channels_in t (words_after bs (end_of w)))) (add_range pre x xs h.0 s)
    ∙ (λ j. channels_in (with_span s x) (words_after (sym same j) (sym place j))) ∙ ranges_read xs h.1 (pre ++ (32 ∷ span_text x)) (with_span s x)

-- a cell is solid
hex-solid : (d : ℕ) → d < 16 → Solid (hex_char d)
hex-solid d h = grind (arith, nat_tests)

code_solid : (n : ℕ) → n < 65536 → AllByRecursion Solid (code_text n)
code_solid n h = (hex-solid (n / 4096) (omega arith), (hex-solid (n / 256 % 16) (omega arith), (hex-solid (n / 16 % 16) (omega arith), (hex-solid (n % 16) (omega arith), tt))))

-- a list that has channels has ranges
run_some : (low high : ℕ) → 0 < length (run_of low high)
run_some low high = cond_both (eqb high (low + 1)) _ _ (λ l. 0 < length l) (λ _. omega arith) (λ _. omega arith)

runs_some : (low high : ℕ) (cs : List ℕ) → 0 < length (runs_from low high cs)
runs_some low high [] = run_some low high
runs_some low high (c ∷ cs) =
    cond_both (eqb c (high + 1)) _ _ (λ l. 0 < length l) (λ _. runs_some low c cs) (λ _. omega (arith, run_some low high, length-append (run_of low high) (runs_from c c cs)))

blank-before : (ss : List Span) → 0 < length ss → 32 ∷ list_text ss ≡ blanked span_text ss
blank-before [] h = absurd (omega arith)
blank-before (x ∷ xs) h = refl

-- the channels behind a cell, whether there are any or not
printed-by : (cs : List ℕ) (n : ℕ) → length cs ≡ n → cond (eqb n 0) [] (32 ∷ list_text (spans_of cs)) ≡ blanked span_text (spans_of cs)
printed-by [] n e = cond-true _ _ _ (eq-eqb n 0 (sym e))
printed-by (c ∷ cs) n e = cond-false _ _ _ (ne_eqb n 0 (λ z. omega arith)) ∙ blank-before (runs_from c c cs) (runs_some c c cs)

printed : (s : ChannelSet) → cond (eqb (size_of s) 0) [] (32 ∷ channel_text s) ≡ blanked span_text (spans_of (members_of s))
unfolding channel_text
printed s = printed-by (members_of s) (size_of s) (member_laws.count s)

module _ (lac ci : ℕ) (s : ChannelSet) (a : lac < 65536) (b : ci < 65536) (alive : deleted lac ≡ false) where
  made_line : line_of (cell_text (cell_at lac ci) ++ blanked span_text (spans_of (members_of s))) ≡ Ok (Some (entry (cell_at lac ci) s))
  made_line =
      let c = cell_at lac ci in
      let ss = spans_of (members_of s) in
      let bs = cell_text c ++ blanked span_text ss in
      let w = piece 0 (cell_text c) in
      let solids = All-append Solid (code_text lac) (58 ∷ code_text ci) (code_solid lac a) (refl, code_solid ci b) in
      let first = word_at [] [] (cell_text c) (blanked span_text ss) tt solids (omega arith) (blanked_stop ss) in
      ap line_by (one_word bs 0 w (omega arith) first)
      ∙ ap (λ r. and_then (placed w r) (λ c. and_then (channels_in no_channels (words_after bs 9)) (λ s. Ok (Some (entry c s))))) (cell_back lac ci a b alive)
      ∙ ap (λ r. and_then r (λ s. Ok (Some (entry c s)))) (ranges_read ss (members_range member_laws s) (cell_text c) no_channels ∙ ap Ok (spread_members s))

  pasted : line_of (as_line (cell_at lac ci) s) ≡ Ok (Some (entry (cell_at lac ci) s))
  pasted = ap (λ l. line_of (cell_text (cell_at lac ci) ++ l)) (printed s) ∙ made_line

pub paste_laws : PasteLaws
paste_laws = record { back = pasted }
