-- Numbers, ranges, codes and cells are read as they were written.
use Rattle.std.proofs.Common.{◌≡◌, ℕ, ◌+◌, ◌*◌, ◌/◌, ◌%◌, ◌<◌, ◌≤◌, true, false, List, [], ◌∷◌, ◌++◌, length, get_or, drop, Ok, decimal, sym, refl, ap, ◌∙◌, ⊎_elim, append-nil, arith}
use Rattle.std.specs.Char.{is_ascii_digit}
use Rattle.std.specs.List.{AllByRecursion}
use Rattle.std.proofs.lemmas.Fmt.{decimal_by_steps}
use Rattle.std.proofs.ByRecursion.{All-push}
use Rattle.std.proofs.lemmas.List.{drop_at, drop-drop, get_or_at, length-append, length_push}
use Rattle.std.proofs.lemmas.Bool.{cond-true, cond-false, eq-eqb, ne_eqb, le-ltb, cases_eq}
use Rattle.std.proofs.lemmas.Bool.Decides.{nat_tests}
use Rattle.notation.specs.Numbers.{and_then, capped, digits, amount, span, number_of, high_of, span_of}
use Rattle.notation.specs.Codes.{hex_of, digit_in, ended, live, cell_at, four_at}
use Rattle.notation.specs.Texts.{hex_char, code_text, cell_text}
use Rattle.notation.specs.Back.{NumberBack, RangeBack, CodeBack, CellBack}
use Rattle.notation.proofs.OctetsBack.{hex-back}

abbrev Figure : ℕ → Type 0
Figure c = is_ascii_digit c ≡ true

-- digits in front of something else
digits-none : (rest : List ℕ) → is_ascii_digit (get_or rest 0 0) ≡ false → digits rest ≡ 0
digits-none [] e = refl
digits-none (c ∷ cs) e = cond-false _ _ _ e

amount-none : (n : ℕ) (rest : List ℕ) → is_ascii_digit (get_or rest 0 0) ≡ false → amount n rest ≡ n
amount-none n [] e = refl
amount-none n (c ∷ cs) e = cond-false _ _ _ e

digits-front : (ds rest : List ℕ) → AllByRecursion Figure ds → is_ascii_digit (get_or rest 0 0) ≡ false → digits (ds ++ rest) ≡ length ds
digits-front [] rest h e = digits-none rest e
digits-front (c ∷ cs) rest h e = cond-true _ _ _ h.0 ∙ omega (arith, digits-front cs rest h.1 e)

amount-front : (n : ℕ) (ds rest : List ℕ) → AllByRecursion Figure ds → is_ascii_digit (get_or rest 0 0) ≡ false → amount n (ds ++ rest) ≡ amount n ds
amount-front n [] rest h e = amount-none n rest e
amount-front n (c ∷ cs) rest h e = cond-true _ _ _ h.0 ∙ amount-front (capped n c) cs rest h.1 e ∙ sym (cond-true _ _ _ h.0)

amount_push : (n : ℕ) (ds : List ℕ) (c : ℕ) → AllByRecursion Figure ds → Figure c → amount n (ds ++ c ∷ []) ≡ capped (amount n ds) c
amount_push n [] c h e = cond-true _ _ _ e
amount_push n (d ∷ ds) c h e = cond-true _ _ _ h.0 ∙ amount_push (capped n d) ds c h.1 e ∙ ap (λ m. capped m c) (sym (cond-true _ _ _ h.0))

-- what a number's text is
pub record Figures (n : ℕ) (ds : List ℕ) : Type 0 where
  pub all : AllByRecursion Figure ds
  pub some : 0 < length ds
  pub value : n < 65536 → amount 0 ds ≡ n

figure : (d : ℕ) → d < 10 → Figure (48 + d)
figure d h = grind (arith, nat_tests)

one-figure : (n : ℕ) → n < 10 → Figures n ((48 + n) ∷ [])
one-figure n h = record { all = (figure n h, tt); some = omega arith; value = λ _. cond-true _ _ _ (figure n h) ∙ omega arith }

one_more : (n : ℕ) (ds : List ℕ) → 10 ≤ n → Figures (n / 10) ds → Figures n (ds ++ ((48 + n % 10) ∷ []))
one_more n ds h f =
    let small : n % 10 < 10 = omega arith in
    record {
      all = All-push Figure ds (48 + n % 10) f.all (figure (n % 10) small);
      some = omega (arith, length_push ds (48 + n % 10));
      value = λ k. amount_push 0 ds (48 + n % 10) f.all (figure (n % 10) small) ∙ ap (λ m. capped m (48 + n % 10)) (f.value (omega arith)) ∙ omega arith;
    }

pub figures : (n : ℕ) → n < 65536 → Figures n (decimal n)
figures n h = decimal_by_steps Figures one-figure one_more n (omega arith)

number_read : (n : ℕ) (ds : List ℕ) → n < 65536 → Figures n ds → number_of ds ≡ Ok n
number_read n ds h f =
    let long : digits ds ≡ length ds = ap digits (sym (append-nil ds)) ∙ digits-front ds [] f.all refl in
    cond-false _ _ _ (ne_eqb (digits ds) 0 (λ e. omega (arith, f.some)))
    ∙ cond-true _ _ _ (eq-eqb (digits ds) (length ds) long) ∙ ap Ok (f.value h)

pub number_back : NumberBack
number_back n h = number_read n (decimal n) h (figures n h)

-- a range
module _ (low high : ℕ) (order : low ≤ high) (small : high < 65536) where
  two-read : (low ≡ high → ⊥) → span_of (decimal low ++ (45 ∷ decimal high)) ≡ Ok (span low high)
  two-read ne =
      let f = figures low (omega arith) in
      let ds = decimal low in
      let more = 45 ∷ decimal high in
      let long : digits (ds ++ more) ≡ length ds = digits-front ds more f.all refl in
      let first : amount 0 (ds ++ more) ≡ low = amount-front 0 ds more f.all refl ∙ f.value (omega arith) in
      let whole = length-append ds more in
      cond-false _ _ _ (ne_eqb (digits (ds ++ more)) 0 (λ e. omega (arith, f.some)))
      ∙ cond-false _ _ _ (ne_eqb (digits (ds ++ more)) (length (ds ++ more)) (λ e. omega arith))
      ∙ cond-true _ _ _ (eq-eqb (get_or (ds ++ more) (digits (ds ++ more)) 0) 45 (get_or_at ds 45 (decimal high) 0 (digits (ds ++ more)) (sym long)))
      ∙ (λ i. high_of (first i) (digits (ds ++ more) + 1) (number_of (behind ds long i)))
      ∙ ap (high_of low (digits (ds ++ more) + 1)) (number_read high (decimal high) small (figures high small))
      ∙ cond-false _ _ _ (le-ltb high low order)
    where
      past : (ds : List ℕ) → drop (length ds + 1) (ds ++ (45 ∷ decimal high)) ≡ decimal high
      past ds = sym (drop-drop 1 (length ds) (ds ++ (45 ∷ decimal high))) ∙ ap (drop 1) (drop_at ds (45 ∷ decimal high) (length ds) refl)

      behind : (ds : List ℕ) → digits (ds ++ (45 ∷ decimal high)) ≡ length ds → drop (digits (ds ++ (45 ∷ decimal high)) + 1) (ds ++ (45 ∷ decimal high)) ≡ decimal high
      behind ds e = ap (λ k. drop (k + 1) (ds ++ (45 ∷ decimal high))) e ∙ past ds

one-read : (n : ℕ) → n < 65536 → span_of (decimal n) ≡ Ok (span n n)
one-read n small =
    let f = figures n small in
    let ds = decimal n in
    let long : digits ds ≡ length ds = ap digits (sym (append-nil ds)) ∙ digits-front ds [] f.all refl in
    cond-false _ _ _ (ne_eqb (digits ds) 0 (λ e. omega (arith, f.some)))
    ∙ cond-true _ _ _ (eq-eqb (digits ds) (length ds) long) ∙ ap (λ m. Ok (span m m)) (f.value small)

pub range_back : RangeBack
range_back low high order small =
    ⊎_elim
    (λ e. ap span_of (cond-true _ _ _ (eq-eqb low high e)) ∙ one-read low (omega arith) ∙ ap (λ m. Ok (span low m)) e)
    (λ ne. ap span_of (cond-false _ _ _ (ne_eqb low high ne)) ∙ two-read low high order small ne)
    (cases_eq low high)

-- four digits, wherever they stand
module _ (n : ℕ) (small : n < 65536) where
  four_read : (bs : List ℕ) (i : ℕ) → get_or bs i 0 ≡ hex_char (n / 4096) → get_or bs (i + 1) 0 ≡ hex_char (n / 256 % 16) → get_or bs (i + 2) 0 ≡ hex_char (n / 16 % 16) → get_or bs (i + 3) 0 ≡ hex_char (n % 16) → four_at bs i ≡ Ok n
  four_read bs i a b c d =
      (λ j. and_then (digit_in i ((ap hex_of a ∙ hex-back (n / 4096) (omega arith)) j)) (λ w. and_then (digit_in (i + 1) ((ap hex_of b ∙ hex-back (n / 256 % 16) (omega arith)) j)) (λ x. and_then (digit_in (i + 2) ((ap hex_of c ∙ hex-back (n / 16 % 16) (omega arith)) j)) (λ y. and_then (digit_in (i + 3) ((ap hex_of d ∙ hex-back (n % 16) (omega arith)) j)) (λ z. Ok (((w * 16 + x) * 16 + y) * 16 + z))))))
      ∙ ap Ok whole
    where
      whole : ((n / 4096 * 16 + n / 256 % 16) * 16 + n / 16 % 16) * 16 + n % 16 ≡ n
      whole = omega arith

pub code_back : CodeBack
code_back n small = ap (λ r. and_then r (λ m. ended (code_text n) 4 (Ok m))) (four_read n small (code_text n) 0 refl refl refl refl)

pub cell_back : CellBack
cell_back lac ci a b alive =
    let bs = cell_text (cell_at lac ci) in
    ap (λ r. and_then r (λ l. and_then (four_at bs 5) (λ c. live l c))) (four_read lac a bs 0 refl refl refl refl)
    ∙ ap (λ r. and_then r (λ c. live lac c)) (four_read ci b bs 5 refl refl refl refl) ∙ cond-false _ _ _ alive
