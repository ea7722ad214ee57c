-- What `{:02X}` and `{:04X}` write, and two characters behind a text.
use Rattle.std.proofs.Common.{◌≡◌, ℕ, suc, ◌-◌, ◌/◌, ◌%◌, ◌^◌, ◌<◌, ◌≤◌, true, false, List, [], ◌∷◌, ◌++◌, append_assoc, ap, ◌∙◌, ⊎_elim, arith}
use Rattle.std.specs.Fmt.{digits, digits_onto, digit_glyph, char_count, padded_integral, format_spec}
use Rattle.std.proofs.lemmas.Bool.{cases_lt, cond-true, cond-false, eq-eqb, ne_eqb}
use Rattle.std.proofs.lemmas.Fmt.{hex_one_digit, hex_two_digits, hex_byte}
use Rattle.notation.specs.Texts.{code_text, octet_text}

-- an upper-case digit, and the text of a hole `{:02X}` or `{:04X}`
abbrev glyph : ℕ → ℕ
glyph d = digit_glyph true d

abbrev pub hole : ℕ → ℕ → List ℕ
hole width n = padded_integral (format_spec 32 0 4 width (2 ^ 64 - 1)) false [] (digits 16 true n)

module _ (k n : ℕ) (acc : List ℕ) where
  last_digit : n < 16 → digits_onto (suc k) 16 true n acc ≡ glyph (n % 16) ∷ acc
  last_digit h = cond-true _ _ _ (eq-eqb (n / 16) 0 (omega arith))

  more_digits : 16 ≤ n → digits_onto (suc k) 16 true n acc ≡ digits_onto k 16 true (n / 16) (glyph (n % 16) ∷ acc)
  more_digits h = cond-false _ _ _ (ne_eqb (n / 16) 0 (λ e. omega arith))

three_digits : (n : ℕ) → 256 ≤ n → n < 4096 → digits 16 true n ≡ glyph (n / 256) ∷ glyph (n / 16 % 16) ∷ glyph (n % 16) ∷ []
unfolding digits
three_digits n large small =
    let first : n / 16 / 16 % 16 ≡ n / 256 = omega arith in
    more_digits 63 n [] (omega arith) ∙ more_digits 62 (n / 16) (glyph (n % 16) ∷ []) (omega arith)
    ∙ last_digit 61 (n / 16 / 16) (glyph (n / 16 % 16) ∷ glyph (n % 16) ∷ []) (omega arith) ∙ ap (λ d. glyph d ∷ glyph (n / 16 % 16) ∷ glyph (n % 16) ∷ []) first

four_digits : (n : ℕ) → 4096 ≤ n → n < 65536 → digits 16 true n ≡ glyph (n / 4096) ∷ glyph (n / 256 % 16) ∷ glyph (n / 16 % 16) ∷ glyph (n % 16) ∷ []
unfolding digits
four_digits n large small =
    let first : n / 16 / 16 / 16 % 16 ≡ n / 4096 = omega arith in
    let second : n / 16 / 16 % 16 ≡ n / 256 % 16 = omega arith in
    more_digits 63 n [] (omega arith) ∙ more_digits 62 (n / 16) (glyph (n % 16) ∷ []) (omega arith)
    ∙ more_digits 61 (n / 16 / 16) (glyph (n / 16 % 16) ∷ glyph (n % 16) ∷ []) (omega arith)
    ∙ last_digit 60 (n / 16 / 16 / 16) (glyph (n / 16 / 16 % 16) ∷ glyph (n / 16 % 16) ∷ glyph (n % 16) ∷ []) (omega arith)
    ∙ (λ i. glyph (first i) ∷ glyph (second i) ∷ glyph (n / 16 % 16) ∷ glyph (n % 16) ∷ [])

pub hex_octet : (o : ℕ) → o < 256 → hole 2 o ≡ octet_text o
hex_octet o small = hex_byte true o small

pub hex_code : (n : ℕ) → n < 65536 → hole 4 n ≡ code_text n
unfolding padded_integral char_count
hex_code n small =
    ⊎_elim
    (λ few.
    let a : n / 4096 ≡ 0 = omega arith in
    let b : n / 256 % 16 ≡ 0 = omega arith in
    ⊎_elim
    (λ one.
    let c : n / 16 % 16 ≡ 0 = omega arith in
    let d : n % 16 ≡ n = omega arith in
    rw (hex_one_digit true n one, a, b, c, d))
    (λ two.
    let c : n / 16 ≡ n / 16 % 16 = omega arith in
    rw (hex_two_digits true n two few, a, b) (ap (λ d. 48 ∷ 48 ∷ glyph d ∷ glyph (n % 16) ∷ []) c))
    (cases_lt n 16))
    (λ many.
    ⊎_elim
    (λ three.
    let a : n / 4096 ≡ 0 = omega arith in
    let b : n / 256 ≡ n / 256 % 16 = omega arith in
    rw (three_digits n many three, a) (ap (λ d. 48 ∷ glyph d ∷ glyph (n / 16 % 16) ∷ glyph (n % 16) ∷ []) b))
    (λ four. rw (four_digits n four small))
    (cases_lt n 4096))
    (cases_lt n 256)

-- two characters more
pub two_more : (s a b : List ℕ) (x y : ℕ) → a ≡ x ∷ [] → b ≡ y ∷ [] → (s ++ a) ++ b ≡ s ++ (x ∷ y ∷ [])
two_more s a b x y p q = append_assoc s a b ∙ (λ i. s ++ (p i ++ q i))
