-- What is written of octets is read as them.
use Rattle.std.proofs.Common.{◌≡◌, ℕ, ◌+◌, ◌*◌, ◌/◌, ◌%◌, ◌<◌, false, List, [], ◌∷◌, ◌++◌, length, Some, Ok, refl, ap, ◌∙◌, arith, length-drop}
use Rattle.std.specs.List.{flat_map, AllByRecursion}
use Rattle.std.proofs.lemmas.Bool.Decides.{nat_tests}
use Rattle.notation.specs.Codes.{hex_of, digit_in}
use Rattle.notation.specs.Numbers.{and_then}
use Rattle.notation.specs.Texts.{hex_char, octet_text, blanked, hex_text}
use Rattle.notation.specs.Octets.{blank, pair_at, before, octets_from, octets_of, OctetLaws}
use Rattle.notation.proofs.Hexes.{skip_blank, take_pair}

pub hex-back : (d : ℕ) → d < 16 → hex_of (hex_char d) ≡ Some d
hex-back d h = grind (arith, nat_tests)

pub hex-solid : (d : ℕ) → d < 16 → blank (hex_char d) ≡ false
hex-solid d h = grind (arith, nat_tests)

pair_back : (at o : ℕ) → o < 256 → pair_at at (hex_char (o / 16)) (hex_char (o % 16)) ≡ Ok o
pair_back at o h =
    let a = hex-back (o / 16) (omega arith) in
    let b = hex-back (o % 16) (omega arith) in
    let whole : o / 16 * 16 + o % 16 ≡ o = omega arith in
    (λ i. and_then (digit_in at (a i)) (λ x. and_then (digit_in (at + 1) (b i)) (λ y. Ok (x * 16 + y)))) ∙ ap Ok whole

one-back : (at o : ℕ) (bs : List ℕ) → o < 256 → octets_from at (octet_text o ++ bs) ≡ before (o ∷ []) (octets_from (at + 2) bs)
one-back at o bs h =
    take_pair at (hex_char (o / 16)) (hex_char (o % 16) ∷ bs) (hex-solid (o / 16) (omega arith))
    ∙ ap (λ r. and_then r (λ o. before (o ∷ []) (octets_from (at + 2) bs))) (pair_back at o h)

dense-back : (at : ℕ) (os : List ℕ) → AllByRecursion (λ o. o < 256) os → octets_from at (flat_map octet_text os) ≡ Ok os
dense-back at [] h = refl
dense-back at (o ∷ os) h = one-back at o (flat_map octet_text os) h.0 ∙ ap (before (o ∷ [])) (dense-back (at + 2) os h.1)

blanked-back : (at : ℕ) (os : List ℕ) → AllByRecursion (λ o. o < 256) os → octets_from at (blanked octet_text os) ≡ Ok os
blanked-back at [] h = refl
blanked-back at (o ∷ os) h =
    skip_blank at 32 (octet_text o ++ blanked octet_text os) refl
    ∙ one-back (at + 1) o (blanked octet_text os) h.0 ∙ ap (before (o ∷ [])) (blanked-back (at + 1 + 2) os h.1)

spaced-back : (os : List ℕ) → AllByRecursion (λ o. o < 256) os → octets_of (hex_text os) ≡ Ok os
spaced-back [] h = refl
spaced-back (o ∷ os) h = one-back 0 o (blanked octet_text os) h.0 ∙ ap (before (o ∷ [])) (blanked-back 2 os h.1)

length-blanked : (os : List ℕ) → length (blanked octet_text os) ≡ 3 * length os
length-blanked [] = refl
length-blanked (o ∷ os) = omega (arith, length-blanked os)

pub octet_laws : OctetLaws
octet_laws = record {
  long = λ os. length-drop 1 (blanked octet_text os) ∙ omega (arith, length-blanked os);
  back = spaced-back;
  dense = dense-back 0;
}
