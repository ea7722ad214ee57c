-- The worked octets, by computation from the definitions.
use Rattle.std.proofs.Common.{◌≡◌, ℕ, zero, suc, ◌<◌, ◌≤◌, List, [], ◌∷◌, length, Ok, Err, refl, ap, ◌∙◌, arith}
use Rattle.faults.specs.declared.PileFault.TheVariants.{Unwritten}
use Rattle.bits.specs.Lowest.{lowest}
use Rattle.bits.specs.Bits.{bit, bit_in, words_of, number_of}
use Rattle.channels.specs.Sets.{holds, set_of}
use Rattle.piles.specs.Faithful.{format_lawful}
use Rattle.formats.specs.MapLaws.{map_faithful}
use Rattle.formats.specs.VariableLaws.{variable_faithful}
use Rattle.formats.specs.BitMap0.{bit_map0}
use Rattle.piles.specs.Codecs.{format_of}
use Rattle.formats.specs.Variable.{variable}
use Rattle.origins.specs.Origins.{can_origin, reaches}
use Rattle.packing.specs.Fields.{bit_at, field, level, width, before}
use Rattle.packing.specs.Slots.{slots_of, greatest}
use Rattle.packing.specs.Writing.{packed, octets_of, laid, stands}
use Rattle.packing.specs.declared.Range.TheVariants.{R1024, R512, R256, R128}
use Rattle.piles.specs.Combine.{beside_keeps}
use Rattle.piles.specs.Laws.{Lawful}
use Rattle.ranges.specs.RangeLaws.{range_lawful}
use Rattle.standard.specs.Standard.{standard, range, from512, from256, from128, from_variable}
use Rattle.standard.specs.Worked.{channels, Filed, Worked}

pub standard_lawful : Lawful standard
standard_lawful =
    beside_keeps (format_of bit_map0) from_variable (format_lawful bit_map0 map_faithful)
    (beside_keeps (format_of variable) from128 (format_lawful variable variable_faithful)
    (beside_keeps (range R128) from256 (range_lawful R128)
    (beside_keeps (range R256) from512 (range_lawful R256)
    (beside_keeps (range R512) (range R1024) (range_lawful R512) (range_lawful R1024)))))

-- what is written is read back, by the law
filed : (xs os : List ℕ) → standard.writes (channels xs) (length os) ≡ Ok os → ((L : ℕ) → 2 ≤ L → L < length os → standard.writes (channels xs) L ≡ Err Unwritten) → Filed xs os
filed xs os e s = record { octets = e; back = (standard_lawful.written (channels xs) (length os) os e).back; shorter = s }

none-shorter : (xs : List ℕ) (L : ℕ) → 2 ≤ L → L < 2 → standard.writes (channels xs) L ≡ Err Unwritten
none-shorter xs L a b = absurd (omega arith)

only_two : (xs : List ℕ) → standard.writes (channels xs) 2 ≡ Err Unwritten → (L : ℕ) → 2 ≤ L → L < 3 → standard.writes (channels xs) L ≡ Err Unwritten
only_two xs e L a b = let two : L ≡ 2 = omega arith in ap (standard.writes (channels xs)) two ∙ e

two-three : (xs : List ℕ) → standard.writes (channels xs) 2 ≡ Err Unwritten → standard.writes (channels xs) 3 ≡ Err Unwritten → (L : ℕ) → 2 ≤ L → L < 4 → standard.writes (channels xs) L ≡ Err Unwritten
two-three xs e f zero a b = absurd (omega arith)
two-three xs e f (suc zero) a b = absurd (omega arith)
two-three xs e f (suc (suc zero)) a b = e
two-three xs e f (suc (suc (suc zero))) a b = f
two-three xs e f (suc (suc (suc (suc L)))) a b = absurd (omega arith)

nothing_case : Filed [] (128 ∷ 0 ∷ [])
unfolding lowest bit bit_in words_of number_of holds set_of can_origin reaches bit_at field level width before slots_of greatest packed octets_of laid stands
nothing_case = filed [] (128 ∷ 0 ∷ []) refl (none-shorter [])

first_case : Filed (0 ∷ []) (132 ∷ 0 ∷ [])
unfolding lowest bit bit_in words_of number_of holds set_of can_origin reaches bit_at field level width before slots_of greatest packed octets_of laid stands
first_case = filed (0 ∷ []) (132 ∷ 0 ∷ []) refl (none-shorter (0 ∷ []))

last_case : Filed (1023 ∷ []) (131 ∷ 255 ∷ [])
unfolding lowest bit bit_in words_of number_of holds set_of can_origin reaches bit_at field level width before slots_of greatest packed octets_of laid stands
last_case = filed (1023 ∷ []) (131 ∷ 255 ∷ []) refl (none-shorter (1023 ∷ []))

half_case : Filed (0 ∷ 512 ∷ []) (134 ∷ 0 ∷ [])
unfolding lowest bit bit_in words_of number_of holds set_of can_origin reaches bit_at field level width before slots_of greatest packed octets_of laid stands
half_case = filed (0 ∷ 512 ∷ []) (134 ∷ 0 ∷ []) refl (none-shorter (0 ∷ 512 ∷ []))

near_case : Filed (10 ∷ 12 ∷ []) (142 ∷ 5 ∷ 32 ∷ [])
unfolding lowest bit bit_in words_of number_of holds set_of can_origin reaches bit_at field level width before slots_of greatest packed octets_of laid stands
near_case = filed (10 ∷ 12 ∷ []) (142 ∷ 5 ∷ 32 ∷ []) refl (only_two (10 ∷ 12 ∷ []) refl)

apart_case : Filed (10 ∷ 20 ∷ []) (140 ∷ 5 ∷ 10 ∷ [])
unfolding lowest bit bit_in words_of number_of holds set_of can_origin reaches bit_at field level width before slots_of greatest packed octets_of laid stands
apart_case = filed (10 ∷ 20 ∷ []) (140 ∷ 5 ∷ 10 ∷ []) refl (only_two (10 ∷ 20 ∷ []) refl)

round_case : Filed (1020 ∷ 3 ∷ []) (143 ∷ 254 ∷ 1 ∷ [])
unfolding lowest bit bit_in words_of number_of holds set_of can_origin reaches bit_at field level width before slots_of greatest packed octets_of laid stands
round_case = filed (1020 ∷ 3 ∷ []) (143 ∷ 254 ∷ 1 ∷ []) refl (only_two (1020 ∷ 3 ∷ []) refl)

opposite_case : Filed (1 ∷ 513 ∷ []) (128 ∷ 1 ∷ 0 ∷ 128 ∷ [])
unfolding lowest bit bit_in words_of number_of holds set_of can_origin reaches bit_at field level width before slots_of greatest packed octets_of laid stands
opposite_case = filed (1 ∷ 513 ∷ []) (128 ∷ 1 ∷ 0 ∷ 128 ∷ []) refl (two-three (1 ∷ 513 ∷ []) refl refl)

alone_case : (range R1024).writes (channels (1 ∷ 2 ∷ 3 ∷ [])) 5 ≡ Ok (128 ∷ 2 ∷ 255 ∷ 128 ∷ 64 ∷ [])
unfolding lowest bit bit_in words_of number_of holds set_of can_origin reaches bit_at field level width before slots_of greatest packed octets_of laid stands
alone_case = refl

pub worked : Worked
worked = record {
  nothing = nothing_case;
  first = first_case;
  last = last_case;
  half = half_case;
  near = near_case;
  apart = apart_case;
  round = round_case;
  opposite = opposite_case;
  unread = λ L a b. standard_lawful.refused (channels (1 ∷ 513 ∷ [])) L Unwritten (opposite_case.shorter L a (omega arith));
  alone = alone_case;
}
