use Rattle.std.proofs.Common.{◌≡◌, ℕ, zero, suc, ◌+◌, ◌-◌, ◌*◌, ◌<◌, Bool, true, false, ◌&&◌, ltb, sym, refl, ap, ◌∙◌, ⊎_elim, arith}
use Rattle.std.proofs.lemmas.Bool.{and_from, and_right, lt-ltb, le-ltb, cases_lt}
use Rattle.bits.specs.Bits.{bit}
use Rattle.bits.proofs.Digits.{bit-and, bit_past}
use Rattle.formats.specs.BitMap0.{in_map}
use Rattle.formats.proofs.bitmap0.channel_bits.Goals as goal

-- the four low bits
nibble : (k : ℕ) → k < 4 → bit 15 k ≡ true
unfolding bit
nibble zero h = refl
nibble (suc zero) h = refl
nibble (suc (suc zero)) h = refl
nibble (suc (suc (suc zero))) h = refl
nibble (suc (suc (suc (suc k)))) h = absurd (omega arith)

nibble-map : (k : ℕ) → bit 15 k ≡ in_map (121 + k)
nibble-map k =
    ⊎_elim (λ l. nibble k l ∙ sym (and_from (ltb 0 (121 + k)) (ltb (121 + k) 125) (lt-ltb 0 (121 + k) (omega arith)) (lt-ltb (121 + k) 125 (omega arith))))
    (λ l. bit_past 15 4 k (omega arith) l ∙ sym (and_right (ltb 0 (121 + k)) (ltb (121 + k) 125) (le-ltb (121 + k) 125 (omega arith)))) (cases_lt k 4)

and_swap : (x y : Bool) → (x && y) ≡ (y && x)
and_swap true true = refl
and_swap true false = refl
and_swap false true = refl
and_swap false false = refl

pub returns-then-i-eq0 : goal.returns-then-i-eq0
returns-then-i-eq0 c k =
    let o = c.args.octet in
    let e : 121 + k ≡ 8 * (15 - c.args.i) + 1 + k = omega arith in
    bit-and o 15 k ∙ and_swap (bit o k) (bit 15 k) ∙ ap (λ b. b && bit o k) (nibble-map k ∙ ap in_map e)

pub returns-else-i-eq0 : goal.returns-else-i-eq0
returns-else-i-eq0 c k =
    let o = c.args.octet in
    let at = 8 * (15 - c.args.i) + 1 + k in
    ⊎_elim (λ l. ap (λ b. b && bit o k) (sym (and_from (ltb 0 at) (ltb at 125) (lt-ltb 0 at (omega arith)) (lt-ltb at 125 (omega arith)))))
    (λ l. let none : bit o k ≡ false = bit_past o 8 k (omega arith) l in none ∙ sym (and_right (in_map at) (bit o k) none)) (cases_lt k 8)
