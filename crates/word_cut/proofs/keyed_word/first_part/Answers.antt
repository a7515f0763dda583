-- The mask has the bits of the first bytes.
use Rattle.std.proofs.Common.{◌≡◌, ℕ, ◌-◌, ◌*◌, ◌/◌, ◌^◌, ◌<◌, ◌==◌, bit_and, true, refl, ap, ◌∙◌, eqb-true, arith}
use Rattle.std.proofs.lemmas.Bool.{agree_below_at}
use Rattle.std.proofs.lemmas.Nat.Bits.{and_high_mask}
use Rattle.word_cut.proofs.keyed_word.first_part.Goals as goal

mask : (n : ℕ) → n < 8 → 18446744073709551615 - 18446744073709551615 / 2 ^ (8 * n) ≡ 2 ^ 64 - 2 ^ (8 * (8 - n))
mask n few = eqb-true _ _ (agree_below_at (λ (k : ℕ). 18446744073709551615 - 18446744073709551615 / 2 ^ (8 * k) == 2 ^ 64 - 2 ^ (8 * (8 - k))) (λ (k : ℕ). true) 8 n refl few)

pub returns : goal.returns
returns c =
    ap (bit_and c.args.number) (mask c.args.bytes c.requires)
    ∙ and_high_mask 64 (8 * (8 - c.args.bytes)) (omega arith) c.args.number c.ranges.number.fits
