-- The bits of one word.
use Rattle.std.proofs.Common.{ℕ, ◌^◌, ◌≡◌, ◌⊎◌, ⊎_elim, inl, inr, bit_or, sym, ◌∙◌, arith}
use Rattle.std.proofs.lemmas.Bool.{cases_eq}
use Rattle.std.proofs.lemmas.Nat.Bits.{bit_at_or, bit_at-pow_other, bit_at-zero}
use Rattle.std.specs.Int.{IsBitSet}
use Rattle.funnel_model.proofs.SetBits.{bit_set_by_digit, digit_of_bit}

-- no bit of 0 is set
pub zero_has_none : (k : ℕ) → IsBitSet 0 k → ⊥
zero_has_none k is = omega (arith, digit_of_bit 0 k is, bit_at-zero k)

-- where one bit is set, no other one comes
pub or_has : (n bit other : ℕ) → IsBitSet (bit_or n (2 ^ bit)) other → IsBitSet n other ⊎ (other ≡ bit)
or_has n bit other is =
    ⊎_elim
    (λ same. inr same)
    (λ apart.
    let none = bit_at-pow_other bit other apart in
    let both = sym (bit_at_or n (2 ^ bit) other) ∙ digit_of_bit (bit_or n (2 ^ bit)) other is in
    inl (bit_set_by_digit n other (omega (arith, none, both))))
    (cases_eq other bit)
