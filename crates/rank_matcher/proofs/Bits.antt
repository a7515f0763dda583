-- Bits of words.
use Rattle.std.proofs.Common.{◌≡◌, ℕ, ◌-◌, ◌*◌, ◌^◌, ◌<◌, ◌&&◌, Bool, true, false, not, eqb, min, w64, zero, suc, ap, sym, ◌∙◌, refl, arith}
use Rattle.std.specs.Prelude.{bit_and, bit_or, max, ◌||◌, IsBitSet}
use Rattle.std.specs.Int.{bit_at}
use Rattle.std.proofs.lemmas.Bool.Decides.{nat_tests}
use Rattle.std.proofs.lemmas.Nat.{pow_pos}
use Rattle.std.proofs.lemmas.Nat.Bits.{and_pow, bit_at_and, bit_at_not, bit_at_or, bit_at-lt, bit_at-zero, bit_at_ones}
use Rattle.row_read.specs.Bits.{has_bit}

digit_test : (digit power : ℕ) → digit < 2 → 0 < power → not (eqb (digit * power) 0) ≡ eqb digit 1
digit_test zero power few some = let e : zero * power ≡ 0 = omega arith in ap (λ n. not (eqb n 0)) e
digit_test (suc zero) power few some =
    let e : suc zero * power ≡ power = omega arith in
    ap (λ n. not (eqb n 0)) e ∙ (let t : not (eqb power 0) ≡ true = grind (arith, nat_tests) in t)
digit_test (suc (suc digit)) power few some = absurd (omega arith)

-- whether a bit is set, by the digit
pub has_bit-digit : (n i : ℕ) → has_bit n i ≡ eqb (bit_at n i) 1
has_bit-digit n i = ap (λ m. not (eqb m 0)) (and_pow n i) ∙ digit_test (bit_at n i) (2 ^ i) (bit_at-lt n i) (pow_pos i)

-- a bit is set where the test says so
pub test-from_set : (n i : ℕ) → IsBitSet n i → has_bit n i ≡ true
test-from_set n i set = is_true (bit_and n (2 ^ i)) set
  where
    is_true : (m : ℕ) → (m ≡ 0 → ⊥) → not (eqb m 0) ≡ true
    is_true zero some = absurd (some refl)
    is_true (suc m) some = grind (arith, nat_tests)

pub set-from_test : (n i : ℕ) → has_bit n i ≡ true → IsBitSet n i
set-from_test n i test zeros = absurd (let e : false ≡ true = ap (λ m. not (eqb m 0)) (sym zeros) ∙ test in cc)

one_of_two : (x y : ℕ) → x < 2 → y < 2 → eqb (min x y) 1 ≡ eqb x 1 && eqb y 1
one_of_two zero zero p q = refl
one_of_two zero (suc zero) p q = refl
one_of_two (suc zero) zero p q = refl
one_of_two (suc zero) (suc zero) p q = refl
one_of_two (suc (suc x)) y p q = absurd (omega arith)
one_of_two zero (suc (suc y)) p q = absurd (omega arith)
one_of_two (suc zero) (suc (suc y)) p q = absurd (omega arith)

-- two words have a bit in common where both have it
pub has_bit-and : (a b i : ℕ) → has_bit (bit_and a b) i ≡ has_bit a i && has_bit b i
has_bit-and a b i =
    has_bit-digit (bit_and a b) i ∙ ap (λ n. eqb n 1) (bit_at_and a b i) ∙ one_of_two (bit_at a i) (bit_at b i) (bit_at-lt a i) (bit_at-lt b i)
    ∙ ap (λ t. t && eqb (bit_at b i) 1) (sym (has_bit-digit a i)) ∙ ap (λ t. has_bit a i && t) (sym (has_bit-digit b i))

-- the word of ones has every bit
pub has_bit-ones : (i : ℕ) → i < 64 → has_bit (2 ^ 64 - 1) i ≡ true
has_bit-ones i few = has_bit-digit (2 ^ 64 - 1) i ∙ ap (λ n. eqb n 1) (bit_at_ones 64 i few)

-- zero has none
pub has_bit-zero : (i : ℕ) → has_bit 0 i ≡ false
has_bit-zero i = has_bit-digit 0 i ∙ ap (λ n. eqb n 1) (bit_at-zero i)

-- both words have a bit that they have in common, and the other way round
pub both_have : (a b i : ℕ) → has_bit (bit_and a b) i ≡ true → (has_bit a i ≡ true) × (has_bit b i ≡ true)
both_have a b i h = both (has_bit a i) (has_bit b i) (sym (has_bit-and a b i) ∙ h)
  where
    both : (p q : Bool) → (p && q) ≡ true → (p ≡ true) × (q ≡ true)
    both true true e = (refl, refl)
    both true false e = absurd (cc)
    both false q e = absurd (cc)

pub both_give : (a b i : ℕ) → has_bit a i ≡ true → has_bit b i ≡ true → has_bit (bit_and a b) i ≡ true
both_give a b i p q = has_bit-and a b i ∙ ap (λ x. x && has_bit b i) p ∙ q

either_of_two : (x y : ℕ) → x < 2 → y < 2 → eqb (max x y) 1 ≡ (eqb x 1 || eqb y 1)
either_of_two zero zero p q = refl
either_of_two zero (suc zero) p q = refl
either_of_two (suc zero) zero p q = refl
either_of_two (suc zero) (suc zero) p q = refl
either_of_two (suc (suc x)) y p q = absurd (omega arith)
either_of_two zero (suc (suc y)) p q = absurd (omega arith)
either_of_two (suc zero) (suc (suc y)) p q = absurd (omega arith)

-- a bit is set in one of two words or the other
pub has_bit-or : (a b i : ℕ) → has_bit (bit_or a b) i ≡ (has_bit a i || has_bit b i)
has_bit-or a b i =
    has_bit-digit (bit_or a b) i ∙ ap (λ n. eqb n 1) (bit_at_or a b i) ∙ either_of_two (bit_at a i) (bit_at b i) (bit_at-lt a i) (bit_at-lt b i)
    ∙ ap (λ t. t || eqb (bit_at b i) 1) (sym (has_bit-digit a i)) ∙ ap (λ t. has_bit a i || t) (sym (has_bit-digit b i))

other_of_two : (x : ℕ) → x < 2 → eqb (1 - x) 1 ≡ not (eqb x 1)
other_of_two zero p = refl
other_of_two (suc zero) p = refl
other_of_two (suc (suc x)) p = absurd (omega arith)

-- and where it isn't, it is in the contrary of the word
pub has_bit-not : (n i : ℕ) → n < 2 ^ 64 → i < 64 → has_bit (2 ^ 64 - 1 - n) i ≡ not (has_bit n i)
has_bit-not n i fits few =
    has_bit-digit (2 ^ 64 - 1 - n) i ∙ ap (λ k. eqb k 1) (bit_at_not w64 n i fits few) ∙ other_of_two (bit_at n i) (bit_at-lt n i)
    ∙ ap not (sym (has_bit-digit n i))
