-- Row words in which one bit is set, or one word is zeroed.
use Rattle.std.proofs.Common.{◌≡◌, ℕ, ◌*◌, ◌^◌, ◌<◌, ⊎_elim, List, length, set, slice_index, bit_and, bit_or, IsBitSet, sym, ap, ◌∙◌, subst, arith}
use native.Mathlib.Nat.{zero-mul}
use Rattle.std.proofs.lemmas.Bool.{cases_eq}
use Rattle.std.proofs.lemmas.List.{get_or-set_other, get_or-set_same}
use Rattle.std.proofs.lemmas.Nat.Bits.{and_pow, bit_at-lt, bit_at-pow_same, bit_at_or}
use Rattle.std.proofs.lemmas.Nat.{pow_pos}
use Rattle.std.specs.Int.{bit_at}
use Rattle.funnel_model.specs.declared.bit_list.Bit.{Bit}
use Rattle.funnel_model.specs.declared.event.Event.{Event}
use Rattle.funnel_model.specs.RowWords.{Covers, IsSetIn}
use Rattle.funnel_model.proofs.RowWords.{covers-more}

-- a bit is set where its digit is 1
pub bit_set_by_digit : (n k : ℕ) → bit_at n k ≡ 1 → IsBitSet n k
bit_set_by_digit n k one none =
    let high : bit_and n (2 ^ k) ≡ 1 * 2 ^ k = and_pow n k ∙ ap (λ b. b * 2 ^ k) one in
    let some = pow_pos k in
    omega (arith, sym high ∙ none)

pub digit_of_bit : (n k : ℕ) → IsBitSet n k → bit_at n k ≡ 1
digit_of_bit n k is =
    let small = bit_at-lt n k in
    ⊎_elim
    (λ one. one)
    (λ other. let none : bit_at n k ≡ 0 = omega arith in absurd (is (and_pow n k ∙ ap (λ b. b * 2 ^ k) none ∙ zero-mul (2 ^ k))))
    (cases_eq (bit_at n k) 1)

-- a bit that is set stays so with more bits
pub or_keeps : (n m k : ℕ) → IsBitSet n k → IsBitSet (bit_or n m) k
or_keeps n m k is =
    let one = digit_of_bit n k is in
    let small = bit_at-lt m k in
    bit_set_by_digit (bit_or n m) k (omega (arith, bit_at_or n m k, one))

-- and the bit that is added is set
pub or_sets : (n k : ℕ) → IsBitSet (bit_or n (2 ^ k)) k
or_sets n k =
    let one = bit_at-pow_same k in
    let small = bit_at-lt n k in
    bit_set_by_digit (bit_or n (2 ^ k)) k (omega (arith, bit_at_or n (2 ^ k) k, one))

-- each bit that is set stays so where one bit is set
pub set_keeps : (words : List ℕ) (word bit : ℕ) (b : Bit) → word < length words → IsSetIn words b →
    IsSetIn (set words word (bit_or (slice_index words word) (2 ^ bit))) b
set_keeps words word bit b in' is =
    let more = bit_or (slice_index words word) (2 ^ bit) in
    ⊎_elim
    (λ same.
    let here : slice_index (set words word more) b.word ≡ more = ap (slice_index (set words word more)) same ∙ get_or-set_same words word more 0 in' in
    subst (λ n. IsBitSet n b.bit) (sym here)
    (or_keeps (slice_index words word) (2 ^ bit) b.bit (subst (λ w. IsBitSet (slice_index words w) b.bit) same is)))
    (λ apart. subst (λ n. IsBitSet n b.bit) (sym (get_or-set_other words word b.word more 0 apart)) is)
    (cases_eq b.word word)

-- and that bit is set
pub set_sets : (words : List ℕ) (b : Bit) → b.word < length words → IsSetIn (set words b.word (bit_or (slice_index words b.word) (2 ^ b.bit))) b
set_sets words b in' =
    subst (λ n. IsBitSet n b.bit) (sym (get_or-set_same words b.word (bit_or (slice_index words b.word) (2 ^ b.bit)) 0 in')) (or_sets (slice_index words b.word) b.bit)

-- so words that cover a history cover it with one more bit set
pub covers-set : (words : List ℕ) (history : List Event) (word bit : ℕ) → word < length words → Covers words history →
    Covers (set words word (bit_or (slice_index words word) (2 ^ bit))) history
covers-set words history word bit in' covers =
    covers-more words (set words word (bit_or (slice_index words word) (2 ^ bit))) history (λ b is. set_keeps words word bit b in' is) covers
