-- The set bits of a word, from the lowest on.
use Rattle.std.proofs.Common.{◌≡◌, ℕ, ◌+◌, ◌-◌, ◌*◌, ◌/◌, ◌%◌, ◌^◌, ◌<◌, ◌≤◌, inl, inr, List, ◌++◌, [], ◌∷◌, map, Bool, true, false, cond, eqb, zero, suc, ap, sym, ◌∙◌, refl, arith, w64}
use Rattle.std.specs.Prelude.{bit_and}
use Rattle.std.specs.Int.{bit_at, trailing_zeros}
use Rattle.std.specs.List.{filter, range_with_len}
use Rattle.std.proofs.lemmas.Bool.{cases_eq, cases_lt}
use Rattle.std.proofs.Math.Nat.{div-add-mod}
use Rattle.std.proofs.lemmas.Nat.{pow-add, pow_pos}
use Rattle.std.proofs.lemmas.Nat.Bits.{bit_at_and, bit_at_cat_high, bit_at_cat_low, bit_at_ones_above, bit_at-trailing_zeros, bit_at-zero, same_from_bits_below}
use Rattle.rank_matcher.specs.Appended.{candidates_of}
use Rattle.rank_matcher.specs.SetBits.{set_bits}
use Rattle.std.proofs.lemmas.List.{append_assoc, append-nil, map-append}
use Rattle.rank_matcher.proofs.Bits.{has_bit-digit}
use Rattle.rank_matcher.proofs.Blocks.{filter_same}
use Rattle.row_read.specs.Bits.{has_bit}

-- below its lowest set bit a number has nothing
low_part : (n t : ℕ) → ((i : ℕ) → i < t → bit_at n i ≡ 0) → n % 2 ^ t ≡ 0
low_part n t zeros =
    same_from_bits_below t (n % 2 ^ t) 0 (omega (arith, pow_pos t)) (pow_pos t) (λ i low. sym (here i low) ∙ zeros i low ∙ sym (bit_at-zero i))
  where
    here : (i : ℕ) → i < t → bit_at n i ≡ bit_at (n % 2 ^ t) i
    here i low =
        let parts : n ≡ n / 2 ^ t * 2 ^ t + n % 2 ^ t = omega (arith, div-add-mod n (2 ^ t)) in
        ap (λ k. bit_at k i) parts ∙ bit_at_cat_low (n / 2 ^ t) t (n % 2 ^ t) i low

twice : (t : ℕ) → 2 ^ (t + 1) ≡ 2 * 2 ^ t
twice t = omega (arith, pow-add 2 t 1)

-- a number by what stands above its lowest set bit
whole : (n t : ℕ) → bit_at n t ≡ 1 → n % 2 ^ t ≡ 0 → n ≡ n / 2 ^ t / 2 * 2 ^ (t + 1) + 2 ^ t
whole n t one low = parts ∙ ap (λ m. m * 2 ^ t) odd ∙ regroup (n / 2 ^ t / 2) (2 ^ t) ∙ ap (λ m. n / 2 ^ t / 2 * m + 2 ^ t) (sym (twice t))
  where
    odd : n / 2 ^ t ≡ 2 * (n / 2 ^ t / 2) + 1
    odd = omega arith

    parts : n ≡ n / 2 ^ t * 2 ^ t
    parts = omega (arith, div-add-mod n (2 ^ t))

    regroup : (q p : ℕ) → (2 * q + 1) * p ≡ q * (2 * p) + p
    regroup q p = omega arith

-- such a number less one
one_less : (q t : ℕ) → q * 2 ^ (t + 1) + 2 ^ t - 1 ≡ q * 2 ^ (t + 1) + (2 ^ t - 1)
one_less q t = omega (arith, pow_pos t)

less-small : (t : ℕ) → 2 ^ t - 1 < 2 ^ (t + 1)
less-small t = omega (arith, twice t, pow_pos t)

half-small : (t : ℕ) → 2 ^ t < 2 ^ (t + 1)
half-small t = omega (arith, twice t, pow_pos t)

-- its bits from the lowest set bit on
below_one : (q t : ℕ) → bit_at (q * 2 ^ (t + 1) + 2 ^ t - 1) t ≡ 0
below_one q t =
    let last : t < t + 1 = omega arith in
    ap (λ k. bit_at k t) (one_less q t) ∙ bit_at_cat_low q (t + 1) (2 ^ t - 1) t last ∙ bit_at_ones_above t t (omega arith)

above_one : (q t i : ℕ) → t + 1 ≤ i → bit_at (q * 2 ^ (t + 1) + 2 ^ t - 1) i ≡ bit_at (q * 2 ^ (t + 1) + 2 ^ t) i
above_one q t i high =
    ap (λ k. bit_at k i) (one_less q t) ∙ bit_at_cat_high q (t + 1) (2 ^ t - 1) i (less-small t) high
    ∙ sym (bit_at_cat_high q (t + 1) (2 ^ t) i (half-small t) high)

-- a number and the number before it have every bit but the lowest in common
pub lowest_gone : (n t : ℕ) → bit_at n t ≡ 1 → ((i : ℕ) → i < t → bit_at n i ≡ 0) → bit_at (bit_and n (n - 1)) t ≡ 0
lowest_gone n t one zeros =
    let is = whole n t one (low_part n t zeros) in
    let gone : bit_at (n - 1) t ≡ 0 = ap (λ k. bit_at (k - 1) t) is ∙ below_one (n / 2 ^ t / 2) t in
    bit_at_and n (n - 1) t ∙ omega (arith, gone)

pub others_stay : (n t : ℕ) → bit_at n t ≡ 1 → ((i : ℕ) → i < t → bit_at n i ≡ 0) → (i : ℕ) → (i ≡ t → ⊥) → bit_at (bit_and n (n - 1)) i ≡ bit_at n i
others_stay n t one zeros i other =
    elim (cases_lt i t) [
      | inl low ↦ bit_at_and n (n - 1) i ∙ omega (arith, zeros i low)
      | inr high ↦
          let is = whole n t one (low_part n t zeros) in
          let same : bit_at (n - 1) i ≡ bit_at n i = ap (λ k. bit_at (k - 1) i) is ∙ above_one (n / 2 ^ t / 2) t i (omega arith) ∙ ap (λ k. bit_at k i) (sym is) in
          bit_at_and n (n - 1) i ∙ omega (arith, same)
    ]

-- the first number of a range that passes, and then the others
first_passes : (p q : ℕ → Bool) (a n t : ℕ) → a ≤ t → t < a + n → p t ≡ true → q t ≡ false → ((k : ℕ) → k < t → p k ≡ false) → ((k : ℕ) → (k ≡ t → ⊥) → q k ≡ p k)
    → filter p (range_with_len a n) ≡ t ∷ filter q (range_with_len a n)
first_passes p q a zero t from to passes fails before others = absurd (omega arith)
first_passes p q a (suc n) t from to passes fails before others =
    elim (cases_eq a t) [
      | inl same ↦
          let here : p a ≡ true = ap p same ∙ passes in
          let gone : q a ≡ false = ap q same ∙ fails in
          ap (λ (b : Bool). cond b (a ∷ filter p (range_with_len (a + 1) n)) (filter p (range_with_len (a + 1) n))) here
          ∙ ap (λ (xs : List ℕ). a ∷ xs) (filter_same p q (a + 1) n (λ k low. sym (others (a + 1 + k) (λ e. omega arith))))
          ∙ ap (λ k. k ∷ filter q (range_with_len (a + 1) n)) same
          ∙ ap (λ (b : Bool). t ∷ cond b (a ∷ filter q (range_with_len (a + 1) n)) (filter q (range_with_len (a + 1) n))) (sym gone)
      | inr other ↦
          let here : p a ≡ false = before a (omega arith) in
          let there : q a ≡ false = others a other ∙ here in
          ap (λ (b : Bool). cond b (a ∷ filter p (range_with_len (a + 1) n)) (filter p (range_with_len (a + 1) n))) here
          ∙ first_passes p q (a + 1) n t (omega arith) (omega arith) passes fails before others
          ∙ ap (λ (b : Bool). t ∷ cond b (a ∷ filter q (range_with_len (a + 1) n)) (filter q (range_with_len (a + 1) n))) (sym there)
    ]

-- the set bits are the lowest, and then those of the word without it
pub lowest_first : (n : ℕ) → 0 < n → n < 2 ^ 64 → set_bits n ≡ trailing_zeros w64 n ∷ set_bits (bit_and n (n - 1))
unfolding set_bits
lowest_first n some small =
    let lowest = bit_at-trailing_zeros w64 n some small in
    let t : ℕ = trailing_zeros w64 n in
    let within : t < 0 + 64 = lowest.0 in
    first_passes (has_bit n) (has_bit (bit_and n (n - 1))) 0 64 t (omega arith) within
    (has_bit-digit n t ∙ ap (λ k. eqb k 1) lowest.1)
    (has_bit-digit (bit_and n (n - 1)) t ∙ ap (λ k. eqb k 1) (lowest_gone n t lowest.1 lowest.2))
    (λ k low. has_bit-digit n k ∙ ap (λ m. eqb m 1) (lowest.2 k low))
    (λ k other. has_bit-digit (bit_and n (n - 1)) k ∙ ap (λ m. eqb m 1) (others_stay n t lowest.1 lowest.2 k other) ∙ sym (has_bit-digit n k))

-- a word that isn't zero has a set bit
pub some_bit : (n : ℕ) → 0 < n → n < 2 ^ 64 → (bit : ℕ) × (bit < 64) × (has_bit n bit ≡ true)
some_bit n some small =
    let lowest = bit_at-trailing_zeros w64 n some small in
    (trailing_zeros w64 n, lowest.0, has_bit-digit n (trailing_zeros w64 n) ∙ ap (λ k. eqb k 1) lowest.1)

-- zero has none
pub no_set_bits : set_bits 0 ≡ []
unfolding set_bits
no_set_bits = refl

-- one more candidate
candidates-push : (first slice : ℕ) (front : List ℕ) (bit : ℕ)
    → candidates_of slice (map (λ b. first + b) (front ++ bit ∷ [])) ≡ candidates_of slice (map (λ b. first + b) front) ++ (slice, first + bit) ∷ []
candidates-push first slice front bit =
    ap (candidates_of slice) (map-append (λ b. first + b) front (bit ∷ [])) ∙ map-append (λ column. (slice, column)) (map (λ b. first + b) front) ((first + bit) ∷ [])

-- the loop that takes the lowest set bit each time: those taken so far, and those that are left
pub record IsTaken (word left first slice : ℕ) (before out : List (ℕ × ℕ)) (front : List ℕ) : Type 0 where
  pub all : set_bits word ≡ front ++ set_bits left
  pub pushed : out ≡ before ++ candidates_of slice (map (λ bit. first + bit) front)

pub taken-none : (word first slice : ℕ) (before : List (ℕ × ℕ)) → IsTaken word word first slice before before []
taken-none word first slice before = record { all = refl; pushed = sym (append-nil before) }

pub taken-next : (word left first slice : ℕ) (before out : List (ℕ × ℕ)) (front : List ℕ) → 0 < left → left < 2 ^ 64 → IsTaken word left first slice before out front
    → IsTaken word (bit_and left (left - 1)) first slice before (out ++ (slice, first + trailing_zeros w64 left) ∷ []) (front ++ trailing_zeros w64 left ∷ [])
taken-next word left first slice before out front some small taken =
    let t : ℕ = trailing_zeros w64 left in
    let rest : List ℕ = set_bits (bit_and left (left - 1)) in
    record {
      all = taken.all ∙ ap (λ (xs : List ℕ). front ++ xs) (lowest_first left some small) ∙ sym (append_assoc front (t ∷ []) rest);
      pushed =
          ap (λ (xs : List (ℕ × ℕ)). xs ++ (slice, first + t) ∷ []) taken.pushed
          ∙ append_assoc before (candidates_of slice (map (λ bit. first + bit) front)) ((slice, first + t) ∷ [])
          ∙ ap (λ (xs : List (ℕ × ℕ)). before ++ xs) (sym (candidates-push first slice front t));
    }

pub taken-all : (word first slice : ℕ) (before out : List (ℕ × ℕ)) (front : List ℕ) → IsTaken word 0 first slice before out front
    → out ≡ before ++ candidates_of slice (map (λ bit. first + bit) (set_bits word))
taken-all word first slice before out front taken =
    taken.pushed ∙ ap (λ (xs : List ℕ). before ++ candidates_of slice (map (λ bit. first + bit) xs)) (sym (taken.all ∙ ap (λ (xs : List ℕ). front ++ xs) no_set_bits ∙ append-nil front))
