-- Which slices a set has, and which it has with one more.
use Rattle.std.proofs.Common.{◌≡◌, ◌≢◌, ◌↔◌, ◌⊎◌, ℕ, ◌+◌, ◌*◌, ◌-◌, ◌/◌, ◌%◌, ◌^◌, ◌<◌, ◌≤◌, ⊎_elim, IsTrue, Bool, true, false, cond, not, nat_lt, zero, suc, Some, None, List, [], ◌∷◌, length, filter, get_or, set, take, drop, sym, refl, ap, ◌∙◌, subst, arith, inl, inr, Contains, bit_and, bit_or, Fits, w32, w64}
use Rattle.std.proofs.lemmas.Bool.{cases_eq, cases_lt, eq-eqb, eqb-true}
use Rattle.std.proofs.lemmas.Bool.Decides.{leb_tells}
use Rattle.std.proofs.lemmas.List.Quantifiers.{position-Some}
use Rattle.std.proofs.lemmas.List.{length-drop, take_rest, get_or-drop, get_or-set_same, get_or-set_other}
use Rattle.std.proofs.lemmas.List.FromFn.{length-range_with_len, get_or-range_with_len}
use Rattle.std.proofs.lemmas.Nat.Bits.{bit_at_above, bit_at-lt, bit_at-trailing_zeros, bit_at-zero, bit_at_and, bit_at_clear_same, bit_at_clear_other, bit_at_set_same, bit_at_set_other, shr_and_one}
use Rattle.std.proofs.lemmas.Nat.{shr-shr}
use Rattle.std.specs.Int.{bit_at, bit_not, trailing_zeros}
use Rattle.std.specs.List.{position, position_or_len, range_with_len}
use Rattle.std.specs.Prelude.{◌==◌}
use Rattle.funnel_model.specs.SliceSets.{HasNoneFrom, IsEmpty, IsFirstFrom, IsLowestBit, IsLowestBitFrom, IsLowestOf, has_slice, slices_of}
use Rattle.funnel_model.proofs.AnswerLemmas.{Contains-filter, Contains-filtered}

-- the bit of the slice is set
abbrev pub HasBit : List ℕ → ℕ → Type 0
HasBit words slice = bit_at (get_or words (slice / 64) 0) (slice % 64) ≡ 1

in_range : (n k : ℕ) → k < n → Contains (range_with_len 0 n) k
in_range n k below = (k, omega (arith, length-range_with_len 0 n), get_or-range_with_len 0 n k k below ∙ (let h : 0 + k ≡ k = omega arith in h))

below_range : (n k : ℕ) → Contains (range_with_len 0 n) k → k < n
below_range n k contained =
    let at : contained.0 < n = omega (arith, length-range_with_len 0 n, contained.1) in
    omega (arith, get_or-range_with_len 0 n contained.0 k at, contained.2)

has_below : (words : List ℕ) (n slice : ℕ) → Contains (filter (has_slice words) (range_with_len 0 n)) slice → (slice < n) × HasBit words slice
has_below words n slice contained =
    let both = Contains-filtered (has_slice words) (range_with_len 0 n) slice contained in
    (below_range n slice both.0, eqb-true (bit_at (get_or words (slice / 64) 0) (slice % 64)) 1 both.1)

below_has : (words : List ℕ) (n slice : ℕ) → slice < n → HasBit words slice → Contains (filter (has_slice words) (range_with_len 0 n)) slice
below_has words n slice below has =
    Contains-filter (has_slice words) (range_with_len 0 n) slice (in_range n slice below) (eq-eqb (bit_at (get_or words (slice / 64) 0) (slice % 64)) 1 has)

-- the words with the bit of one more slice, as the code sets it
abbrev pub with_slice : List ℕ → ℕ → List ℕ
with_slice words slice = set words (slice / 64) (bit_or (get_or words (slice / 64) 0) (1 * 2 ^ (slice % 64) % 2 ^ 64))

word_of_slice : (words : List ℕ) (slice : ℕ) → slice / 64 < length words → get_or (with_slice words slice) (slice / 64) 0 ≡ bit_or (get_or words (slice / 64) 0) (1 * 2 ^ (slice % 64) % 2 ^ 64)
word_of_slice words slice within = get_or-set_same words (slice / 64) (bit_or (get_or words (slice / 64) 0) (1 * 2 ^ (slice % 64) % 2 ^ 64)) 0 within

with_slice-has : (words : List ℕ) (slice : ℕ) → slice / 64 < length words → HasBit (with_slice words slice) slice
with_slice-has words slice within =
    ap (λ w. bit_at w (slice % 64)) (word_of_slice words slice within) ∙ bit_at_set_same w64 (get_or words (slice / 64) 0) (slice % 64) (omega arith)

-- each other slice has the bit that it had
with_slice-other : (words : List ℕ) (slice other : ℕ) → slice / 64 < length words → other ≢ slice →
    bit_at (get_or (with_slice words slice) (other / 64) 0) (other % 64) ≡ bit_at (get_or words (other / 64) 0) (other % 64)
with_slice-other words slice other within apart =
    ⊎_elim (λ same.
    let bit : other % 64 ≢ slice % 64 = omega arith in
    ap (λ n. bit_at (get_or (with_slice words slice) n 0) (other % 64)) same
    ∙ ap (λ w. bit_at w (other % 64)) (word_of_slice words slice within)
    ∙ bit_at_set_other w64 (get_or words (slice / 64) 0) (slice % 64) (omega arith) (other % 64) bit
    ∙ sym (ap (λ n. bit_at (get_or words n 0) (other % 64)) same))
    (λ word. ap (λ w. bit_at w (other % 64)) (get_or-set_other words (slice / 64) (other / 64) (bit_or (get_or words (slice / 64) 0) (1 * 2 ^ (slice % 64) % 2 ^ 64)) 0 word))
    (cases_eq (other / 64) (slice / 64))

-- that slice is among those below a bound, and the others where they were
with_slice-below : (words : List ℕ) (n slice other : ℕ) → slice < n → slice / 64 < length words →
    Contains (filter (has_slice (with_slice words slice)) (range_with_len 0 n)) other ↔ ((other ≡ slice) ⊎ Contains (filter (has_slice words) (range_with_len 0 n)) other)
with_slice-below words n slice other below within = (has_more, more_has) where
  new : other ≡ slice → Contains (filter (has_slice (with_slice words slice)) (range_with_len 0 n)) other
  new same = below_has (with_slice words slice) n other (omega arith) (subst (HasBit (with_slice words slice)) (sym same) (with_slice-has words slice within))

  has_more : Contains (filter (has_slice (with_slice words slice)) (range_with_len 0 n)) other → (other ≡ slice) ⊎ Contains (filter (has_slice words) (range_with_len 0 n)) other
  has_more contained = ⊎_elim (λ same. inl same)
      (λ apart.
      let both = has_below (with_slice words slice) n other contained in
      inr (below_has words n other both.0 (sym (with_slice-other words slice other within apart) ∙ both.1)))
      (cases_eq other slice)

  more_has : (other ≡ slice) ⊎ Contains (filter (has_slice words) (range_with_len 0 n)) other → Contains (filter (has_slice (with_slice words slice)) (range_with_len 0 n)) other
  more_has (inl same) = new same
  more_has (inr had) = ⊎_elim new
      (λ apart. let both = has_below words n other had in below_has (with_slice words slice) n other both.0 (with_slice-other words slice other within apart ∙ both.1))
      (cases_eq other slice)

-- the same, where the set is seen as a list
with_slice-seen : (words seen : List ℕ) (n slice other : ℕ) → filter (has_slice words) (range_with_len 0 n) ≡ seen → slice < n → slice / 64 < length words →
    Contains (filter (has_slice (with_slice words slice)) (range_with_len 0 n)) other ↔ ((other ≡ slice) ⊎ Contains seen other)
with_slice-seen words seen n slice other is below within =
    subst (λ (xs : List ℕ). Contains (filter (has_slice (with_slice words slice)) (range_with_len 0 n)) other ↔ ((other ≡ slice) ⊎ Contains xs other)) is
    (with_slice-below words n slice other below within)

asked-seen : (words seen : List ℕ) (n slice : ℕ) → filter (has_slice words) (range_with_len 0 n) ≡ seen → slice < n →
    IsTrue (bit_and (get_or words (slice / 64) 0 / 2 ^ (slice % 64)) 1 == 1) ↔ Contains seen slice
asked-seen words seen n slice is below =
    let bit = shr_and_one (get_or words (slice / 64) 0) (slice % 64) in (
      λ asked. subst (λ (xs : List ℕ). Contains xs slice) is (below_has words n slice below (sym bit ∙ eqb-true (bit_and (get_or words (slice / 64) 0 / 2 ^ (slice % 64)) 1) 1 asked)),
      λ had. eq-eqb (bit_and (get_or words (slice / 64) 0 / 2 ^ (slice % 64)) 1) 1 (bit ∙ (has_below words n slice (subst (λ (xs : List ℕ). Contains xs slice) (sym is) had)).1),
    )

-- the set with one more slice has that one, and those that it had
pub with_slice-contains : (words seen : List ℕ) (slice other : ℕ) → slices_of words ≡ seen → slice < 1024 → length words ≡ 16 →
    Contains (slices_of (with_slice words slice)) other ↔ ((other ≡ slice) ⊎ Contains seen other)
with_slice-contains words seen slice other is below long = with_slice-seen words seen 1024 slice other is below (omega arith)

-- the test of a slice's bit, as the code asks it
pub asked-contains : (words seen : List ℕ) (slice : ℕ) → slices_of words ≡ seen → slice < 1024 →
    IsTrue (bit_and (get_or words (slice / 64) 0 / 2 ^ (slice % 64)) 1 == 1) ↔ Contains seen slice
asked-contains words seen slice is below = asked-seen words seen 1024 slice is below

-- the words without the bit of a slice, as the code clears it
abbrev pub without_slice : List ℕ → ℕ → List ℕ
without_slice words slice = set words (slice / 64) (bit_and (get_or words (slice / 64) 0) (bit_not w64 (1 * 2 ^ (slice % 64) % 2 ^ 64)))

without_slice-same : (words : List ℕ) (slice : ℕ) → slice / 64 < length words → bit_at (get_or (without_slice words slice) (slice / 64) 0) (slice % 64) ≡ 0
without_slice-same words slice within =
    ap (λ w. bit_at w (slice % 64)) (get_or-set_same words (slice / 64) (bit_and (get_or words (slice / 64) 0) (bit_not w64 (1 * 2 ^ (slice % 64) % 2 ^ 64))) 0 within)
    ∙ bit_at_clear_same w64 (get_or words (slice / 64) 0) (slice % 64) (omega arith)

without_slice-other : (words : List ℕ) (slice other : ℕ) → slice / 64 < length words → other ≢ slice →
    bit_at (get_or (without_slice words slice) (other / 64) 0) (other % 64) ≡ bit_at (get_or words (other / 64) 0) (other % 64)
without_slice-other words slice other within apart =
    ⊎_elim (λ same.
    let bit : other % 64 ≢ slice % 64 = omega arith in
    ap (λ n. bit_at (get_or (without_slice words slice) n 0) (other % 64)) same
    ∙ ap (λ w. bit_at w (other % 64)) (get_or-set_same words (slice / 64) (bit_and (get_or words (slice / 64) 0) (bit_not w64 (1 * 2 ^ (slice % 64) % 2 ^ 64))) 0 within)
    ∙ bit_at_clear_other w64 (get_or words (slice / 64) 0) (slice % 64) (omega arith) (other % 64) (omega arith) bit
    ∙ sym (ap (λ n. bit_at (get_or words n 0) (other % 64)) same))
    (λ word. ap (λ w. bit_at w (other % 64)) (get_or-set_other words (slice / 64) (other / 64) (bit_and (get_or words (slice / 64) 0) (bit_not w64 (1 * 2 ^ (slice % 64) % 2 ^ 64))) 0 word))
    (cases_eq (other / 64) (slice / 64))

without_slice-below : (words : List ℕ) (n slice other : ℕ) → slice < n → slice / 64 < length words →
    Contains (filter (has_slice (without_slice words slice)) (range_with_len 0 n)) other ↔ ((other ≡ slice → ⊥) × Contains (filter (has_slice words) (range_with_len 0 n)) other)
without_slice-below words n slice other below within = (
  λ contained.
      let both = has_below (without_slice words slice) n other contained in
      let apart : other ≢ slice = λ same. let none = without_slice-same words slice within in let some = subst (HasBit (without_slice words slice)) same both.1 in omega arith in
      (apart, below_has words n other both.0 (sym (without_slice-other words slice other within apart) ∙ both.1)),
  λ had.
      let both = has_below words n other had.1 in
      below_has (without_slice words slice) n other both.0 (without_slice-other words slice other within had.0 ∙ both.1),
)

without_slice-seen : (words seen : List ℕ) (n slice other : ℕ) → filter (has_slice words) (range_with_len 0 n) ≡ seen → slice < n → slice / 64 < length words →
    Contains (filter (has_slice (without_slice words slice)) (range_with_len 0 n)) other ↔ ((other ≡ slice → ⊥) × Contains seen other)
without_slice-seen words seen n slice other is below within =
    subst (λ (xs : List ℕ). Contains (filter (has_slice (without_slice words slice)) (range_with_len 0 n)) other ↔ ((other ≡ slice → ⊥) × Contains xs other)) is
    (without_slice-below words n slice other below within)

-- the set without a slice has the others that it had
pub without_slice-contains : (words seen : List ℕ) (slice other : ℕ) → slices_of words ≡ seen → slice < 1024 → length words ≡ 16 →
    Contains (slices_of (without_slice words slice)) other ↔ ((other ≡ slice → ⊥) × Contains seen other)
without_slice-contains words seen slice other is below long = without_slice-seen words seen 1024 slice other is below (omega arith)

-- a bit is set in the "and" of two words where it is set in both
both_set : (a b i : ℕ) → bit_at (bit_and a b) i ≡ 1 → (bit_at a i ≡ 1) × (bit_at b i ≡ 1)
both_set a b i set =
    let is = bit_at_and a b i in
    let a_in = bit_at-lt a i in
    let b_in = bit_at-lt b i in
    (omega (arith, set, is, a_in, b_in), omega (arith, set, is, a_in, b_in))

set_both : (a b i : ℕ) → bit_at a i ≡ 1 → bit_at b i ≡ 1 → bit_at (bit_and a b) i ≡ 1
set_both a b i one other = let is = bit_at_and a b i in omega (arith, one, other, is)

-- so many words are the "and" of the words of two sets
abbrev pub AreAnds : List ℕ → List ℕ → ℕ → List ℕ → Type 0
AreAnds one other n words = (k : ℕ) → k < n → get_or words k 0 ≡ bit_and (get_or one k 0) (get_or other k 0)

-- and one more is
pub ands-set : (one other words : List ℕ) (index : ℕ) → index < length words → AreAnds one other index words →
    AreAnds one other (index + 1) (set words index (bit_and (get_or one index 0) (get_or other index 0)))
ands-set one other words index within ands k below =
    let word = bit_and (get_or one index 0) (get_or other index 0) in
    ⊎_elim
    (λ (same : k ≡ index). ap (λ n. get_or (set words index word) n 0) same ∙ get_or-set_same words index word 0 within
    ∙ sym (ap (λ n. bit_and (get_or one n 0) (get_or other n 0)) same))
    (λ (apart : k ≢ index). get_or-set_other words index k word 0 apart ∙ ands k (omega (arith, below, apart)))
    (cases_eq k index)

both-seen : (one other words seen seen_other : List ℕ) (n : ℕ) → filter (has_slice one) (range_with_len 0 n) ≡ seen →
    filter (has_slice other) (range_with_len 0 n) ≡ seen_other → n ≤ 1024 → AreAnds one other 16 words → (slice : ℕ) →
    Contains (filter (has_slice words) (range_with_len 0 n)) slice ↔ (Contains seen slice × Contains seen_other slice)
both-seen one other words seen seen_other n is is_other fits ands slice = (
  λ contained.
      let has = has_below words n slice contained in
      let below = has.0 in
      let word = ap (λ w. bit_at w (slice % 64)) (ands (slice / 64) (omega (arith, below, fits))) in
      let bits = both_set (get_or one (slice / 64) 0) (get_or other (slice / 64) 0) (slice % 64) (sym word ∙ has.1) in
      (subst (λ (xs : List ℕ). Contains xs slice) is (below_has one n slice below bits.0), subst (λ (xs : List ℕ). Contains xs slice) is_other (below_has other n slice below bits.1)),
  λ had.
      let has = has_below one n slice (subst (λ (xs : List ℕ). Contains xs slice) (sym is) had.0) in
      let has_other = has_below other n slice (subst (λ (xs : List ℕ). Contains xs slice) (sym is_other) had.1) in
      let below = has.0 in
      let word = ap (λ w. bit_at w (slice % 64)) (ands (slice / 64) (omega (arith, below, fits))) in
      below_has words n slice below (word ∙ set_both (get_or one (slice / 64) 0) (get_or other (slice / 64) 0) (slice % 64) has.1 has_other.1),
)

-- the set by these words has the slices that both sets have
pub both-contains : (one other words seen seen_other : List ℕ) → slices_of one ≡ seen → slices_of other ≡ seen_other → AreAnds one other 16 words → (slice : ℕ) →
    Contains (slices_of words) slice ↔ (Contains seen slice × Contains seen_other slice)
both-contains one other words seen seen_other is is_other ands slice = both-seen one other words seen seen_other 1024 is is_other (omega arith) ands slice

empty_below : (words seen : List ℕ) (n : ℕ) → filter (has_slice words) (range_with_len 0 n) ≡ seen → ((k : ℕ) → k < length words → get_or words k 0 ≡ 0) → n ≤ 64 * length words → IsEmpty seen
empty_below words seen n is unset fits slice contained =
    let has = has_below words n slice (subst (λ (xs : List ℕ). Contains xs slice) (sym is) contained) in
    let none : bit_at (get_or words (slice / 64) 0) (slice % 64) ≡ 0 = ap (λ w. bit_at w (slice % 64)) (unset (slice / 64) (let h = has.0 in omega arith)) ∙ bit_at-zero (slice % 64) in
    let some = has.1 in
    absurd (omega arith)

-- where each word is 0 no slice is in the set
pub slices-empty : (words seen : List ℕ) → slices_of words ≡ seen → length words ≡ 16 → ((k : ℕ) → k < 16 → get_or words k 0 ≡ 0) → IsEmpty seen
slices-empty words seen is long unset = empty_below words seen 1024 is (λ k below. unset k (omega arith)) (omega arith)

lowest_below : (words seen : List ℕ) (n index bit : ℕ) → filter (has_slice words) (range_with_len 0 n) ≡ seen → index * 64 + bit < n → bit < 64 → bit_at (get_or words index 0) bit ≡ 1 →
    ((k : ℕ) → k < bit → bit_at (get_or words index 0) k ≡ 0) → ((k : ℕ) → k < index → get_or words k 0 ≡ 0) → IsLowestOf seen (index * 64 + bit)
lowest_below words seen n index bit is below fits set lower_bits lower_words =
    let word : (index * 64 + bit) / 64 ≡ index = omega arith in
    let rest : (index * 64 + bit) % 64 ≡ bit = omega arith in
    let here : HasBit words (index * 64 + bit) = ap (λ k. bit_at (get_or words k 0) ((index * 64 + bit) % 64)) word ∙ ap (bit_at (get_or words index 0)) rest ∙ set in
    record {
      in_set = subst (λ (xs : List ℕ). Contains xs (index * 64 + bit)) is (below_has words n (index * 64 + bit) below here);
      lowest = λ lower less contained.
          let has = has_below words n lower (subst (λ (xs : List ℕ). Contains xs lower) (sym is) contained) in
          let one = has.1 in
          ⊎_elim
          (λ (same : lower / 64 ≡ index).
          let smaller : lower % 64 < bit = omega arith in
          let none : bit_at (get_or words (lower / 64) 0) (lower % 64) ≡ 0 = ap (λ k. bit_at (get_or words k 0) (lower % 64)) same ∙ lower_bits (lower % 64) smaller in
          absurd (omega arith))
          (λ (apart : lower / 64 ≢ index).
          let none : bit_at (get_or words (lower / 64) 0) (lower % 64) ≡ 0 = ap (λ w. bit_at w (lower % 64)) (lower_words (lower / 64) (omega arith)) ∙ bit_at-zero (lower % 64) in
          absurd (omega arith))
          (cases_eq (lower / 64) index);
    }

-- the lowest bit of the first word that isn't 0 is that of the lowest slice
pub slices-lowest : (words seen : List ℕ) (index bit : ℕ) → slices_of words ≡ seen → index < 16 → bit < 64 → bit_at (get_or words index 0) bit ≡ 1 →
    ((k : ℕ) → k < bit → bit_at (get_or words index 0) k ≡ 0) → ((k : ℕ) → k < index → get_or words k 0 ≡ 0) → IsLowestOf seen (index * 64 + bit)
slices-lowest words seen index bit is within fits set lower_bits lower_words = lowest_below words seen 1024 index bit is (omega arith) fits set lower_bits lower_words

-- where no item passes, each fails
none_passes : {X : Type 0} (p : X → Bool) (xs : List X) (d : X) → length xs ≤ position_or_len p xs → (k : ℕ) → k < length xs → p (get_or xs k d) ≡ false
none_passes p [] d long k in' = absurd (omega arith)
none_passes p (x ∷ xs) d long k in' = first (p x) refl long k in' (λ more j below. none_passes p xs d more j below) where
  first : (b : Bool) → p x ≡ b → suc (length xs) ≤ cond (not b) (1 + position_or_len p xs) 0 → (k : ℕ) → k < suc (length xs) →
      (length xs ≤ position_or_len p xs → (j : ℕ) → j < length xs → p (get_or xs j d) ≡ false) → p (get_or (x ∷ xs) k d) ≡ false
  first true is more k in' rest = absurd (omega arith)
  first false is more zero in' rest = is
  first false is more (suc k) in' rest = rest (omega arith) k (omega arith)

pub position-none : {X : Type 0} (p : X → Bool) (xs : List X) (d : X) → position p xs ≡ None → (k : ℕ) → k < length xs → p (get_or xs k d) ≡ false
position-none p xs d is k in' =
    ⊎_elim
    (λ below. absurd (some_none (position_or_len p xs) (sym (chosen (nat_lt (position_or_len p xs) (length xs)) (Some (position_or_len p xs)) None below.0) ∙ is)))
    (λ above. none_passes p xs d (omega (arith, above.1)) k in')
    (leb_tells (suc (position_or_len p xs)) (length xs)) where
      some_none : (n : ℕ) → Some n ≡ None → ⊥
      some_none n is = cc

      chosen : {X : Type 0} (b : Bool) (x y : X) → b ≡ true → cond b x y ≡ x
      chosen true x y is = refl
      chosen false x y is = cc

both : (b : Bool) → b ≡ true → b ≡ false → ⊥
both b up down = cc

used_tells : (n : ℕ) → nat_lt 0 n ≡ true → 0 < n
used_tells n is = ⊎_elim (λ yes'. yes'.1) (λ no'. absurd (both (nat_lt 0 n) is no'.0)) (leb_tells 1 n)

unused_tells : (n : ℕ) → nat_lt 0 n ≡ false → n ≡ 0
unused_tells n is = ⊎_elim (λ yes'. absurd (both (nat_lt 0 n) yes'.0 is)) (λ no'. let h = no'.1 in omega arith) (leb_tells 1 n)

-- where no word is used the set is empty
pub none_used : (words seen : List ℕ) → slices_of words ≡ seen → length words ≡ 16 → position (λ w. nat_lt 0 w) words ≡ None → IsEmpty seen
none_used words seen is long none =
    slices-empty words seen is long (λ k below. unused_tells (get_or words k 0) (position-none (λ w. nat_lt 0 w) words 0 none k (omega arith)))

-- the lowest bit of a word
pub lowest_bit_is : (word : ℕ) → 0 < word → word < 2 ^ 64 → IsLowestBit word (trailing_zeros w64 word)
lowest_bit_is word some fits = let bit = bit_at-trailing_zeros w64 word some fits in record { in_range = bit.0; set = bit.1; lowest = bit.2 }

-- the first word that is used is not 0
pub first_used_is : (words : List ℕ) (index : ℕ) → position (λ w. nat_lt 0 w) words ≡ Some index → (index < length words) × (0 < get_or words index 0)
first_used_is words index at = let found = position-Some (λ w. nat_lt 0 w) words index 0 at in (found.0, used_tells (get_or words index 0) found.1)

-- the lowest bit of the first word that is used is that of the lowest slice
pub first_is_lowest : (words seen : List ℕ) (index bit : ℕ) → slices_of words ≡ seen → length words ≡ 16 → position (λ w. nat_lt 0 w) words ≡ Some index →
    IsLowestBit (get_or words index 0) bit → IsLowestOf seen (index * 64 + bit)
first_is_lowest words seen index bit is long at lowest =
    let found = position-Some (λ w. nat_lt 0 w) words index 0 at in
    slices-lowest words seen index bit is (omega (arith, found.0)) lowest.in_range lowest.set lowest.lowest
    (λ k below. unused_tells (get_or words k 0) (found.2 k below))

-- a bit of a shifted word
shifted_bit : (word k j : ℕ) → bit_at (word / 2 ^ k) j ≡ bit_at word (k + j)
shifted_bit word k j = ap (λ x. x % 2) (shr-shr word k j)

-- no bit of a slice from this one on and below that one is set
abbrev pub AreUnset : List ℕ → ℕ → ℕ → Type 0
AreUnset words from to = (slice : ℕ) → from ≤ slice → slice < to → HasBit words slice → ⊥

none_from_below : (words seen : List ℕ) (n from : ℕ) → filter (has_slice words) (range_with_len 0 n) ≡ seen → AreUnset words from n → HasNoneFrom seen from
none_from_below words seen n from is unset slice later contained =
    let has = has_below words n slice (subst (λ (xs : List ℕ). Contains xs slice) (sym is) contained) in
    unset slice later has.0 has.1

-- where none is set the set has none from that slice on
pub none_from : (words seen : List ℕ) (from : ℕ) → slices_of words ≡ seen → AreUnset words from 1024 → HasNoneFrom seen from
none_from words seen from is unset = none_from_below words seen 1024 from is unset

first_from_below : (words seen : List ℕ) (n from slice : ℕ) → filter (has_slice words) (range_with_len 0 n) ≡ seen → from ≤ slice → slice < n → HasBit words slice → AreUnset words from slice →
    IsFirstFrom seen from slice
first_from_below words seen n from slice is later below set unset = record {
  in_set = subst (λ (xs : List ℕ). Contains xs slice) is (below_has words n slice below set);
  from_on = later;
  lowest = λ lower from_on less contained. unset lower from_on less (has_below words n lower (subst (λ (xs : List ℕ). Contains xs lower) (sym is) contained)).1;
}

-- the first slice whose bit is set is the first of the set
pub first_from : (words seen : List ℕ) (from slice : ℕ) → slices_of words ≡ seen → from ≤ slice → slice < 1024 → HasBit words slice → AreUnset words from slice → IsFirstFrom seen from slice
first_from words seen from slice is later below set unset = first_from_below words seen 1024 from slice is later below set unset

-- a word has no bit that is set from one on, where it is 0 once these are shifted down
pub unset_from : (word from : ℕ) → word / 2 ^ from ≡ 0 → (bit : ℕ) → from ≤ bit → bit_at word bit ≡ 0
unset_from word from nothing bit later =
    let split : from + (bit - from) ≡ bit = omega (arith, later) in
    sym (ap (bit_at word) split) ∙ sym (shifted_bit word from (bit - from)) ∙ ap (λ w. bit_at w (bit - from)) nothing ∙ bit_at-zero (bit - from)

-- the lowest bit of a shifted word is one of the word, as words have 64
pub lowest_from : (word from bit : ℕ) → word < 2 ^ 64 → IsLowestBit (word / 2 ^ from) bit → IsLowestBitFrom word from (from + bit)
lowest_from word from bit fits lowest = record {
  in_range = ⊎_elim (λ (low : from + bit < 64). low)
      (λ (high : 64 ≤ from + bit). let none = bit_at_above word 64 (from + bit) fits high in let one = sym (shifted_bit word from bit) ∙ lowest.set in absurd (omega (arith, none, one)))
      (cases_lt (from + bit) 64);
  from_on = omega arith;
  set = sym (shifted_bit word from bit) ∙ lowest.set;
  lowest = λ lower later less.
      let split : from + (lower - from) ≡ lower = omega (arith, later) in
      sym (ap (bit_at word) split) ∙ sym (shifted_bit word from (lower - from)) ∙ lowest.lowest (lower - from) (omega (arith, later, less));
}

-- the slices from one on are not set whose word has no bit from it on, nor those of the words after it that are 0
pub unset_past : (words : List ℕ) (from to : ℕ) → ((bit : ℕ) → from % 64 ≤ bit → bit_at (get_or words (from / 64) 0) bit ≡ 0) → ((k : ℕ) → from / 64 < k → k < to → get_or words k 0 ≡ 0) →
    AreUnset words from (to * 64)
unset_past words from to nothing unused slice later below set =
    ⊎_elim
    (λ (same : slice / 64 ≡ from / 64).
    let none : bit_at (get_or words (slice / 64) 0) (slice % 64) ≡ 0 = ap (λ k. bit_at (get_or words k 0) (slice % 64)) same ∙ nothing (slice % 64) (omega (arith, same, later)) in
    absurd (omega (arith, none, set)))
    (λ (apart : slice / 64 ≢ from / 64).
    let none : bit_at (get_or words (slice / 64) 0) (slice % 64) ≡ 0 = ap (λ w. bit_at w (slice % 64)) (unused (slice / 64) (omega (arith, later, apart)) (omega (arith, below))) ∙ bit_at-zero (slice % 64) in
    absurd (omega (arith, none, set)))
    (cases_eq (slice / 64) (from / 64))

-- a slice of this word is the first, where its bit is the lowest from one on and no slice before the word is set
first_in_word : (words seen : List ℕ) (from index least bit : ℕ) → slices_of words ≡ seen → index < 16 → from ≤ index * 64 + bit → IsLowestBitFrom (get_or words index 0) least bit →
    ((slice : ℕ) → from ≤ slice → index * 64 ≤ slice → index * 64 + least ≤ slice) → AreUnset words from (index * 64) → IsFirstFrom seen from (index * 64 + bit)
first_in_word words seen from index least bit is below later lowest from_least earlier =
    let in_range = lowest.in_range in
    let at_word : (index * 64 + bit) / 64 ≡ index = omega (arith, in_range) in
    let at_bit : (index * 64 + bit) % 64 ≡ bit = omega (arith, in_range) in
    first_from words seen from (index * 64 + bit) is later (omega (arith, below, in_range))
    (ap (λ k. bit_at (get_or words k 0) ((index * 64 + bit) % 64)) at_word ∙ ap (bit_at (get_or words index 0)) at_bit ∙ lowest.set)
    (λ slice from_on less set.
    ⊎_elim (λ (low : slice < index * 64). earlier slice from_on low set)
    (λ (high : index * 64 ≤ slice).
    let same : slice / 64 ≡ index = omega (arith, high, less, in_range) in
    let least_on = from_least slice from_on high in
    let none : bit_at (get_or words (slice / 64) 0) (slice % 64) ≡ 0 =
    ap (λ k. bit_at (get_or words k 0) (slice % 64)) same ∙ lowest.lowest (slice % 64) (omega (arith, high, less, in_range, least_on)) (omega (arith, high, less, in_range)) in
    absurd (omega (arith, none, set)))
    (cases_lt slice (index * 64)))

-- the lowest bit from one on is that of the first slice
pub first_here : (words seen : List ℕ) (from bit : ℕ) → slices_of words ≡ seen → from < 1024 → IsLowestBitFrom (get_or words (from / 64) 0) (from % 64) bit → IsFirstFrom seen from (from / 64 * 64 + bit)
first_here words seen from bit is below lowest =
    let from_on = lowest.from_on in
    first_in_word words seen from (from / 64) (from % 64) bit is (omega (arith, below)) (omega (arith, from_on)) lowest (λ slice later high. omega (arith, later))
    (λ slice later less set. absurd (omega (arith, later, less)))

-- the words from one on, as the code cuts them
abbrev pub words_from : List ℕ → ℕ → List ℕ
words_from words start = take (16 - start) (drop start words)

rest_is : (words : List ℕ) (start : ℕ) → length words ≡ 16 → words_from words start ≡ drop start words
rest_is words start long = subst (λ n. take (n - start) (drop start words) ≡ drop start words) long (take_rest words start)

rest_long : (words : List ℕ) (start : ℕ) → length words ≡ 16 → length (words_from words start) ≡ 16 - start
rest_long words start long = ap (λ (xs : List ℕ). length xs) (rest_is words start long) ∙ length-drop start words ∙ ap (λ n. n - start) long

rest_at : (words : List ℕ) (start k : ℕ) → length words ≡ 16 → get_or (words_from words start) k 0 ≡ get_or words (start + k) 0
rest_at words start k long = ap (λ (xs : List ℕ). get_or xs k 0) (rest_is words start long) ∙ get_or-drop start words k 0

-- a later word is 0 where it is in the rest
unused_later : (words : List ℕ) (start k : ℕ) → length words ≡ 16 → start ≤ k → nat_lt 0 (get_or (words_from words start) (k - start) 0) ≡ false → get_or words k 0 ≡ 0
unused_later words start k long later unused =
    let place : start + (k - start) ≡ k = omega (arith, later) in
    sym (rest_at words start (k - start) long ∙ ap (λ n. get_or words n 0) place) ∙ unused_tells (get_or (words_from words start) (k - start) 0) unused

-- where no bit from one on is set and no later word is used, the set has no slice from there on
pub none_later : (words seen : List ℕ) (from : ℕ) → slices_of words ≡ seen → length words ≡ 16 → ((bit : ℕ) → from % 64 ≤ bit → bit_at (get_or words (from / 64) 0) bit ≡ 0) →
    position (λ w. nat_lt 0 w) (words_from words (from / 64 + 1)) ≡ None → HasNoneFrom seen from
none_later words seen from is long nothing none =
    let start = from / 64 + 1 in
    let many = rest_long words start long in
    none_from words seen from is (unset_past words from 16 nothing (λ k later below.
    unused_later words start k long (omega (arith, later)) (position-none (λ w. nat_lt 0 w) (words_from words start) 0 none (k - start) (omega (arith, later, below, many)))))

-- the first later word that is used is not 0
pub later_used : (words : List ℕ) (start more : ℕ) → length words ≡ 16 → position (λ w. nat_lt 0 w) (words_from words start) ≡ Some more → 0 < get_or words (start + more) 0
later_used words start more long at = let used = (first_used_is (words_from words start) more at).1 in let is = rest_at words start more long in omega (arith, is, used)

-- it stands in the sixteen words
pub later_within : (words : List ℕ) (start more : ℕ) → length words ≡ 16 → position (λ w. nat_lt 0 w) (words_from words start) ≡ Some more → start + more < 16
later_within words start more long at =
    let inside = (position-Some (λ w. nat_lt 0 w) (words_from words start) more 0 at).0 in
    let many = rest_long words start long in
    omega (arith, inside, many)

-- the numbers that the code makes of the place of a word and of a bit in it fit their types
pub place_fits : (start more : ℕ) → start + more < 16 → Fits w64 start × Fits w64 (start + more) × Fits w32 (start + more)
place_fits start more within = (omega arith, omega arith, omega arith)

pub offset_fits : (place : ℕ) → place < 16 → Fits w64 (place * 8)
offset_fits place within = omega arith

pub slice_fits : (place bit : ℕ) → place < 16 → bit < 64 → Fits w32 (place * 64) × Fits w32 (place * 64 + bit)
slice_fits place bit within inside = (omega arith, omega arith)

-- and its lowest bit is that of the first slice
pub first_later : (words seen : List ℕ) (from more bit : ℕ) → slices_of words ≡ seen → length words ≡ 16 → ((bit : ℕ) → from % 64 ≤ bit → bit_at (get_or words (from / 64) 0) bit ≡ 0) →
    position (λ w. nat_lt 0 w) (words_from words (from / 64 + 1)) ≡ Some more → IsLowestBit (get_or words (from / 64 + 1 + more) 0) bit → IsFirstFrom seen from ((from / 64 + 1 + more) * 64 + bit)
first_later words seen from more bit is long nothing at lowest =
    let start = from / 64 + 1 in
    let found = position-Some (λ w. nat_lt 0 w) (words_from words start) more 0 at in
    let inside = found.0 in
    let many = rest_long words start long in
    first_in_word words seen from (start + more) 0 bit is (omega (arith, inside, many)) (omega arith)
    (record { in_range = lowest.in_range; from_on = omega arith; set = lowest.set; lowest = λ lower later less. lowest.lowest lower less }) (λ slice later high. omega (arith, high))
    (unset_past words from (start + more) nothing (λ k later below. unused_later words start k long (omega (arith, later)) (found.2 (k - start) (omega (arith, later, below)))))
