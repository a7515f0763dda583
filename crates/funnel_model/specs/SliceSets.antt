-- Sets of slices as bits of words.
use Rattle.std.specs.Prelude.{ℕ, ◌/◌, ◌%◌, ◌<◌, ◌≤◌, ◌≡◌, ◌==◌, Bool, List, slice_index, filter, Contains}
use Rattle.std.specs.Int.{bit_at}
use Rattle.std.specs.List.{range_with_len}
use Rattle.funnel_model.specs.declared.config.TheConstants.{MOST_SLICES}

-- slice 64 * i + k is in the set where bit k of word i is set
abbrev pub has_slice : List ℕ → ℕ → Bool
has_slice words slice = bit_at (slice_index words (slice / 64)) (slice % 64) == 1

-- the slices of the set in rising order
abbrev pub slices_of : List ℕ → List ℕ
slices_of words = filter (has_slice words) (range_with_len 0 MOST_SLICES)

-- no slice is in the set
abbrev pub IsEmpty : List ℕ → Type 0
IsEmpty set = (slice : ℕ) → Contains set slice → ⊥

-- the slice is the lowest of the set
pub record IsLowestOf (set : List ℕ) (slice : ℕ) : Type 0 where
  pub in_set : Contains set slice
  pub lowest : (lower : ℕ) → lower < slice → Contains set lower → ⊥

-- no slice from this one on is in the set
abbrev pub HasNoneFrom : List ℕ → ℕ → Type 0
HasNoneFrom set from = (slice : ℕ) → from ≤ slice → Contains set slice → ⊥

-- the slice is the lowest of the set from that one on
pub record IsFirstFrom (set : List ℕ) (from slice : ℕ) : Type 0 where
  pub in_set : Contains set slice
  pub from_on : from ≤ slice
  pub lowest : (lower : ℕ) → from ≤ lower → lower < slice → Contains set lower → ⊥

-- the bit is the lowest that is set in the word
pub record IsLowestBit (word bit : ℕ) : Type 0 where
  pub in_range : bit < 64
  pub set : bit_at word bit ≡ 1
  pub lowest : (lower : ℕ) → lower < bit → bit_at word lower ≡ 0

-- the bit is the lowest that is set in the word from that one on
pub record IsLowestBitFrom (word from bit : ℕ) : Type 0 where
  pub in_range : bit < 64
  pub from_on : from ≤ bit
  pub set : bit_at word bit ≡ 1
  pub lowest : (lower : ℕ) → from ≤ lower → lower < bit → bit_at word lower ≡ 0
