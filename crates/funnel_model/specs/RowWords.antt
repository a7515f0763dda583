-- What a history promises of the row words of all slices, which are a list of words of 64 bits.
use Rattle.std.specs.Prelude.{ℕ, ◌<◌, ◌≡◌, false, List, [], ◌∷◌, ◌++◌, slice_index, Contains, IsBitSet}
use Rattle.std.specs.List.{list_any}
use Rattle.funnel_model.specs.declared.bit_list.Bit.{Bit}
use Rattle.funnel_model.specs.declared.event.Event.{Event}
use Rattle.funnel_model.specs.Events.{bits_added_in, clears}
use Rattle.funnel_model.specs.Legal.{Limits, IsInSlice}
use Rattle.funnel_model.specs.Slices.{claimed}

-- the bit is set in its word
abbrev pub IsSetIn : List ℕ → Bit → Type 0
IsSetIn words b = IsBitSet (slice_index words b.word) b.bit

-- the history has committed the bit in the slice: it is one of a document that was added or moved there, deleted since or not, and
-- the slice wasn't cleared since
pub record IsCommitted (history : List Event) (slice : ℕ) (b : Bit) : Type 0 where
  pub earlier : List Event
  pub event : Event
  pub later : List Event
  pub whole : history ≡ earlier ++ event ∷ later
  pub added : Contains (bits_added_in slice event) b
  pub stays : list_any (clears slice) later ≡ false

-- the words cover the history: each bit that it has committed is set
abbrev pub Covers : List ℕ → List Event → Type 0
Covers words history = (slice : ℕ) (b : Bit) → IsCommitted history slice b → IsSetIn words b

-- all words of the slice are zero
abbrev pub IsZeroIn : Limits → List ℕ → ℕ → Type 0
IsZeroIn limits words slice = (word : ℕ) → IsInSlice limits.slice_words slice word → slice_index words word ≡ 0

-- the words of each slice of which no column is claimed are zero
abbrev pub AreFresh : Limits → List ℕ → List Event → Type 0
AreFresh limits words history = (slice : ℕ) → slice < limits.slices → claimed slice history ≡ [] → IsZeroIn limits words slice
