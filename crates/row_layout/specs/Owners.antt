-- Bits that belong to one column each, those of the private rows, words that such a bit tells, and what holds of those that are set.
use Rattle.std.specs.Prelude.{◌≡◌, ℕ, ◌<◌, Bool, true, false, List, ◌∷◌, ◌++◌, Contains}
use Rattle.std.specs.List.{list_any}
use Rattle.std.specs.Option.{is_some}
use Rattle.funnel_model.specs.Events.{bits_on, clears, put_on}
use Rattle.funnel_model.specs.Legal.{IsInSlice, Limits}
use Rattle.funnel_model.specs.Sizes.{columns_of_slice, has_private_row}
use Rattle.funnel_model.specs.Slices.{is_claimed}
use Rattle.funnel_model.specs.Tunings.{treat}
use Rattle.funnel_model.specs.declared.bit_list.Bit.{Bit}
use Rattle.funnel_model.specs.declared.config.Config.{Config}
use Rattle.funnel_model.specs.declared.event.Event.{Event}
use Rattle.row_layout.specs.DocumentBits.{bit_of_row}
use Rattle.row_layout.specs.Rows.{IsPrivateRow, rows_of_word}
use Rattle.row_layout.specs.declared.row.Row.{Row}

-- whether the word is exact: it has a row of its own, which no other word has
abbrev pub is_exact : Config → List ℕ → Bool
is_exact config word = has_private_row config word

-- the column of the slice owns the bit: it is one of the slice's columns, and the bit is that of a private row there and lies in the
-- slice, where each slice has room for this many words
pub record OwnsIn (room : ℕ) (config : Config) (slice column : ℕ) (bit : Bit) : Type 0 where
  pub row : Row
  pub private : IsPrivateRow config row
  pub is_its : bit ≡ bit_of_row room slice column row
  pub in_slice : column < columns_of_slice config
  pub inside : IsInSlice room slice bit.word

-- no column of the slice owns the bit but this one
abbrev pub IsOwnedOnlyAt : ℕ → Config → ℕ → ℕ → Bit → Type 0
IsOwnedOnlyAt room config slice column bit = (at : ℕ) → OwnsIn room config slice at bit → at ≡ column

-- the column is one of the engine's and owns the bit under the treatment of its slice, in an engine of these sizes that was opened with
-- this configuration
pub record Owns (limits : Limits) (opening : Config) (history : List Event) (slice column : ℕ) (bit : Bit) : Type 0 where
  pub in_engine : column < limits.columns
  pub treated : OwnsIn limits.slice_words (treat opening slice history) slice column bit

-- the event put a document on the column, and the slice wasn't cleared since
pub record StandsOn (history : List Event) (slice column : ℕ) (event : Event) : Type 0 where
  pub earlier : List Event
  pub later : List Event
  pub whole : history ≡ earlier ++ event ∷ later
  pub puts : is_some (put_on slice column event) ≡ true
  pub stays : list_any (clears slice) later ≡ false

-- the bits that are set keep to their owners: the column that owns a set bit is claimed, and each add or move that stands on that
-- column has the bit among its bits
pub record KeepToOwners (limits : Limits) (opening : Config) (history : List Event) (IsSet : Bit → Type 0) : Type 0 where
  pub claimed : (slice column : ℕ) (bit : Bit) → IsSet bit → Owns limits opening history slice column bit → is_claimed slice column history ≡ true
  pub among : (slice column : ℕ) (bit : Bit) (event : Event) → IsSet bit → Owns limits opening history slice column bit
      → StandsOn history slice column event → Contains (bits_on slice column event) bit

-- the bit is, at the column of the slice, that of the row of an exact word of a document with these words
pub record IsOfExactWord (room : ℕ) (config : Config) (words : List (List ℕ)) (slice column : ℕ) (bit : Bit) : Type 0 where
  pub word : List ℕ
  pub has : Contains words word
  pub exact : is_exact config word ≡ true
  pub row : Row
  pub its_row : Contains (rows_of_word config word) row
  pub is_its : bit ≡ bit_of_row room slice column row
