-- What is read of an atom of a search in a column of a slice: of each planned bit, that it is zero, that it is set, or nothing.
use Rattle.std.specs.Prelude.{◌≡◌, ℕ, ◌&&◌, Bool, true, false, List, All, Contains, map}
use Rattle.std.specs.List.{list_all, list_any}
use Rattle.funnel_model.specs.Events.{bits_on}
use Rattle.funnel_model.specs.Legal.{Limits}
use Rattle.funnel_model.specs.RowWords.{IsCommitted}
use Rattle.funnel_model.specs.Sizes.{words_of_slice}
use Rattle.funnel_model.specs.Tunings.{treat}
use Rattle.funnel_model.specs.declared.bit_list.Bit.{Bit}
use Rattle.funnel_model.specs.declared.config.Config.{Config}
use Rattle.funnel_model.specs.declared.event.Event.{Event}
use Rattle.row_layout.specs.DocumentBits.{bit_of_row}
use Rattle.row_layout.specs.Orders.{HasRowsOf}
use Rattle.row_layout.specs.Owners.{Owns, StandsOn, is_exact}
use Rattle.row_layout.specs.declared.row.Row.{Row}

-- what was read of a bit for one place of an atom
pub data BitRead : Type 0 where
  unread : BitRead
  as_zero : BitRead
  as_set : BitRead

abbrev pub is_zero : BitRead → Bool
is_zero as_zero = true
is_zero as_set = false
is_zero unread = false

abbrev pub is_set_read : BitRead → Bool
is_set_read as_set = true
is_set_read as_zero = false
is_set_read unread = false

-- the plan of an atom: the rows of its words, and whether each of its words is exact
pub record AtomPlan : Type 0 where
  pub rows : List Row
  pub exact : Bool

-- an atom as it was read in a column: what was read of the column's bit of each planned row, and whether each of its words is exact
pub record AtomRead : Type 0 where
  pub bits : List (Row × BitRead)
  pub exact : Bool

-- it is ruled out where a planned bit was read as zero
abbrev pub is_ruled_out : AtomRead → Bool
is_ruled_out read = list_any (λ b. is_zero b.1) read.bits

-- and known where each planned bit was read as set, and each of its words is exact
abbrev pub is_known : AtomRead → Bool
is_known read = read.exact && list_all (λ b. is_set_read b.1) read.bits

-- the plan is that of an atom with these words by this configuration
pub record IsPlanOf (config : Config) (words : List (List ℕ)) (plan : AtomPlan) : Type 0 where
  pub rows : HasRowsOf config words plan.rows
  pub exact : plan.exact ≡ list_all (is_exact config) words

-- what was read is of the planned bits
pub record IsReadOf (plan : AtomPlan) (read : AtomRead) : Type 0 where
  pub rows : map (λ b. b.0) read.bits ≡ plan.rows
  pub exact : read.exact ≡ plan.exact

-- a bit that was read as zero is such a bit, and one that was read as set such another
abbrev pub Tells : (Bit → Type 0) → (Bit → Type 0) → BitRead → Bit → Type 0
Tells IsZero IsSet as_zero bit = IsZero bit
Tells IsZero IsSet as_set bit = IsSet bit
Tells IsZero IsSet unread bit = Unit {0}

-- so it is of each bit that was read for an atom with this plan
pub record WasReadAs (IsZero IsSet : Bit → Type 0) (bit_of : Row → Bit) (plan : AtomPlan) (read : AtomRead) : Type 0 where
  pub of_plan : IsReadOf plan read
  pub tells : All (λ b. Tells IsZero IsSet b.1 (bit_of b.0)) read.bits

-- where the column owns the bit, each document that stands there has it
abbrev pub IsOfItsOwner : Limits → Config → List Event → ℕ → ℕ → Bit → Type 0
IsOfItsOwner limits opening history slice column bit =
    Owns limits opening history slice column bit → (event : Event) → StandsOn history slice column event → Contains (bits_on slice column event) bit

-- An atom with these words was read so at the column by a find that began after this history: a bit that it read as zero is of no
-- document that was added or moved to the slice since it was cleared, and one that it read as set is, where the column owns it, of each
-- document that stands there.
pub record WasReadAfter (limits : Limits) (opening : Config) (history : List Event) (slice column : ℕ) (words : List (List ℕ)) (read : AtomRead) : Type 0 where
  pub plan : AtomPlan
  pub planned : IsPlanOf (treat opening slice history) words plan
  pub read_as : WasReadAs (λ bit. IsCommitted history slice bit → ⊥) (IsOfItsOwner limits opening history slice column)
      (bit_of_row (words_of_slice opening) slice column) plan read
