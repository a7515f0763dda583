-- What a scan appends to candidates.
use Rattle.std.specs.Prelude.{◌≡◌, ℕ, ◌<◌, ◌++◌, List, map, drop, length, All, Contains, OnOk, Result}
use Rattle.std.specs.List.Sorted.{IsStrictlySortedBy}
use Rattle.std.specs.Ordering.{nat_cmp}
use Rattle.funnel_model.specs.declared.bit_list.Bit.{Bit}
use Rattle.funnel_model.specs.declared.memory.Memory.{Memory}
use Rattle.funnel_model.specs.Sizes.{columns_of_slice}
use Rattle.row_layout.specs.DocumentBits.{bit_of_row}
use Rattle.row_layout.specs.Layouts.{LayoutId}
use Rattle.row_layout.specs.declared.row.Row.{Row}

-- the columns of the candidates after those that were there before
abbrev pub appended : List (ℕ × ℕ) → List (ℕ × ℕ) → List ℕ
appended before after = map (λ candidate. candidate.1) (drop (length before) after)

-- candidates of a slice, by their columns
abbrev pub candidates_of : ℕ → List ℕ → List (ℕ × ℕ)
candidates_of slice columns = map (λ column. (slice, column)) columns

-- the second list begins with the first
abbrev pub IsBeginning : List ℕ → List ℕ → Type 0
IsBeginning front whole = (rest : List ℕ) × (whole ≡ front ++ rest)

-- candidates of these columns are appended, from the first on, perhaps not all
abbrev pub AppendsBeginning : ℕ → List ℕ → List (ℕ × ℕ) → List (ℕ × ℕ) → Type 0
AppendsBeginning slice columns old new = (front : List ℕ) × IsBeginning front columns × (new ≡ old ++ candidates_of slice front)

-- of this column of the slice, the bits in all of these rows are such bits
abbrev pub HasBits : (Bit → Type 0) → LayoutId → List Row → ℕ → ℕ → Type 0
HasBits IsOne layout rows slice column = All (λ row. IsOne (bit_of_row layout.room slice column row)) rows

-- each column of the slice that has such bits in all of these rows is among these
abbrev pub HasEachWithBits : (Bit → Type 0) → LayoutId → List Row → ℕ → List ℕ → Type 0
HasEachWithBits IsOne layout rows slice columns =
    (column : ℕ) → column < columns_of_slice layout.config → HasBits IsOne layout rows slice column → Contains columns column

-- columns of the slice are appended, in rising order
pub record AppendsColumns (layout : LayoutId) (slice : ℕ) (old new : List (ℕ × ℕ)) : Type 0 where
  pub appends : new ≡ old ++ candidates_of slice (appended old new)
  pub in_slice : All (λ column. column < columns_of_slice layout.config) (appended old new)
  pub rising : IsStrictlySortedBy nat_cmp (appended old new)

-- at its end the scan has found each column of the slice whose bits in all of these rows must be there, and it finds none of which some
-- bit wasn't seen
pub record FindsBits (least seen : Bit → Type 0) (layout : LayoutId) (plan : List Row) (slice : ℕ) (answer : Result (Unit {0}) Memory) (columns : List ℕ) : Type 0 where
  pub covered : OnOk answer (HasEachWithBits least layout plan slice columns)
  pub were_seen : All (HasBits seen layout plan slice) columns
