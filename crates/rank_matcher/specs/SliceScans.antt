-- What a scan of a slice asks, and what it does whether the row words are told or not.
use Rattle.std.specs.Prelude.{ℕ, ◌+◌, ◌<◌, ◌≤◌, List, All, Result}
use Rattle.funnel_model.specs.declared.bit_list.Bit.{Bit}
use Rattle.funnel_model.specs.declared.memory.Memory.{Memory}
use Rattle.funnel_model.specs.Legal.{IsInSlice}
use Rattle.row_layout.specs.Layouts.{LayoutId}
use Rattle.row_layout.specs.declared.row.Row.{Row}
use Rattle.row_layout.specs.Rows.{IsRowOf}
use Rattle.rank_matcher.specs.Appended.{AppendsColumns, FindsBits, appended}
use Rattle.rank_matcher.specs.Reads.{shown_reads, words_of_plan}

-- the layout has the slice and the planned rows, and each word of the slice may be read
pub record CanScanSlice (reach : ℕ → Type 0) (layout : LayoutId) (plan : List Row) (slice : ℕ) : Type 0 where
  pub in_range : slice < layout.config.slices
  pub laid : All (IsRowOf layout.config) plan
  pub reaches : (word : ℕ) → IsInSlice layout.room slice word → reach word

-- A scan of the slice was answered so: it appended columns of the slice, in rising order, where it ended each that it must find, and none
-- whose bits it did not see; and it read no more words than the planned rows have.
pub record ScansSlice (least seen : Bit → Type 0) (layout : LayoutId) (plan : List Row) (slice : ℕ) (answer : Result (Unit {0}) Memory) (old new : List (ℕ × ℕ)) (reads reads_after : ℕ) : Type 0 where
  pub appends : AppendsColumns layout slice old new
  pub bits : FindsBits least seen layout plan slice answer (appended old new)
  pub reads_at_most : shown_reads reads_after ≤ reads + words_of_plan plan
