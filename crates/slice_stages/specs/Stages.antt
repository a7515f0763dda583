-- What is kept of each slice, and the sets that it makes.
use Rattle.std.specs.Prelude.{◌≡◌, ℕ, ◌+◌, ◌-◌, ◌<◌, ◌≤◌, ◌==◌, nat_le, Bool, true, false, List, length, sum_by, slice_index_or, slice_set, if◌then◌else◌}
use Rattle.slice_stages.specs.declared.stage.Stage.{Stage}
use Rattle.slice_stages.specs.declared.stage.Stage.TheVariants as stage

-- the columns of a slice, how far each slice is, and the mark: the slices that retired up to the event with this number can be
-- cleared, and those that retired later wait
pub record StageTable : Type 0 where
  pub columns : ℕ
  pub stages : List Stage
  pub mark : ℕ

-- a slice of which no column is claimed
abbrev pub empty_stage : Stage
empty_stage = stage.InUse 0 0

-- how far the slice is
abbrev pub stage_of : StageTable → ℕ → Stage
stage_of table slice = slice_index_or table.stages slice empty_stage

-- the table with another stage for one slice
abbrev pub with_stage : StageTable → ℕ → Stage → StageTable
with_stage table slice next = record table { stages = slice_set table.stages slice next }

-- how many columns of the slice are spare: those that aren't claimed, and all of a slice that is retired or being cleared
abbrev pub spare_in : ℕ → Stage → ℕ
spare_in columns (stage.InUse claimed over) = columns - claimed
spare_in columns _ = columns

-- and of all slices
abbrev pub spare_of : StageTable → ℕ
spare_of table = sum_by (spare_in table.columns) table.stages

-- how many of them are ready: none where the slice is being cleared, or retired after the mark
abbrev pub ready_in : ℕ → ℕ → Stage → ℕ
ready_in columns mark (stage.InUse claimed over) = columns - claimed
ready_in columns mark (stage.Retired at) = if nat_le at mark then columns else 0
ready_in columns mark (stage.Clearing pass) = 0

abbrev pub ready_of : StageTable → ℕ
ready_of table = sum_by (ready_in table.columns table.mark) table.stages

-- how many columns of the slice are unclaimed: none where it is retired or being cleared
abbrev pub free_in : ℕ → Stage → ℕ
free_in columns (stage.InUse claimed over) = columns - claimed
free_in columns _ = 0

abbrev pub free_of : StageTable → ℕ
free_of table = sum_by (free_in table.columns) table.stages

-- whether the slice is retired
abbrev pub is_retired : Stage → Bool
is_retired (stage.Retired at) = true
is_retired _ = false

-- how many columns of the slice are claimed and not over
abbrev pub held_in : Stage → ℕ
held_in (stage.InUse claimed over) = claimed - over
held_in _ = 0

-- it may be filled and read
abbrev pub IsUsed : Stage → Type 0
IsUsed (stage.InUse claimed over) = Unit {0}
IsUsed _ = ⊥

-- some of its columns is left
abbrev pub HasLeft : ℕ → Stage → Type 0
HasLeft columns (stage.InUse claimed over) = claimed < columns
HasLeft columns _ = ⊥

-- it retired up to the event with this number
abbrev pub IsRetiredBy : ℕ → Stage → Type 0
IsRetiredBy mark (stage.Retired at) = at ≤ mark
IsRetiredBy mark _ = ⊥

-- it retired before the event with this number, where it is retired
abbrev pub RetiredBefore : ℕ → Stage → Type 0
RetiredBefore event (stage.Retired at) = at < event
RetiredBefore event _ = Unit {0}

-- it retired after the first of these events, and up to the second
abbrev pub RetiredIn : ℕ → ℕ → Stage → Type 0
RetiredIn after mark (stage.Retired at) = (after < at) × (at ≤ mark)
RetiredIn after mark _ = ⊥

-- the slice is the lowest of which this holds
pub record IsLowest (holds : Stage → Type 0) (table : StageTable) (slice : ℕ) : Type 0 where
  pub in_range : slice < length table.stages
  pub is : holds (stage_of table slice)
  pub lowest : (lower : ℕ) → lower < slice → holds (stage_of table lower) → ⊥

-- it holds of no slice
abbrev pub HoldsOfNone : (Stage → Type 0) → StageTable → Type 0
HoldsOfNone holds table = (slice : ℕ) → slice < length table.stages → holds (stage_of table slice) → ⊥

-- the stage after one more of its columns is over, by the event with this number
abbrev pub after_end : ℕ → ℕ → ℕ → ℕ → Stage
after_end columns event claimed over = if over + 1 == columns then stage.Retired event else stage.InUse claimed (over + 1)

-- the next column of a slice, whose number is how many were claimed, is claimed
abbrev pub ClaimsNext : StageTable → ℕ → ℕ → StageTable → Type 0
ClaimsNext before slice column after =
    (claimed over : ℕ) → stage_of before slice ≡ stage.InUse claimed over
    → (column ≡ claimed) × (after ≡ with_stage before slice (stage.InUse (claimed + 1) over))

-- one more column of a slice is over, by the event with this number
abbrev pub EndsColumn : StageTable → ℕ → ℕ → StageTable → Type 0
EndsColumn before slice event after =
    (claimed over : ℕ) → stage_of before slice ≡ stage.InUse claimed over → after ≡ with_stage before slice (after_end before.columns event claimed over)
