-- The sets and the queue that are kept beside the stages.
use Rattle.std.specs.Prelude.{ℕ, ◌≡◌, ◌<◌, ◌≤◌, ◌↔◌, List, length, All, Contains}
use Rattle.std.specs.List.{AllPairs}
use Rattle.circular_buffer.specs.Buffer.{Buffer}
use Rattle.funnel_model.specs.declared.config.TheConstants.{MOST_SLICES}
use Rattle.slice_stages.specs.Stages.{HasLeft, IsRetiredBy, IsUsed, StageTable, spare_of, stage_of}
use Rattle.slice_stages.specs.declared.stage.Stage.{Stage}
use Rattle.slice_stages.specs.declared.stage.Stage.TheVariants as stage

-- the set has the slices of which this holds
abbrev pub AreAll : (Stage → Type 0) → StageTable → List ℕ → Type 0
AreAll holds table set = (slice : ℕ) → Contains set slice ↔ ((slice < length table.stages) × holds (stage_of table slice))

-- it retired after the event with this number
abbrev pub IsWaiting : ℕ → Stage → Type 0
IsWaiting mark (stage.Retired at) = mark < at
IsWaiting mark _ = ⊥

-- the first retired before the other
abbrev pub IsBefore : Stage → Stage → Type 0
IsBefore (stage.Retired at) (stage.Retired later) = at < later
IsBefore _ _ = ⊥

-- the slices that wait, in the order in which they retired
pub record AreQueued (table : StageTable) (waiting : List ℕ) : Type 0 where
  pub all : AreAll (IsWaiting table.mark) table waiting
  pub order : AllPairs (λ slice later. IsBefore (stage_of table slice) (stage_of table later)) waiting

-- fewer columns are over than there are
abbrev pub HasColumnsLeft : ℕ → Stage → Type 0
HasColumnsLeft columns (stage.InUse claimed over) = over < columns
HasColumnsLeft columns _ = Unit {0}

-- the slices in use, those with a column left, those that can be cleared, and those that wait
pub record AreSets (table : StageTable) (in_use with_room clearable : List ℕ) (waiting : Buffer ℕ) : Type 0 where
  pub few : length table.stages ≤ MOST_SLICES
  pub some : 1 ≤ table.columns
  pub within : All (HasColumnsLeft table.columns) table.stages
  pub used : AreAll IsUsed table in_use
  pub left : AreAll (HasLeft table.columns) table with_room
  pub ready : AreAll (IsRetiredBy table.mark) table clearable
  pub queue : AreQueued table waiting.items
  pub room : length table.stages ≤ waiting.capacity

-- beside them the spare columns are counted
pub record AreKept (table : StageTable) (in_use with_room clearable : List ℕ) (waiting : Buffer ℕ) (spare : ℕ) : Type 0 where
  pub sets : AreSets table in_use with_room clearable waiting
  pub counted : spare ≡ spare_of table
