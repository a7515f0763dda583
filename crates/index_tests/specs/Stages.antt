-- Two slices of one column each, as a test leads them from step to step.
use Rattle.std.specs.Prelude.{[], ◌∷◌}
use Rattle.slice_stages.specs.Stages.{StageTable, empty_stage}
use Rattle.slice_stages.specs.declared.stage.Stage.TheVariants as stage

abbrev pub unfilled : StageTable
unfilled = record { columns = 1; stages = empty_stage ∷ empty_stage ∷ []; mark = 0 }

-- the column of the first slice is claimed
abbrev pub filled : StageTable
filled = record { columns = 1; stages = stage.InUse 1 0 ∷ empty_stage ∷ []; mark = 0 }

-- and then deleted, by the second event
abbrev pub retired : StageTable
retired = record { columns = 1; stages = stage.Retired 2 ∷ empty_stage ∷ []; mark = 0 }

-- the mark is at that event
abbrev pub seen : StageTable
seen = record retired { mark = 2 }

-- the pass with number 3 clears the slice
abbrev pub cleared : StageTable
cleared = record { columns = 1; stages = stage.Clearing 3 ∷ empty_stage ∷ []; mark = 2 }
