use Rattle.std.proofs.Common.{◌≡◌, ◌≤◌, take}
use Rattle.std.specs.List.{count_by}
use Rattle.slice_stages.specs.Stages.{is_retired}
use Rattle.slice_stages.proofs.stages.Stages.retired.Given as goal

abbrev pub invariant-loop-stage : goal.invariant-loop-stage
invariant-loop-stage l = (l.retired ≡ count_by is_retired (take l.stage-index l.stage-items)) × (l.retired ≤ l.stage-index)
