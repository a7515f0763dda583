use Rattle.std.proofs.Common.{◌≡◌, ◌*◌, ◌≤◌, take}
use Rattle.std.specs.List.{sum_by}
use Rattle.slice_stages.specs.Stages.{free_in}
use Rattle.slice_stages.proofs.stages.Stages.free.Given as goal

abbrev pub invariant-loop-stage : goal.invariant-loop-stage
invariant-loop-stage l = (l.free ≡ sum_by (free_in l.self.columns) (take l.stage-index l.stage-items)) × (l.free ≤ l.stage-index * 4294967295)
