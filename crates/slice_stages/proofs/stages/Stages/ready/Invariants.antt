use Rattle.std.proofs.Common.{◌≡◌, ◌*◌, ◌≤◌, take}
use Rattle.std.specs.List.{sum_by}
use Rattle.slice_stages.specs.Stages.{ready_in}
use Rattle.slice_stages.proofs.stages.Stages.ready.Given as goal

abbrev pub invariant-loop-stage : goal.invariant-loop-stage
invariant-loop-stage l = (l.ready ≡ sum_by (ready_in l.self.columns l.self.mark) (take l.stage-index l.stage-items)) × (l.ready ≤ l.stage-index * 4294967295)
