use Rattle.std.proofs.Common.{ap}
use Rattle.slice_stages.specs.Stages.{StageTable, stage_of}
use Rattle.index_tests.proofs.stages.open_first.Goals as goal

pub open-requires-clause-clearing : goal.open-requires-clause-clearing
open-requires-clause-clearing c = (3, ap (λ (t : StageTable). stage_of t 0) c.requires)
