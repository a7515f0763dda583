use Rattle.std.proofs.Common.{ap, ◌∙◌}
use Rattle.slice_stages.specs.Stages.{StageTable, stage_of, with_stage}
use Rattle.slice_stages.specs.declared.stage.Stage.TheVariants as stage
use Rattle.index_tests.proofs.stages.fill_first.Goals as goal

pub returns-clause-column : goal.returns-clause-column
returns-clause-column c = (c.claim.ensures 0 0 (ap (λ (t : StageTable). stage_of t 0) c.requires)).0

pub returns-clause-filled : goal.returns-clause-filled
returns-clause-filled c =
    (c.claim.ensures 0 0 (ap (λ (t : StageTable). stage_of t 0) c.requires)).1 ∙ ap (λ (t : StageTable). with_stage t 0 (stage.InUse 1 0)) c.requires
