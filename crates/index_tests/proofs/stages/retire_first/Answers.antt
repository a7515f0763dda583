use Rattle.std.proofs.Common.{ap, ◌∙◌}
use Rattle.slice_stages.specs.Stages.{StageTable, after_end, stage_of, with_stage}
use Rattle.index_tests.proofs.stages.retire_first.Goals as goal

pub returns : goal.returns
returns c =
    c.end_column.ensures 1 0 (ap (λ (t : StageTable). stage_of t 0) c.requires) ∙ ap (λ (t : StageTable). with_stage t 0 (after_end t.columns 2 1 0)) c.requires
