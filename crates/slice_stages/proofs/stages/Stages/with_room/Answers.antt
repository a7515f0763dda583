use Rattle.std.proofs.Common.{MatchOption, subst}
use Rattle.slice_stages.specs.Stages.{HasLeft, HoldsOfNone, IsLowest, StageTable}
use Rattle.slice_stages.proofs.SetLemmas.{lowest_of}
use Rattle.slice_stages.proofs.stages.Stages.with_room.Goals as goal

pub returns : goal.returns
returns c =
    let t : StageTable = record { columns = c.self.inside.columns; stages = c.self.inside.stages.items; mark = c.self.inside.mark } in
    subst (λ (x : StageTable). MatchOption c.lowest.result (HoldsOfNone (HasLeft x.columns) x) (IsLowest (HasLeft x.columns) x)) c.self.view_is
    (lowest_of (HasLeft t.columns) t c.self.inside.with_room c.lowest.result c.self.invariant.sets.left c.lowest.ensures)
