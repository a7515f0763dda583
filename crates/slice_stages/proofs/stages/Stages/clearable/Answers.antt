use Rattle.std.proofs.Common.{MatchOption, subst}
use Rattle.slice_stages.specs.Stages.{IsRetiredBy, HoldsOfNone, IsLowest, StageTable}
use Rattle.slice_stages.proofs.SetLemmas.{lowest_of}
use Rattle.slice_stages.proofs.stages.Stages.clearable.Goals as goal

pub returns : goal.returns
returns c =
    let t : StageTable = record { columns = c.self.inside.columns; stages = c.self.inside.stages.items; mark = c.self.inside.mark } in
    subst (λ (x : StageTable). MatchOption c.lowest.result (HoldsOfNone (IsRetiredBy x.mark) x) (IsLowest (IsRetiredBy x.mark) x)) c.self.view_is
    (lowest_of (IsRetiredBy t.mark) t c.self.inside.clearable c.lowest.result c.self.invariant.sets.ready c.lowest.ensures)
