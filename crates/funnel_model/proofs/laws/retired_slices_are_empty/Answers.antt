use Rattle.funnel_model.specs.Slices.{Live, Pending}
use Rattle.funnel_model.proofs.Columns.{not_retired_by}
use Rattle.funnel_model.proofs.laws.retired_slices_are_empty.Goals as goal

pub returns-clause-not_pending : goal.returns-clause-not_pending
returns-clause-not_pending c limits history slice column pass legal retired in' is =
    not_retired_by limits history slice column (Pending pass) legal in' is (λ h. h) retired

pub returns-clause-not_live : goal.returns-clause-not_live
returns-clause-not_live c limits history slice column since d legal retired in' is =
    not_retired_by limits history slice column (Live d since) legal in' is (λ h. h) retired
