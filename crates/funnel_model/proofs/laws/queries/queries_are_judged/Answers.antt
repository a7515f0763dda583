use Rattle.std.proofs.Common.{ap}
use Rattle.std.specs.Option.{is_some}
use Rattle.funnel_model.proofs.StepCauses.{query_not_made, query_outcome}
use Rattle.funnel_model.proofs.laws.queries.queries_are_judged.Goals as goal

pub returns-clause-no_event : goal.returns-clause-no_event
returns-clause-no_event c limits pass before after asked expr given searches = query_not_made limits pass before after asked given (ap is_some searches)

pub returns-clause-cases : goal.returns-clause-cases
returns-clause-cases c limits pass before after asked expr given searches = query_outcome limits pass before after asked given (ap is_some searches)
