use Rattle.std.proofs.Common.{[]}
use Rattle.funnel_model.proofs.Histories.{allowed_within, goes_on_from_each}
use Rattle.funnel_model.proofs.laws.legal_event_by_event.Goals as goal

pub returns : goal.returns
returns c limits history = (
  λ legal before e later is. allowed_within limits history before e later legal is,
  λ each. goes_on_from_each limits [] history each,
)
