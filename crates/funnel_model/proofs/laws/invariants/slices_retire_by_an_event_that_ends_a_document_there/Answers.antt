use Rattle.funnel_model.proofs.Invariants.{retires_by}
use Rattle.funnel_model.proofs.laws.invariants.slices_retire_by_an_event_that_ends_a_document_there.Goals as goal

pub returns : goal.returns
returns c = retires_by
