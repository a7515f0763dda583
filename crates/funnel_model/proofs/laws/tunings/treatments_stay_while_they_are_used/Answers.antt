use Rattle.funnel_model.proofs.TuningLemmas.{treat_clearing, treat_pending, treat_read}
use Rattle.funnel_model.proofs.laws.tunings.treatments_stay_while_they_are_used.Goals as goal

pub returns-clause-pending : goal.returns-clause-pending
returns-clause-pending c = treat_pending

pub returns-clause-clearing : goal.returns-clause-clearing
returns-clause-clearing c = treat_clearing

pub returns-clause-read : goal.returns-clause-read
returns-clause-read c = treat_read
