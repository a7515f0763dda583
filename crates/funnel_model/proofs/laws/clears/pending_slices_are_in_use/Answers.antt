use Rattle.funnel_model.proofs.Clears.{pending_in_range, pending_not_clearing, pending_not_retired}
use Rattle.funnel_model.proofs.laws.clears.pending_slices_are_in_use.Goals as goal

pub returns-clause-not_retired : goal.returns-clause-not_retired
returns-clause-not_retired c = pending_not_retired

pub returns-clause-not_clearing : goal.returns-clause-not_clearing
returns-clause-not_clearing c = pending_not_clearing

pub returns-clause-in_range : goal.returns-clause-in_range
returns-clause-in_range c = pending_in_range
