use Rattle.load_laws.proofs.OneLoad.{last_results, load_is_replied}
use Rattle.load_laws.proofs.whole_load.loads_are_answered_as_told.Goals as goal

pub returns-clause-replies : goal.returns-clause-replies
returns-clause-replies c = load_is_replied

pub returns-clause-results : goal.returns-clause-results
returns-clause-results c = last_results
