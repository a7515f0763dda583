use Rattle.funnel_model.proofs.ConfigurationLemmas.{columns_of_tuning, tuning_is_valid}
use Rattle.funnel_model.proofs.laws.tunings.tunings_that_fit_are_valid.Goals as goal

pub returns-clause-columns : goal.returns-clause-columns
returns-clause-columns c = columns_of_tuning

pub returns-clause-valid : goal.returns-clause-valid
returns-clause-valid c = tuning_is_valid
