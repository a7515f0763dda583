use Rattle.std.proofs.Common.{ap}
use Rattle.funnel_model.specs.Sizes.{columns_of_pool}
use Rattle.funnel_stats.proofs.TuningLemmas.{tuning-afresh, tuning-keeps}
use Rattle.funnel_stats.proofs.laws.tunings_change_statistics_alone.Goals as goal

pub returns-clause-kept : goal.returns-clause-kept
returns-clause-kept c = tuning-keeps

pub returns-clause-columns : goal.returns-clause-columns
returns-clause-columns c opening config text is = ap columns_of_pool (tuning-keeps opening config text is)

pub returns-clause-afresh : goal.returns-clause-afresh
returns-clause-afresh c = tuning-afresh
