use Rattle.funnel_stats.proofs.TuningLemmas.{tuned-gives, tuned-given, tuned-wide, tuned-faulty, tuning-numbers}
use Rattle.funnel_stats.proofs.laws.texts_are_tuned_by_what_they_give.Goals as goal

pub returns-clause-gives : goal.returns-clause-gives
returns-clause-gives c = tuned-gives

pub returns-clause-wide : goal.returns-clause-wide
returns-clause-wide c = tuned-wide

pub returns-clause-faulty : goal.returns-clause-faulty
returns-clause-faulty c = tuned-faulty

pub returns-clause-numbers : goal.returns-clause-numbers
returns-clause-numbers c = tuning-numbers

pub returns-clause-given : goal.returns-clause-given
returns-clause-given c = tuned-given
