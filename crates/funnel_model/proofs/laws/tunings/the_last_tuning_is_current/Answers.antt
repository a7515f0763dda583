use Rattle.std.proofs.Common.{[]}
use Rattle.funnel_model.proofs.TuningLemmas.{current-later, current_tuned}
use Rattle.funnel_model.proofs.laws.tunings.the_last_tuning_is_current.Goals as goal

pub returns-clause-opening : goal.returns-clause-opening
returns-clause-opening c opening history none = current-later opening [] history none

pub returns-clause-tuned : goal.returns-clause-tuned
returns-clause-tuned c = current_tuned
