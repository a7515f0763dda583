use Rattle.std.proofs.Common.{refl}
use Rattle.funnel_model.proofs.TuneFacts.{cleared_is_legal}
use Rattle.funnel_model.proofs.laws.tunings.treatment_example.Goals as goal

pub returns-clause-legal : goal.returns-clause-legal
returns-clause-legal c = cleared_is_legal

pub returns-clause-tuned : goal.returns-clause-tuned
returns-clause-tuned c opening second third = refl

pub returns-clause-used : goal.returns-clause-used
returns-clause-used c opening second third = refl

pub returns-clause-cleared : goal.returns-clause-cleared
returns-clause-cleared c opening second third = refl
